-- What the small script of the samples says: its lines are text, and the rest is computed, line by line.
use Rattle.std.proofs.Common.{◌≡◌, ℕ, true, false, Option, Some, None, List, [], ◌∷◌, ◌++◌, refl, ap, ◌∙◌, arith}
use Rattle.std.specs.Prelude.{codes, map, option_map}
use Rattle.std.specs.Option.{option_map_or, option_to_list}
use Rattle.std.proofs.lemmas.List.{take_all, append-nil}
use Rattle.std.proofs.lemmas.Fmt.{decimal_digit}
use Rattle.coop_request.specs.Request.{Request}
use Rattle.element_name.specs.Cases.{◌>>=◌}
use Rattle.line_engine.specs.declared.limits.TheConstants.{MAX_INPUT}
use Rattle.line_spelling.specs.Line.{line_of}
use Rattle.line_engine.specs.Input.{lines_of}
use Rattle.line_engine.specs.Run.{LineTurn, turn_of_line}
use Rattle.peer_step.specs.declared.step.LocalEdit.TheVariants.{Insert}
use Rattle.peer_step.specs.declared.step.Step.TheVariants.{Edit, Show}
use Rattle.peer_step.specs.declared.answer.Answer.TheVariants.{Done}
use Rattle.line_spelling.specs.Answers.{answer_line}
use Rattle.peer_core.specs.Peer.{Peer, text}
use Rattle.peer_core.specs.Local.{new_request}
use Rattle.replay_net.specs.declared.reply.Reply.TheVariants.{Answered}
use Rattle.form_replay.specs.Reply.{reply_line}
use Rattle.replay_net.specs.declared.line.Line.{Line}
use Rattle.replay_net.specs.declared.line.Line.TheVariants.{Peers, Local}
use Rattle.replay_net.specs.World.{World, fresh_world, peer_of, turn_of}
use Rattle.replay_net.proofs.AsciiText.{ascii_is_text}
use Rattle.line_read.specs.Numbers.{read_number}
use Rattle.line_read.specs.Pieces.{read_piece}
use Rattle.line_read.specs.Step.{read_local_edit}
use Rattle.script_text.specs.Line.{read_own, read_local, script_line}
use Rattle.form_replay.specs.Replay.{script_turn, opening_turn, reply_turn}
use Rattle.form_replay.specs.Headline.{ShowLine, asked_peer, shown_peer, first_show, behind, show_lines, shows_of}
use Rattle.form_replay.specs.Samples.{small_script, ShowsOfScript, TextOfScript}

-- the letter is written
abbrev pub letter_line : Line
letter_line = Local 0 (Edit (Insert 0 (codes "a")))

-- what the lines say

first_line : script_line true 0 (codes "peers 1") ≡ Some (Peers 1)
unfolding read_number
first_line = rw (ascii_is_text (codes "peers 1") refl) refl

second_line : script_line false 1 (codes "0 insert 0 a") ≡ Some letter_line
unfolding read_number read_piece read_local_edit read_own read_local
second_line = rw (ascii_is_text (codes "0 insert 0 a") refl, ascii_is_text (codes "a") refl) refl

third_line : script_line false 1 (codes "show 0") ≡ Some (Local 0 Show)
unfolding read_number
third_line = rw (ascii_is_text (codes "show 0") refl) refl

-- the world of one peer, and that after the letter was written
abbrev pub fresh : World
fresh = fresh_world 1

abbrev pub written : World
written = (turn_of fresh letter_line).after

-- a line that is played, and those behind it
one_line : (w : Option World) (line : List ℕ) (lines : List (List ℕ)) (t : LineTurn (Option World)) (shown : Option Peer)
    → turn_of_line script_turn w line ≡ Some t → shown_peer w line ≡ shown
    → show_lines w (line ∷ lines) ≡ map first_show (option_to_list shown) ++ map (behind t.reply) (show_lines t.world lines)
one_line w line lines t shown turn is =
    ap (λ (o : Option (LineTurn (Option World))). option_map_or (λ u. map first_show (option_to_list (shown_peer w line)) ++ map (behind u.reply) (show_lines u.world lines)) o []) turn
    ∙ ap (λ (o : Option Peer). map first_show (option_to_list o) ++ map (behind t.reply) (show_lines t.world lines)) is

third_shows : show_lines (Some written) (codes "show 0" ∷ []) ≡ first_show (peer_of written 0) ∷ []
third_shows =
    one_line (Some written) (codes "show 0") [] (reply_turn written (Local 0 Show)) (Some (peer_of written 0))
    (ap (option_map (reply_turn written)) third_line) (ap (λ (o : Option Line). o >>= asked_peer written) third_line)

second_shows : show_lines (Some fresh) (codes "0 insert 0 a" ∷ codes "show 0" ∷ []) ≡ behind (reply_turn fresh letter_line).reply (first_show (peer_of written 0)) ∷ []
second_shows =
    one_line (Some fresh) (codes "0 insert 0 a") (codes "show 0" ∷ []) (reply_turn fresh letter_line) None
    (ap (option_map (reply_turn fresh)) second_line) (ap (λ (o : Option Line). o >>= asked_peer fresh) second_line)
    ∙ ap (map (behind (reply_turn fresh letter_line).reply)) third_shows

first_shows : show_lines None (codes "peers 1" ∷ codes "0 insert 0 a" ∷ codes "show 0" ∷ []) ≡ behind [] (behind (reply_turn fresh letter_line).reply (first_show (peer_of written 0))) ∷ []
first_shows =
    one_line None (codes "peers 1") (codes "0 insert 0 a" ∷ codes "show 0" ∷ []) (record { reply = []; world = Some fresh }) None
    (ap (λ (o : Option Line). o >>= opening_turn) first_line) refl
    ∙ ap (map (behind [])) second_shows

-- the lines of the script
script_lines : lines_of false small_script ≡ codes "peers 1" ∷ codes "0 insert 0 a" ∷ codes "show 0" ∷ []
script_lines = refl

script_shows : shows_of small_script ≡ behind [] (behind (reply_turn fresh letter_line).reply (first_show (peer_of written 0))) ∷ []
script_shows =
    ap (λ (bytes : List ℕ). show_lines None (lines_of false bytes)) (take_all MAX_INPUT small_script (omega arith))
    ∙ ap (show_lines None) script_lines ∙ first_shows

-- the answer to the edit
abbrev pub letter_request : Request
letter_request = new_request (peer_of fresh 0) (Insert 0 (codes "a"))

letter_answer : (turn_of fresh letter_line).reply ≡ Answered (Some 1) (Done letter_request)
letter_answer = refl

letter_spelled : answer_line (Some 1) (Done letter_request) ≡ line_of (codes "done 1 1.0 0")
letter_spelled = rw (decimal_digit 1 (omega arith), decimal_digit 0 (omega arith)) refl

-- what stands before one show behind one reply
one_before : (shows : List ShowLine) (reply line : List ℕ) (p : Peer) → shows ≡ behind [] (behind reply (first_show p)) ∷ [] → reply ≡ line
    → map (λ s. s.before) shows ≡ line ∷ []
one_before shows reply line p is spelled =
    ap (map (λ (s : ShowLine). s.before)) is ∙ ap (λ (bytes : List ℕ). (bytes ++ []) ∷ []) spelled ∙ ap (λ (bytes : List ℕ). bytes ∷ []) (append-nil line)

pub shows_of_script : ShowsOfScript
shows_of_script =
    one_before (shows_of small_script) (reply_turn fresh letter_line).reply (line_of (codes "done 1 1.0 0")) (peer_of written 0) script_shows
    (ap reply_line letter_answer ∙ letter_spelled)

pub text_of_script : TextOfScript
text_of_script = ap (map (λ (s : ShowLine). text s.peer)) script_shows ∙ refl
