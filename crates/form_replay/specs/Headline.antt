-- What the `show` lines of a script write.
use Rattle.std.specs.Prelude.{◌≡◌, ℕ, Bool, true, false, List, [], ◌∷◌, ◌++◌, Option, None, Some, length, map, All}
use Rattle.std.specs.Option.{option_map_or, option_to_list}
use Rattle.element_name.specs.Cases.{when, ◌>>=◌}
use Rattle.line_engine.specs.Output.{Begins}
use Rattle.line_engine.specs.Input.{is_cut, counted_bytes, lines_of}
use Rattle.line_engine.specs.Run.{turn_of_line}
use Rattle.peer_step.specs.declared.step.Step.{Step}
use Rattle.peer_step.specs.declared.step.Step.TheVariants.{Show}
use Rattle.peer_step.specs.declared.answer.Answer.TheVariants.{Shown}
use Rattle.peer_core.specs.Peer.{Peer, text}
use Rattle.replay_net.specs.declared.line.Line.{Line}
use Rattle.replay_net.specs.declared.line.Line.TheVariants.{Local}
use Rattle.replay_net.specs.World.{World, peer_of}
use Rattle.replay_net.specs.Laws.{HaveSame}
use Rattle.script_text.specs.Line.{script_line}
use Rattle.line_spelling.specs.Answers.{answer_line}
use Rattle.form_replay.specs.Replay.{script_turn, replay_output}

-- whether a step asks for the text
abbrev pub is_show : Step → Bool
is_show Show = true
is_show step = false

-- the peer whose text a line asks for
abbrev pub asked_peer : World → Line → Option Peer
asked_peer w (Local i step) = when (is_show step) (peer_of w i)
asked_peer w line = None

-- the peer whose text the bytes of a script's line ask for
abbrev pub shown_peer : Option World → List ℕ → Option Peer
shown_peer None line = None
shown_peer (Some w) line = script_line false (length w.peers) line >>= asked_peer w

-- a `show` line: what is written before its reply, and its peer as it is at that point
pub record ShowLine : Type 0 where
  pub before : List ℕ
  pub peer : Peer

-- a `show` line before which nothing is written
abbrev pub first_show : Peer → ShowLine
first_show p = record { before = []; peer = p }

-- the same with these bytes before all
abbrev pub behind : List ℕ → ShowLine → ShowLine
behind bytes s = record { before = bytes ++ s.before; peer = s.peer }

-- the `show` lines among lines, up to the first bad one
abbrev pub show_lines : Option World → List (List ℕ) → List ShowLine
show_lines w [] = []
show_lines w (line ∷ lines) = option_map_or
    (λ t. map first_show (option_to_list (shown_peer w line)) ++ map (behind t.reply) (show_lines t.world lines))
    (turn_of_line script_turn w line)
    []

-- the `show` lines of an input
abbrev pub shows_of : List ℕ → List ShowLine
shows_of input = show_lines None (lines_of (is_cut input) (counted_bytes input))

-- the line of a peer's text
abbrev pub shown_line : Peer → List ℕ
shown_line p = answer_line None (Shown (text p))

-- Each `show` line of an input writes the text of its peer at that point,
-- and two such lines whose peers have the same requests and the same log write the same.
pub record Headline (input : List ℕ) : Type 0 where
  pub texts : All (λ s. Begins (s.before ++ shown_line s.peer) (replay_output input).written) (shows_of input)
  pub equal : All (λ s. All (λ t. HaveSame s.peer t.peer → shown_line s.peer ≡ shown_line t.peer) (shows_of input)) (shows_of input)
