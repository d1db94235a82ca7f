-- What `show` lines write.
use Rattle.std.proofs.Common.{◌≡◌, ℕ, ◌+◌, Bool, true, false, Option, Some, None, List, [], ◌∷◌, ◌++◌, length, refl, ap, sym, ◌∙◌, arith}
use Rattle.std.specs.Prelude.{map, option_map, All, nat_le, if◌then◌else◌}
use Rattle.std.specs.Option.{option_map_or, option_to_list}
use Rattle.std.proofs.lemmas.List.{append_assoc}
use Rattle.std.proofs.lemmas.List.Elements.{All-cons, All-append, All-map, All-weaker}
use Rattle.element_name.specs.Cases.{◌>>=◌}
use Rattle.line_spelling.specs.declared.line.TheConstants.{MAX_LINE}
use Rattle.line_engine.specs.Output.{Output, Begins, after_bytes, bad_line}
use Rattle.line_engine.specs.Run.{LineTurn, turn_of_line, output_of_lines}
use Rattle.peer_step.specs.declared.step.Step.TheVariants.{Edit, Administer, Receive, Settle, ValidateNext, Look, Show}
use Rattle.peer_core.specs.Peer.{Peer}
use Rattle.replay_net.specs.declared.line.Line.{Line}
use Rattle.replay_net.specs.declared.line.Line.TheVariants.{Peers, Local, Give, Hand, StateOf}
use Rattle.replay_net.specs.World.{World, peer_of}
use Rattle.script_text.specs.Line.{script_line}
use Rattle.form_replay.specs.Replay.{script_turn, script_closing, reply_turn}
use Rattle.form_replay.specs.Headline.{ShowLine, asked_peer, shown_peer, first_show, behind, show_lines, shown_line}

-- a line that asks for a peer's text is answered by it
reply_shows : (w : Option World) (line : List ℕ) (t : LineTurn (Option World)) (p : Peer)
    → turn_of_line script_turn w line ≡ Some t → shown_peer w line ≡ Some p → t.reply ≡ shown_line p
reply_shows None line t p e h = absurd cc
reply_shows (Some w) line t p e h = by (nat_le (length line) MAX_LINE) (script_line false (length w.peers) line) e h
  where
    by : (b : Bool) (o : Option Line) → (if b then option_map (reply_turn w) o else None) ≡ Some t → (o >>= asked_peer w) ≡ Some p → t.reply ≡ shown_line p
    by false o e h = absurd cc
    by true None e h = absurd cc
    by true (Some (Peers n)) e h = absurd cc
    by true (Some (Give m i)) e h = absurd cc
    by true (Some (Hand i m)) e h = absurd cc
    by true (Some (StateOf i n)) e h = absurd cc
    by true (Some (Local i (Edit x))) e h = absurd cc
    by true (Some (Local i (Administer x))) e h = absurd cc
    by true (Some (Local i (Receive x))) e h = absurd cc
    by true (Some (Local i Settle)) e h = absurd cc
    by true (Some (Local i ValidateNext)) e h = absurd cc
    by true (Some (Local i (Look x))) e h = absurd cc
    by true (Some (Local i Show)) e h =
        let turn : reply_turn w (Local i Show) ≡ t = cc in
        let same : peer_of w i ≡ p = cc in
        ap (λ (u : LineTurn (Option World)). u.reply) (sym turn) ∙ ap shown_line same

-- no element, so anything holds of each
all_none : (P : ShowLine → Type 0) → All P []
all_none P = λ k d h. absurd (omega (arith, h))

-- what a `show` line writes stands in the bytes
abbrev WritesIn : List ℕ → ShowLine → Type 0
WritesIn bytes s = Begins (s.before ++ shown_line s.peer) bytes

-- the same behind a reply
behind_writes : (reply bytes : List ℕ) (s : ShowLine) → WritesIn bytes s → WritesIn (reply ++ bytes) (behind reply s)
behind_writes reply bytes s h = (
  h.0,
  ap (λ (xs : List ℕ). reply ++ xs) h.1 ∙ sym (append_assoc reply (s.before ++ shown_line s.peer) h.0)
      ∙ ap (λ (xs : List ℕ). xs ++ h.0) (sym (append_assoc reply s.before (shown_line s.peer))),
)

later_write : (reply more : List ℕ) (shows : List ShowLine) → All (WritesIn more) shows → All (WritesIn (reply ++ more)) (map (behind reply) shows)
later_write reply more shows h =
    All-map (WritesIn (reply ++ more)) (behind reply) shows
    (All-weaker (WritesIn more) (λ (s : ShowLine). WritesIn (reply ++ more) (behind reply s)) (behind_writes reply more) shows h)

-- a line that asks for a text is answered by it
own_writes : (reply more : List ℕ) (o : Option Peer) → ((p : Peer) → o ≡ Some p → reply ≡ shown_line p) → All (WritesIn (reply ++ more)) (map first_show (option_to_list o))
own_writes reply more None h = all_none (WritesIn (reply ++ more))
own_writes reply more (Some p) h =
    All-cons (WritesIn (reply ++ more)) (first_show p) [] (more, ap (λ (xs : List ℕ). xs ++ more) (h p refl)) (all_none (WritesIn (reply ++ more)))

-- what is written of lines, the first of which is line k
abbrev written_of : Bool → ℕ → Option World → List (List ℕ) → Output
written_of cut k w lines = output_of_lines script_turn script_closing cut k w lines

-- each `show` line writes the text of its peer
pub texts_of : (cut : Bool) (k : ℕ) (w : Option World) (lines : List (List ℕ))
    → All (WritesIn (written_of cut k w lines).written) (show_lines w lines)
texts_of cut k w [] = all_none (WritesIn (written_of cut k w []).written)
texts_of cut k w (line ∷ lines) = by (turn_of_line script_turn w line) refl (λ (v : Option World). texts_of cut (k + 1) v lines)
  where
    by : (o : Option (LineTurn (Option World))) → turn_of_line script_turn w line ≡ o
        → ((v : Option World) → All (WritesIn (written_of cut (k + 1) v lines).written) (show_lines v lines))
        → All (WritesIn (option_map_or (λ t. after_bytes t.reply (written_of cut (k + 1) t.world lines)) o (bad_line k)).written)
        (option_map_or (λ t. map first_show (option_to_list (shown_peer w line)) ++ map (behind t.reply) (show_lines t.world lines)) o [])
    by None e rest = all_none (WritesIn (bad_line k).written)
    by (Some t) e rest =
        All-append (WritesIn (t.reply ++ (written_of cut (k + 1) t.world lines).written)) (map first_show (option_to_list (shown_peer w line))) (map (behind t.reply) (show_lines t.world lines))
        (own_writes t.reply (written_of cut (k + 1) t.world lines).written (shown_peer w line) (λ (p : Peer) h. reply_shows w line t p e h))
        (later_write t.reply (written_of cut (k + 1) t.world lines).written (show_lines t.world lines) (rest t.world))
