-- The lines of what a peer holds.
use Rattle.std.specs.Prelude.{ℕ, List, [], ◌∷◌, ◌++◌, Some, None, length, decimal, codes, flat_map, if◌then◌else◌}
use Rattle.line_spelling.specs.Line.{line_of}
use Rattle.edit_message.specs.declared.message.Message.{Message}
use Rattle.edit_message.specs.declared.message.Message.TheVariants.{Coop, Admin}
use Rattle.peer_step.specs.declared.answer.Answer.TheVariants.{Shown}
use Rattle.peer_tables.specs.Derived.{finds_no_room}
use Rattle.peer_core.specs.Peer.{Peer, text, missing}
use Rattle.line_spelling.specs.Values.{spaced, name_text}
use Rattle.line_spelling.specs.Answers.{answer_line, missing_words}

-- what waits: a request of this name, or an entry that makes this version
abbrev pub waiting_words : Message → List (List ℕ)
waiting_words (Coop q) = codes "request" ∷ name_text q.id ∷ []
waiting_words (Admin e) = codes "entry" ∷ decimal e.version ∷ []

-- what it waits for: what it misses; else room, where a request finds none; else a settle step, for then it is due
abbrev pub reason_words : Peer → Message → List (List ℕ)
reason_words p m = elim (missing p m) [
  | Some what ↦ missing_words what
  | None ↦ (if finds_no_room p.journal m then codes "room" else codes "settle") ∷ []
]

abbrev pub waits_line : Peer → Message → List ℕ
waits_line p m = line_of (spaced (codes "waits" ∷ waiting_words m ++ codes "for" ∷ reason_words p m))

-- how many messages are held, and what each waits for, in order of arrival
abbrev pub held_lines : Peer → List ℕ
held_lines p = line_of (spaced (codes "held" ∷ decimal (length p.held) ∷ [])) ++ flat_map (waits_line p) p.held

-- the text that is shown, and what is held
abbrev pub closing_lines : Peer → List ℕ
closing_lines p = answer_line None (Shown (text p)) ++ held_lines p
