-- The lines that a program reads.
use Rattle.std.specs.Prelude.{ℕ, List, [], ◌∷◌, Option, Some, None, decimal, codes, flat_map}
use Rattle.edit_message.specs.declared.message.Message.{Message}
use Rattle.edit_message.specs.declared.message.Message.TheVariants.{Coop, Admin}
use Rattle.peer_step.specs.declared.answer.Answer.{Answer}
use Rattle.line_spelling.specs.Line.{line_of}
use Rattle.line_spelling.specs.Values.{spaced}
use Rattle.line_spelling.specs.Steps.{message_text}
use Rattle.line_spelling.specs.Answers.{answer_line, shown_words}
use Rattle.follow_text.specs.declared.text_row.TextRow.{TextRow}

-- from a place on so many letters went, and this text came there, or nothing
abbrev pub changed_line : TextRow → List ℕ
changed_line row = line_of (spaced (codes "changed" ∷ decimal row.letters_before ∷ decimal row.letters_out ∷ shown_words row.put.items))

-- the same of a row that waits, if one does
abbrev pub pending_line : Option TextRow → List ℕ
pending_line None = []
pending_line (Some row) = changed_line row

-- the whole text
abbrev pub whole_line : List ℕ → List ℕ
whole_line text = line_of (spaced (codes "text" ∷ shown_words text))

-- so many edits were made, and all of them
abbrev pub replaced_line : ℕ → List ℕ
replaced_line count = line_of (spaced (codes "replaced" ∷ decimal count ∷ []))

-- so many edits were made, and the next one was answered by this line
abbrev pub stopped_line : ℕ → List ℕ → List ℕ
stopped_line count answer = spaced (codes "replaced" ∷ decimal count ∷ codes "but" ∷ answer ∷ [])

-- what the host has is answered so
abbrev pub lost_line : Answer → List ℕ
lost_line answer = spaced (codes "lost" ∷ answer_line None answer ∷ [])

-- so many edits were undone, which changes the text in so many rows
abbrev pub undone_line : ℕ → ℕ → List ℕ
undone_line count rows = line_of (spaced (codes "undone" ∷ decimal count ∷ decimal rows ∷ []))

-- an entry of the administrator's log; a request has no line
abbrev pub entry_line : Message → List ℕ
entry_line (Coop q) = []
entry_line (Admin e) = line_of (message_text (Admin e))

-- the entries of a journal, in order
abbrev pub entry_lines : List Message → List ℕ
entry_lines messages = flat_map entry_line messages

-- all entries up to this version were said
abbrev pub rules_line : ℕ → List ℕ
rules_line version = line_of (spaced (codes "rules" ∷ decimal version ∷ []))
