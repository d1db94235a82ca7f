-- What is told of a step: the line of its answer, the frame of the message that this gives, and the lines of the rows of the text.
use Rattle.std.specs.Prelude.{ℕ, List, [], ◌∷◌, Option, Some, None, codes, decimal}
use Rattle.std.specs.Option.{option_map_or}
use Rattle.std.specs.List.{flat_map}
use Rattle.element_name.specs.Name.{Name}
use Rattle.line_spelling.specs.Line.{line_of}
use Rattle.edit_message.specs.declared.message.Message.{Message}
use Rattle.edit_message.specs.declared.message.Message.TheVariants.{Coop, Admin}
use Rattle.edit_frame.specs.declared.frame.Frame.TheVariants as frames
use Rattle.edit_frame.specs.Spelling.{spelling}
use Rattle.request_state.specs.declared.state.State.{State}
use Rattle.peer_step.specs.declared.answer.Answer.{Answer}
use Rattle.peer_step.specs.declared.answer.Answer.TheVariants.{Done, Issued, Item}
use Rattle.peer_step.specs.declared.step.LocalEdit.{LocalEdit}
use Rattle.peer_step.specs.declared.step.Step.TheVariants.{Edit}
use Rattle.line_spelling.specs.Values.{spaced, name_text}
use Rattle.line_spelling.specs.Answers.{state_words, answer_line}
use Rattle.line_spelling.specs.Steps.{step_text}
use Rattle.editor_lib.specs.declared.told.ToldPart.{ToldPart}
use Rattle.editor_lib.specs.declared.told.ToldPart.TheVariants as parts

-- an answer as bytes, the frame of a message, and the lines of rows, each empty where there is none
pub record LastTold : Type 0 where
  pub answer : List ℕ
  pub frame : List ℕ
  pub rows : List ℕ

abbrev pub nothing : LastTold
nothing = record { answer = []; frame = []; rows = [] }

abbrev pub part_told : ToldPart → LastTold → List ℕ
part_told parts.Answer t = t.answer
part_told parts.Frame t = t.frame
part_told parts.Rows t = t.rows

-- the message that an answer gives: the one that the step issued, or the journal's item that it found
abbrev pub message_given : Answer → Option Message
message_given (Done request) = Some (Coop request)
message_given (Issued entry undone) = Some (Admin entry)
message_given (Item item) = item
message_given answer = None

-- the bytes of a message's frame; none where there is no message
abbrev pub frame_bytes : Option Message → List ℕ
frame_bytes (Some message) = spelling (frames.Item message)
frame_bytes None = []

-- the line of a row: the step line of its edit
abbrev pub row_line : LocalEdit → List ℕ
row_line row = line_of (step_text (Edit row))

-- the line of an answer, without the number of a message, the frame of what it gives, and the lines of rows
abbrev pub told : Answer → List LocalEdit → LastTold
told answer rows = record { answer = answer_line None answer; frame = frame_bytes (message_given answer); rows = flat_map row_line rows }

-- the line of the state of a request; no bytes where there is no such request
abbrev pub kept_state_line : Option State → List ℕ
kept_state_line (Some state) = line_of (spaced (codes "state" ∷ state_words state))
kept_state_line None = []

-- the name of an element, as a word; no bytes where there is no such element
abbrev pub element_word : Option Name → List ℕ
element_word element = option_map_or name_text element []

-- a count in decimal; no bytes where there is none
abbrev pub count_word : Option ℕ → List ℕ
count_word count = option_map_or decimal count []
