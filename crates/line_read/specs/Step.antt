-- Steps, by the words that they are written in, and step lines.
use Rattle.std.specs.Prelude.{ℕ, List, [], ◌∷◌, Option, Some, None, option_map, codes}
use Rattle.element_name.specs.Cases.{given}
use Rattle.peer_step.specs.declared.step.LocalEdit.{LocalEdit}
use Rattle.peer_step.specs.declared.step.LocalEdit.TheVariants.{Insert, Delete, Update}
use Rattle.peer_step.specs.declared.step.Step.{Step}
use Rattle.peer_step.specs.declared.step.Step.TheVariants.{Edit, Administer, Receive, Settle, ValidateNext, Look, Show}
use Rattle.line_read.specs.Words.{is_line, words, beside, are_none, two_words}
use Rattle.line_read.specs.Numbers.{read_wide, one_wide}
use Rattle.line_read.specs.Pieces.{read_piece}
use Rattle.line_read.specs.Operation.{read_operation}
use Rattle.line_read.specs.Message.{read_message}

-- AT LETTER
abbrev pub place_and_piece : List (List ℕ) → Option (ℕ × List ℕ)
place_and_piece = two_words read_wide read_piece

-- an edit at a place
unfoldable pub read_local_edit : List (List ℕ) → Option LocalEdit
read_local_edit (word ∷ args) = beside word (
    (codes "insert", option_map (λ pair. Insert pair.0 pair.1) (place_and_piece args))
    ∷ (codes "delete", option_map Delete (one_wide args))
    ∷ (codes "update", option_map (λ pair. Update pair.0 pair.1) (place_and_piece args))
    ∷ [])
    None
read_local_edit [] = None

-- a step that is one word
unfoldable pub read_plain : List ℕ → Option Step
read_plain word = beside word ((codes "show", Some Show) ∷ (codes "settle", Some Settle) ∷ (codes "validatenext", Some ValidateNext) ∷ []) None

unfoldable pub read_step : List (List ℕ) → Option Step
read_step (word ∷ args) = beside word (
    (codes "edit", option_map Edit (read_local_edit args))
    ∷ (codes "look", option_map Look (one_wide args))
    ∷ (codes "message", option_map Receive (read_message args))
    ∷ (codes "admin", option_map Administer (read_operation args))
    ∷ [])
    (given (are_none args) (read_plain word))
read_step [] = None

-- what a step line says
abbrev pub step_line : List ℕ → Option Step
step_line bytes = given (is_line bytes) (read_step (words bytes))
