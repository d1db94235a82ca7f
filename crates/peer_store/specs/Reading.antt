-- Which step has a body, read from its kind.
use Rattle.std.specs.Prelude.{ℕ, List, [], ◌∷◌, Option, Some, None, length, option_map, ◌==◌, if◌then◌else◌}
use Rattle.std.specs.Int.{w32, from_be_bytes}
use Rattle.element_name.specs.Cases.{when, given}
use Rattle.coop_request.specs.Piece.{is_piece}
use Rattle.edit_message.specs.declared.message.Message.{Message}
use Rattle.edit_message.specs.declared.message.Message.TheVariants.{Coop, Admin}
use Rattle.edit_frame.specs.Reading.{framed_message}
use Rattle.peer_step.specs.declared.step.LocalEdit.TheVariants.{Insert, Delete, Update}
use Rattle.peer_step.specs.declared.step.Step.{Step}
use Rattle.peer_step.specs.declared.step.Step.TheVariants.{Edit, Administer, Receive, Settle, ValidateNext}
use Rattle.peer_store.specs.declared.body.kinds.TheConstants.{INSERT, DELETE, UPDATE, ADMINISTER, RECEIVE, SETTLE, VALIDATE_NEXT}

-- the place that is all of the fields
abbrev pub whole_place : List ℕ → Option ℕ
whole_place (a ∷ b ∷ c ∷ d ∷ []) = Some (from_be_bytes w32 (a ∷ b ∷ c ∷ d ∷ []))
whole_place fields = None

-- the place, and the piece behind its length, that are all of the fields
abbrev pub placed_piece_in : List ℕ → Option (ℕ × List ℕ)
placed_piece_in (a ∷ b ∷ c ∷ d ∷ len ∷ rest) = given (length rest == len) (when (is_piece rest) (from_be_bytes w32 (a ∷ b ∷ c ∷ d ∷ []), rest))
placed_piece_in fields = None

-- ---- the step of each kind

abbrev pub insert_in : List ℕ → Option Step
insert_in fields = option_map (λ x. Edit (Insert x.0 x.1)) (placed_piece_in fields)

abbrev pub delete_in : List ℕ → Option Step
delete_in fields = option_map (λ at. Edit (Delete at)) (whole_place fields)

abbrev pub update_in : List ℕ → Option Step
update_in fields = option_map (λ x. Edit (Update x.0 x.1)) (placed_piece_in fields)

-- the operation of an entry that makes this version
abbrev pub operation_of_entry : ℕ → Option Message → Option Step
operation_of_entry version (Some (Admin e)) = when (e.version == version) (Administer e.op)
operation_of_entry version (Some (Coop q)) = None
operation_of_entry version None = None

abbrev pub receive_by : Option Message → Option Step
receive_by message = option_map Receive message

-- a step that has no fields
abbrev pub alone_in : List ℕ → Step → Option Step
alone_in [] step = Some step
alone_in (field ∷ fields) step = None

abbrev pub step_of_kind : ℕ → ℕ → List ℕ → Option Step
step_of_kind version kind fields =
    if kind == INSERT then insert_in fields
    else if kind == DELETE then delete_in fields
    else if kind == UPDATE then update_in fields
    else if kind == ADMINISTER then operation_of_entry version (framed_message fields)
    else if kind == RECEIVE then receive_by (framed_message fields)
    else if kind == SETTLE then alone_in fields Settle
    else if kind == VALIDATE_NEXT then alone_in fields ValidateNext
    else None

abbrev pub step_in_body : ℕ → List ℕ → Option Step
step_in_body version [] = None
step_in_body version (kind ∷ fields) = step_of_kind version kind fields
