-- What a packed step holds.
use Rattle.peer_step.specs.declared.step.LocalEdit.TheVariants as edits
use Rattle.peer_step.specs.declared.step.Step.{Step}
use Rattle.peer_step.specs.declared.step.Step.TheVariants.{Edit, Administer, Receive, Settle, ValidateNext, Look, Show}
use Rattle.peer_step.specs.declared.packed_step.Packed.{Packed}
use Rattle.peer_step.specs.declared.packed_step.Packed.TheVariants as packed

-- the step of a packed piece or message, or of the operation in a box
abbrev pub step_in : Packed → Step
step_in (packed.Insert at letter) = Edit (edits.Insert at letter)
step_in (packed.Delete at) = Edit (edits.Delete at)
step_in (packed.Update at letter) = Edit (edits.Update at letter)
step_in (packed.Administer op) = Administer op.value
step_in (packed.Receive message) = Receive message
step_in packed.Settle = Settle
step_in packed.ValidateNext = ValidateNext
step_in (packed.Look from) = Look from
step_in packed.Show = Show
