-- The steps that make a renewal's journal anew.
use Rattle.std.specs.Prelude.{ℕ, Option, Some, None}
use Rattle.coop_request.specs.declared.edit.Edit.{Edit}
use Rattle.coop_request.specs.declared.edit.Edit.TheVariants as edits
use Rattle.edit_message.specs.declared.message.Message.{Message}
use Rattle.edit_message.specs.declared.message.Message.TheVariants as messages
use Rattle.peer_step.specs.declared.step.LocalEdit.TheVariants as places
use Rattle.peer_step.specs.declared.step.Step.{Step}
use Rattle.peer_step.specs.declared.step.Step.TheVariants as steps

-- the step that puts the piece of an insert at a place; none of another edit
abbrev pub insert_anew : ℕ → Edit → Option Step
insert_anew at (edits.Insert after letter) = Some (steps.Edit (places.Insert at letter))
insert_anew at edit = None

-- the step by which a peer whose text ends at a place makes a message anew
abbrev pub step_anew : ℕ → Message → Option Step
step_anew at (messages.Coop request) = insert_anew at request.edit
step_anew at (messages.Admin entry) = Some (steps.Administer entry.op)
