-- The value that the slot holds.
use Rattle.editor_lib.proofs.slot.DeskSlot.into_box.Given as goal

abbrev pub ghost-into_parts : goal.ghost-into_parts
ghost-into_parts g a = g.value
