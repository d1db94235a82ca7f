-- The desk of the slot.
use Rattle.editor_lib.proofs.calls.ask.Given as goal

abbrev pub ghost-into_box : goal.ghost-into_box
ghost-into_box g a = g.desk
