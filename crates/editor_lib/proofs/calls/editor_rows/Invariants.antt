-- The desk of the slot.
use Rattle.editor_lib.proofs.calls.editor_rows.Given as goal

abbrev pub ghost-copy_told : goal.ghost-copy_told
ghost-copy_told g a = g.desk
