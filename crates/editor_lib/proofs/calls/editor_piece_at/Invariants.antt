-- The desk of the slot.
use Rattle.editor_lib.proofs.calls.editor_piece_at.Given as goal

abbrev pub ghost-ask : goal.ghost-ask
ghost-ask g a = g.desk
