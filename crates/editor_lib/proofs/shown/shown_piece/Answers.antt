use Rattle.std.proofs.Common.{sym, ◌∙◌}
use Rattle.editor_lib.proofs.ShownLemmas.{no_piece, its_piece}
use Rattle.editor_lib.proofs.shown.shown_piece.Goals as goal

pub returns-in-Some : goal.returns-in-Some
returns-in-Some c = its_piece c.args.peer.now c.args.place c.in-Some.element c.piece_of.result c.piece_of.ensures (sym c.in-Some.is ∙ c.shown_at.ensures)

pub returns-in-None : goal.returns-in-None
returns-in-None c = no_piece c.args.peer.now c.args.place (sym c.in-None.is ∙ c.shown_at.ensures)
