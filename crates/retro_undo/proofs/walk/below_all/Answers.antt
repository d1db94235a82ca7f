use Rattle.std.proofs.Common.{sym, ◌∙◌}
use Rattle.retro_undo.proofs.Found.{request_named, never_start}
use Rattle.retro_undo.proofs.walk.below_all.Goals as goal

pub unreachable-requires : goal.unreachable-requires
unreachable-requires c =
    never_start c.in-Some.request c.edit.ensures.accepted
    (request_named c.args.states.now c.start.result c.in-Some.request (sym c.lent_request.ensures ∙ c.in-Some.is) ∙ c.start.ensures)
