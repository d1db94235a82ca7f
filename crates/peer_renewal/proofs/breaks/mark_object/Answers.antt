use Rattle.std.proofs.Common.{◌∙◌}
use Rattle.peer_renewal.proofs.BreakLemmas.{one_kept}
use Rattle.peer_renewal.proofs.breaks.mark_object.Goals as goal

pub returns-in_ok-bits-clause-edges : goal.returns-in_ok-bits-clause-edges
returns-in_ok-bits-clause-edges c =
    one_kept c.args.old.now c.args.object.now c.deref.result.now c.mark_edges.new.breaks (c.deref.ensures.value ∙ c.in_ok-bits.ensures) c.mark_edges.ensures.edges
