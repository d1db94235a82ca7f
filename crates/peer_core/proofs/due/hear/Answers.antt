use Rattle.std.proofs.Common.{Option, ap, ◌∙◌}
use Rattle.hold_back.specs.declared.need.Need.{Need}
use Rattle.hold_back.specs.Hold.{needing_at}
use Rattle.peer_core.proofs.due.hear.Goals as goal

pub returns-in-Some : goal.returns-in-Some
returns-in-Some c = c.wait_again.ensures ∙ ap (λ (need : Option Need). needing_at c.args.i need c.args.hold.now) c.in-Some.ensures

pub returns-in-None : goal.returns-in-None
returns-in-None c = c.wake.ensures ∙ ap (λ (need : Option Need). needing_at c.args.i need c.args.hold.now) c.in-None.ensures
