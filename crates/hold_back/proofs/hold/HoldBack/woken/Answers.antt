use Rattle.std.proofs.Common.{◌+◌, ap, ◌∙◌}
use Rattle.std.specs.Prelude.{option_map}
use Rattle.hold_back.proofs.Indexes.{woken_found}
use Rattle.hold_back.proofs.hold.HoldBack.woken.Goals as goal

pub returns : goal.returns
returns c = c.next.ensures.place ∙ ap (option_map (λ k. c.args.from + k)) (woken_found c.args.from c.args.self.now c.next.ensures.fit)
