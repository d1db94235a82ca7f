use Rattle.std.proofs.Common.{sym, ◌∙◌}
use Rattle.par_sweep.proofs.Carried.{carried_granted, carried_settled, carried_denied}
use Rattle.par_sweep.proofs.setting.carry_out.Goals as goal

pub returns-in_default-clause-states : goal.returns-in_default-clause-states
returns-in_default-clause-states c = carried_granted c.args.version c.args.judged.now c.args.states.now c.in_default.is

pub returns-then-is_tentative-clause-states : goal.returns-then-is_tentative-clause-states
returns-then-is_tentative-clause-states c =
    c.set.ensures
    ∙ carried_denied c.args.version c.args.judged.now c.args.states.now c.in-Denied.by c.requires (sym c.is_tentative.ensures ∙ c.if-is_tentative.true) c.in-Denied.is

pub returns-clause-states : goal.returns-clause-states
returns-clause-states c =
    carried_settled c.args.version c.args.judged.now c.args.states.now c.requires (sym c.is_tentative.ensures ∙ c.if-is_tentative.false)
