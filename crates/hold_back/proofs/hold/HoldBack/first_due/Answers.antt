use Rattle.std.proofs.Common.{◌≡◌, ◌∙◌, None, sym}
use Rattle.hold_back.proofs.FirstDue.{tested, none_more, due_found, due_missing}
use Rattle.hold_back.proofs.hold.HoldBack.first_due.Goals as goal

pub returns-then-is_due_at : goal.returns-then-is_due_at
returns-then-is_due_at g c = due_found (g.T.Due.is_due c.args.test.now) c.args.self.now c.loop-place.from c.in-Some.place c.requires c.loop-place.invariant (sym c.in-Some.is ∙ c.woken.ensures)
    (tested (g.T.Due.is_due c.args.test.now) _ c.args.self.now c.in-Some.place c.is_due_at.result _ c.is_due_at.ensures (c.deref.ensures.value ∙ c.self.view_is) c.if-is_due_at.true)

pub loop-place-preserved : goal.loop-place-preserved
loop-place-preserved g c = none_more (g.T.Due.is_due c.args.test.now) c.args.self.now c.loop-place.from c.in-Some.place c.requires c.loop-place.invariant (sym c.in-Some.is ∙ c.woken.ensures)
    (tested (g.T.Due.is_due c.args.test.now) _ c.args.self.now c.in-Some.place c.is_due_at.result _ c.is_due_at.ensures (c.deref.ensures.value ∙ c.self.view_is) c.if-is_due_at.false)

pub returns : goal.returns
returns g c =
    let none : None ≡ c.woken.result = sym c.in_default.is in
    due_missing (g.T.Due.is_due c.args.test.now) c.args.self.now c.loop-place.from c.requires c.loop-place.invariant (none ∙ c.woken.ensures)
