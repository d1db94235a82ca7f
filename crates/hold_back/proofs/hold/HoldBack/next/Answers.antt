use Rattle.std.proofs.Common.{List, ◌<◌, length, sym, subst, arith, eqb, ◌∙◌}
use Rattle.hold_back.specs.declared.held.Held.{Held}
use Rattle.hold_back.specs.Index.{awaited_rank, need_ranks}
use Rattle.hold_back.proofs.Indexes.{within_held}
use Rattle.hold_back.proofs.hold.HoldBack.next.Goals as goal

pub overflow_cast-result : goal.overflow_cast-result
overflow_cast-result c =
    let held = c.self.inside.held.items in
    let is = c.self.invariant in
    let within = within_held (λ n. eqb n (awaited_rank c.args.awaited.now)) held c.args.from c.in-Some.place (sym c.in-Some.is ∙ c.waiting.ensures (need_ranks held) is.rows.waiting) in
    let few = is.hold.few in
    omega (arith, within, few)

pub returns-in-Some-clause-within : goal.returns-in-Some-clause-within
returns-in-Some-clause-within c =
    let held = c.self.inside.held.items in
    let is = c.self.invariant in
    subst (λ (hs : List Held). c.in-Some.place < length hs) c.self.view_is
    (within_held (λ n. eqb n (awaited_rank c.args.awaited.now)) held c.args.from c.in-Some.place (sym c.in-Some.is ∙ c.waiting.ensures (need_ranks held) is.rows.waiting))
