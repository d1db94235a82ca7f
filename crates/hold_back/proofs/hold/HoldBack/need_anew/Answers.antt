use Rattle.std.proofs.Common.{List, ◌<◌, length, sym, ap, subst}
use Rattle.hold_back.specs.declared.held.Held.{Held}
use Rattle.hold_back.specs.Index.{awaited_rank, IsIndexed}
use Rattle.hold_back.proofs.Indexes.{IsIndexed-needing, need_there, rank_held}
use Rattle.hold_back.proofs.hold.HoldBack.need_anew.Goals as goal

pub exchange-requires-clause-in_needs : goal.exchange-requires-clause-in_needs
exchange-requires-clause-in_needs c =
    let within = subst (λ (held : List Held). c.args.i < length held) (sym c.self.view_is) c.requires in
    need_there c.self.inside.held.items c.args.i (awaited_rank c.of_need-left.result) c.self.inside.index c.self.invariant within
    (rank_held _ c.self.inside.held.items c.args.i c.need_at.result _ c.deref.ensures.value c.need_at.ensures (ap awaited_rank c.of_need-left.ensures.value))

pub invariant_of-self : goal.invariant_of-self
invariant_of-self c =
    let within = subst (λ (held : List Held). c.args.i < length held) (sym c.self.view_is) c.requires in
    let left = rank_held _ c.self.inside.held.items c.args.i c.need_at.result _ c.deref.ensures.value c.need_at.ensures (ap awaited_rank c.of_need-left.ensures.value) in
    subst (λ (held : List Held). IsIndexed held c.exchange.new.self) (sym c.set_need.ensures)
    (IsIndexed-needing c.self.inside.held.items c.args.i (awaited_rank c.of_need-left.result) (awaited_rank c.of_need-awaited.result) c.args.need c.self.inside.index c.exchange.new.self c.self.invariant within left
    (ap awaited_rank c.of_need-awaited.ensures.value) c.of_need-awaited.ensures.fits c.exchange.ensures.arrivals c.exchange.ensures.keys c.exchange.ensures.needs)
