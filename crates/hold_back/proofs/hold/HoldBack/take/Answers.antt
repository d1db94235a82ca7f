use Rattle.std.proofs.Common.{List, ◌<◌, ◌∙◌, length, sym, ap, subst}
use Rattle.hold_back.specs.declared.held.Held.{Held}
use Rattle.hold_back.specs.Index.{awaited_rank, need_rank, key_rank, IsIndexed}
use Rattle.hold_back.proofs.Indexes.{IsIndexed-remove, need_there, key_there, ranked_at}
use Rattle.hold_back.proofs.hold.HoldBack.take.Goals as goal

pub leave-requires-clause-in_needs : goal.leave-requires-clause-in_needs
leave-requires-clause-in_needs c =
    let within = subst (λ (held : List Held). c.args.i < length held) (sym c.self.view_is) c.requires in
    need_there c.self.inside.held.items c.args.i (awaited_rank c.of_need-awaited.result) c.self.inside.index c.self.invariant within
    (ranked_at (λ h. need_rank h.need) c.self.inside.held.items c.args.i c.take_out-held.result c.take_out-held.ensures.taken ∙ sym (ap awaited_rank c.of_need-awaited.ensures.value))

pub leave-requires-clause-in_keys : goal.leave-requires-clause-in_keys
leave-requires-clause-in_keys c =
    let within = subst (λ (held : List Held). c.args.i < length held) (sym c.self.view_is) c.requires in
    key_there c.self.inside.held.items c.args.i (awaited_rank c.of_key-key.result) c.take_out-held.result c.self.inside.index c.self.invariant within c.take_out-held.ensures.taken
    (ap awaited_rank c.of_key-key.ensures.value ∙ ap key_rank c.key.ensures.value)

pub invariant_of-self : goal.invariant_of-self
invariant_of-self c =
    let within = subst (λ (held : List Held). c.args.i < length held) (sym c.self.view_is) c.requires in
    subst (λ (held : List Held). IsIndexed held c.leave.new.self) (sym c.take_out-held.ensures.rest)
    (IsIndexed-remove c.self.inside.held.items c.args.i c.take_out-held.result (awaited_rank c.of_need-awaited.result) (awaited_rank c.of_key-key.result) c.self.inside.index c.leave.new.self c.self.invariant within
    c.take_out-held.ensures.taken (ap awaited_rank c.of_need-awaited.ensures.value) (ap awaited_rank c.of_key-key.ensures.value ∙ ap key_rank c.key.ensures.value) c.leave.ensures.arrivals c.leave.ensures.needs c.leave.ensures.keys)
