use Rattle.std.proofs.Common.{List, ℕ, ◌≡◌, ◌<◌, ◌∙◌, ◌&&◌, length, None, Some, sym, ap, subst, arith}
use Rattle.edit_message.specs.Message.{key_of}
use Rattle.hold_back.specs.declared.held.Held.{Held}
use Rattle.hold_back.specs.declared.hold.TheConstants.{MAX_HELD}
use Rattle.hold_back.specs.Hold.{find_held}
use Rattle.hold_back.specs.Index.{awaited_rank, key_rank, key_fits, rank, ticket_ranks, IsWith, AreTicketsOf, IsIndexed}
use Rattle.hold_back.proofs.Indexes.{IsIndexed-keep}
use Rattle.hold_back.proofs.hold.HoldBack.keep.Goals as goal

pub invariant_of-self-2 : goal.invariant_of-self-2
invariant_of-self-2 c =
    let held = c.self.inside.held.items in
    let h : Held = record { message = c.args.message; need = Some c.args.need } in
    let old = c.make_room.new.index in
    let new = c.enter.new.self in
    let a = c.in_ok-arrival.arrival in
    let none = subst (λ (hs : List Held). find_held (key_of c.args.message) hs ≡ None) (sym c.self.view_is) c.requires.new in
    let room : length held < MAX_HELD = omega arith in
    let rows = subst (λ (hs : List Held). AreTicketsOf hs old) c.deref.ensures.value c.in_ok-arrival.ensures.index in
    let key = ap awaited_rank c.of_key-key.ensures.value ∙ ap key_rank c.key.ensures.value in
    let own = ap (λ b. b && key_fits (key_of c.args.message)) c.of_need-awaited.ensures.fits ∙ ap key_fits (sym c.key.ensures.value) ∙ c.of_key-key.ensures.fits in
    let needs = subst (λ (m : ℕ). IsWith (rank m a) (ticket_ranks old.needs.items) (ticket_ranks new.needs.items)) (ap awaited_rank c.of_need-awaited.ensures.value) c.enter.ensures.needs in
    let keys = subst (λ (m : ℕ). IsWith (rank m a) (ticket_ranks old.keys.items) (ticket_ranks new.keys.items)) key c.enter.ensures.keys in
    subst (λ (hs : List Held). IsIndexed hs new) (sym c.in_ok-put.ensures.ok)
    (IsIndexed-keep held h old new a c.self.invariant.hold c.self.invariant.fit rows none room own c.in_ok-arrival.ensures.ok.next c.enter.ensures.arrivals needs keys)
