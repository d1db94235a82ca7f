use Rattle.std.proofs.Common.{◌≡◌, ◌+◌, List, rules, arith, ap, subst, sym, ◌∙◌}
use Rattle.peer_lock.specs.Rule.{newcomer, dealt, Seated}
use Rattle.peer_lock.specs.KnownPass.{known_pass, KnownPass}
use Rattle.peer_lock.specs.Dealt.{Others}
use Rattle.peer_lock.proofs.Keeps.{splits}
use Rattle.peer_lock.proofs.Passes.{one_more}
use Rattle.peer_lock.proofs.dealing.others.Goals as goal

pub split_seat-part-requires : goal.split_seat-part-requires
split_seat-part-requires c =
    let made : c.loop-number.seat.me.0.made ≡ c.loop-number.number = ap (λ (m : Seated). m.0.made) c.loop-number.invariant.1 in
    (search rules, search rules, splits _ _ c.loop-number.seat.me.0 (omega arith) (omega arith))

pub loop-number-preserved : goal.loop-number-preserved
loop-number-preserved c =
    let e = c.split_seat-part.ensures in
    let had = c.loop-number.invariant in
    let table = c.args.lock.now.table.shared.table_id in
    let part = c.split_seat-part.result in (
      e.0 ∙ had.0,
      e.2 ∙ ap (λ (m : Seated). (dealt m.0, m.1)) had.1,
      subst (λ (ks : List KnownPass). Others table c.args.site (c.loop-number.number + 1) ks) (sym c.in_ok-push.ensures.items)
          (
          one_more table c.args.site c.loop-number.number c.loop-number.rest.items (known_pass part.table_id part.id part.me.0) had.2 (e.3 ∙ had.0 ∙ c.requires.own)
          (ap (λ (m : Seated). m.0) e.4 ∙ ap (λ (m : Seated). newcomer m.0.made 0 m.0.origin) had.1)
          ),
    )
