use Rattle.std.proofs.Common.{◌<◌, rules, ap, subst, arith, length}
use Rattle.peer_lock.specs.KnownPass.{KnownPass}
use Rattle.peer_lock.specs.Rule.{Seated}
use Rattle.peer_lock.specs.Answers.{UnitesPasses}
use Rattle.peer_lock.specs.Moves.{Looked}
use Rattle.peer_lock.specs.declared.view.View.{View}
use Rattle.peer_lock.proofs.Keeps.{joins}
use Rattle.peer_lock.proofs.Ways.{joined}
use Rattle.peer_lock.proofs.shared_peer.SharedPeer.join.Goals as goal

pub join_seat-requires : goal.join_seat-requires
join_seat-requires c =
    let live : 0 < length c.pass.inside.seat.me.0.numbers = omega (arith, c.pass.invariant.weight_is, c.pass.invariant.some) in
    let theirs : 0 < length c.other.inside.seat.me.0.numbers = omega (arith, c.other.invariant.weight_is, c.other.invariant.some) in
    (search rules, search rules, c.other.invariant.bare, search rules, joins _ _ _ _ _ live theirs c.pass.invariant.hand c.other.invariant.hand)

pub returns-clause-joins : goal.returns-clause-joins
returns-clause-joins c =
    let v : View = c.pass.inside.seat.me.0 in
    let o : View = c.other.inside.seat.me.0 in
    let is = c.join_seat.ensures.2 in
    subst (λ (x : View). UnitesPasses x c.args.other.view c.look.new.seat.me.0) (ap (λ (k : KnownPass). k.view) c.pass.view_is)
    (
    subst (λ (x : View). UnitesPasses v x c.look.new.seat.me.0) (ap (λ (k : KnownPass). k.view) c.other.view_is)
    (joined v o c.pass.inside.seat.me.1 c.look.result c.look.new.seat.me (subst (λ (x : Seated). Looked x c.look.result c.look.new.seat.me) is c.look.ensures.moves))
    )
