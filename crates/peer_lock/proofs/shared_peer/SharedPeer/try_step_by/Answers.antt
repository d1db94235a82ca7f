use Rattle.std.proofs.Common.{Ok, ap, subst, sym}
use Rattle.peer_lock.specs.KnownPass.{KnownPass}
use Rattle.peer_lock.specs.Answers.{AnswersTry}
use Rattle.peer_lock.specs.declared.view.View.{View}
use Rattle.peer_lock.proofs.Ways.{tries}
use Rattle.peer_lock.proofs.shared_peer.SharedPeer.try_step_by.Goals as goal

pub returns-clause-tries : goal.returns-clause-tries
returns-clause-tries g c =
    subst (λ (v : View). AnswersTry v c.args.step (Ok c.in_ok-counted.counted.answer) c.go.new.seat.me.0) (ap (λ (k : KnownPass). k.view) c.pass.view_is)
    (tries c.pass.inside.seat.me c.go.new.seat.me c.pass.inside.number c.args.step (Ok c.in_ok-counted.counted) (sym c.pass.invariant.number_is) c.in_ok-counted.ensures.moves)
