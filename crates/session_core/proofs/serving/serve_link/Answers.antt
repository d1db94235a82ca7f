use Rattle.std.proofs.Common.{◌≡◌, ◌+◌, true, false, refl, arith}
use Rattle.std.proofs.lemmas.Result.{err_from_is_err_and}
use Rattle.peer_lock.proofs.Passing.{same_self, same_then}
use Rattle.session_core.specs.Events.{Finished, in_phase, serving}
use Rattle.session_core.specs.Session.{side, Talked}
use Rattle.session_core.specs.Pieces.{listening_from, looking_from}
use Rattle.session_core.proofs.Talks.{talked_none, talked_then, cut_then, turn_in}
use Rattle.session_core.proofs.serving.serve_link.Goals as goal
use Rattle.session_core.proofs.serving.serve_link.Given.{Over}
use Rattle.session_core.proofs.serving.serve_link.Goals.{In_ok-is_turn}

pub loop-init : goal.loop-init
loop-init g c = record {
  same = same_self c.args.pass.now;
  few = omega arith;
  turns_few = omega arith;
  turns_fit = omega arith;
  closes = refl;
  faults = refl;
  talk = talked_none (serving c.args.validates) (listening_from 0 0) c.args.pass.now _ _;
}

-- after the turns before it, a turn came
came : (g : Over) (c : In_ok-is_turn g) → c.in_ok-is_turn.is_turn ≡ true
    → Talked (serving c.args.validates) (listening_from 0 0) (looking_from c.loop.mark (c.loop.turns + 1)) (side c.args.pass.now (g.L.Link.got c.args.link.now) (g.L.Link.sent c.args.link.now))
    (side c.receive_turn.new.pass (g.L.Link.got c.receive_turn.new.link) (g.L.Link.sent c.receive_turn.new.link))
came g c is =
    let s = listening_from c.loop.mark c.loop.turns in
    let turn = turn_in c.args.validates _ _ c.in_ok-is_turn.is_turn true is c.in_ok-is_turn.ensures.talk in
    talked_then (serving c.args.validates) _ s (looking_from c.loop.mark (c.loop.turns + 1)) _ _ _ c.loop.invariant.talk (turn (serving c.args.validates) s refl)

pub loop-preserved : goal.loop-preserved
loop-preserved g c = record {
  same = same_then c.args.pass.now c.receive_turn.new.pass c.send_turn.new.pass (same_then c.args.pass.now c.loop.pass c.receive_turn.new.pass c.loop.invariant.same c.receive_turn.ensures.left.same) c.send_turn.ensures.left.same;
  few = omega (arith, c.in_ok-mark.ensures.talk.mark_fits);
  turns_few = omega (arith, c.in_ok-mark.ensures.talk.longer, c.receive_turn.ensures.grown, c.loop.invariant.turns_few);
  turns_fit = omega (arith, c.in_ok-mark.ensures.talk.longer, c.in_ok-mark.ensures.talk.room, c.receive_turn.ensures.grown, c.loop.invariant.turns_few);
  closes = omega (arith, c.loop.invariant.closes, c.in_ok-is_turn.ensures.left.closes_are, c.in_ok-mark.ensures.left.closes_are);
  faults = omega (arith, c.loop.invariant.faults, c.in_ok-is_turn.ensures.left.faults_are, c.in_ok-mark.ensures.left.faults_are);
  talk = talked_then (serving c.args.validates) _ _ _ _ _ _ (came g (goal.at.loop-preserved g c).In_ok-is_turn c.if-not-is_turn.false) (c.in_ok-mark.ensures.talk.talked (serving c.args.validates) (c.loop.turns + 1));
}

pub returns-then-not-is_turn-clause-session : goal.returns-then-not-is_turn-clause-session
returns-then-not-is_turn-clause-session g c =
    let mode = serving c.args.validates in
    let s = listening_from c.loop.mark c.loop.turns in
    let turn = turn_in c.args.validates _ _ c.in_ok-is_turn.is_turn false c.if-not-is_turn.true c.in_ok-is_turn.ensures.talk in (
      in_phase Finished s,
      talked_then mode _ s (in_phase Finished s) _ _ _ c.loop.invariant.talk (turn mode s refl),
      refl,
      refl,
    )

pub returns-in_err-is_turn-clause-session : goal.returns-in_err-is_turn-clause-session
returns-in_err-is_turn-clause-session g c =
    let p = err_from_is_err_and c.from_residual.result c.from_residual.ensures.1 in
    let mode = serving c.args.validates in
    let s = listening_from c.loop.mark c.loop.turns in
    rw (p.1, p.2) (cut_then mode (listening_from 0 0) s _ _ _ _ c.loop.invariant.talk (c.in_err-is_turn.ensures.talk mode s refl))

pub returns-in_err-mark-clause-session : goal.returns-in_err-mark-clause-session
returns-in_err-mark-clause-session g c =
    let p = err_from_is_err_and c.from_residual-in_err-mark.result c.from_residual-in_err-mark.ensures.1 in
    let mode = serving c.args.validates in
    rw (p.1, p.2) (cut_then mode (listening_from 0 0) (looking_from c.loop.mark (c.loop.turns + 1)) _ _ _ _ (came g (goal.at.returns-in_err-mark-clause-session g c).In_ok-is_turn c.if-not-is_turn.false)
    (c.in_err-mark.ensures.talk mode (c.loop.turns + 1)))
