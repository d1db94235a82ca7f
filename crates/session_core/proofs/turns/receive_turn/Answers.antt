use Rattle.std.proofs.Common.{◌≡◌, ◌+◌, Ok, refl, sym, ap, ◌∙◌, subst, arith}
use Rattle.std.proofs.lemmas.Result.{err_from_is_err_and}
use Rattle.edit_frame.specs.declared.frame.Frame.{Frame}
use Rattle.edit_frame.specs.declared.frame.Frame.TheVariants as frames
use Rattle.peer_lock.proofs.Passing.{same_self, same_then}
use Rattle.session_core.specs.Events.{SessionState, Mode, Listens, ReceivesItem, Validates, Finished, Hears, in_phase, turn_done, after_turn}
use Rattle.session_core.specs.Session.{side, Talked}
use Rattle.session_core.proofs.Talks.{talked_none, talked_then, cut_then}
use Rattle.session_core.proofs.turns.receive_turn.Goals as goal
use Rattle.session_core.proofs.turns.receive_turn.Given.{Over}
use Rattle.session_core.proofs.turns.receive_turn.Goals.{In_ok-frame}

-- after what came before it, this frame came
came : (g : Over) (c : In_ok-frame g) (mode : Mode) (s t : SessionState) (f : Frame) → c.in_ok-frame.frame ≡ f → Hears mode (in_phase Listens s) (Ok f) t
    → Talked mode (in_phase Listens s) t (side c.args.pass.now (g.L.Link.got c.args.link.now) (g.L.Link.sent c.args.link.now))
    (side c.loop.pass (g.L.Link.got c.receive_frame.new.link) (g.L.Link.sent c.receive_frame.new.link))
came g c mode s t f is hears =
    talked_then mode _ (in_phase Listens s) t _ _ _ (c.loop.invariant.talk mode s)
    (c.in_ok-frame.ensures.talk mode (in_phase Listens s) c.loop.pass refl t (subst (λ (x : Frame). Hears mode (in_phase Listens s) (Ok x) t) (sym is) hears))

pub loop-init : goal.loop-init
loop-init g c = record {
  same = same_self c.args.pass.now;
  grown = omega arith;
  closes = refl;
  faults = refl;
  talk = λ mode s. talked_none mode (in_phase Listens s) c.args.pass.now _ _;
}

pub loop-preserved : goal.loop-preserved
loop-preserved g c = record {
  same = same_then c.args.pass.now c.loop.pass c.take_item.new.pass c.loop.invariant.same c.take_item.ensures.keeps.same;
  grown = omega (arith, c.loop.invariant.grown, c.take_item.ensures.keeps.grown);
  closes = omega (arith, c.loop.invariant.closes, c.in_ok-frame.ensures.closes);
  faults = omega (arith, c.loop.invariant.faults, c.in_ok-frame.ensures.faults);
  talk = λ mode s.
      let m = in_phase (ReceivesItem c.in-Item.message) s in
      talked_then mode _ m _ _ _ _ (came g (goal.at.loop-preserved g c).In_ok-frame mode s m (frames.Item c.in-Item.message) c.in-Item.is refl) (c.in_ok-take_item-in-Item.ensures.talk mode s _ _);
}

pub returns-in_err-take_item-in-Item-clause-talk : goal.returns-in_err-take_item-in-Item-clause-talk
returns-in_err-take_item-in-Item-clause-talk g c =
    let p = err_from_is_err_and c.from_residual-in_err-take_item-in-Item.result c.from_residual-in_err-take_item-in-Item.ensures.1 in
    rw (p.1, p.2) (λ mode s v.
    let m = in_phase (ReceivesItem c.in-Item.message) s in
    cut_then mode _ m _ _ _ _ (came g (goal.at.returns-in_err-take_item-in-Item-clause-talk g c).In_ok-frame mode s m (frames.Item c.in-Item.message) c.in-Item.is refl) (c.in_err-take_item-in-Item.ensures.talk mode s _ _))

pub returns-then-validates-clause-talk : goal.returns-then-validates-clause-talk
returns-then-validates-clause-talk g c = λ mode s v.
    let next : SessionState = record s { turns = s.turns + 1 } in
    let asks = ap (λ q. after_turn mode q (in_phase Listens s)) (sym (v ∙ c.if-validates.true)) in
    talked_then mode _ (in_phase Validates next) (turn_done mode next) _ _ _ (came g (goal.at.returns-then-validates-clause-talk g c).In_ok-frame mode s (in_phase Validates next) frames.Turn c.in-Turn.is asks)
    (c.in_ok-clear-in-Turn.ensures.talk mode next _ _)

pub returns-in_err-clear-in-Turn-clause-talk : goal.returns-in_err-clear-in-Turn-clause-talk
returns-in_err-clear-in-Turn-clause-talk g c =
    let p = err_from_is_err_and c.from_residual-in_err-clear-in-Turn.result c.from_residual-in_err-clear-in-Turn.ensures.1 in
    rw (p.1, p.2) (λ mode s v.
    let next : SessionState = record s { turns = s.turns + 1 } in
    let asks = ap (λ q. after_turn mode q (in_phase Listens s)) (sym (v ∙ c.if-validates.true)) in
    cut_then mode _ (in_phase Validates next) _ _ _ _ (came g (goal.at.returns-in_err-clear-in-Turn-clause-talk g c).In_ok-frame mode s (in_phase Validates next) frames.Turn c.in-Turn.is asks)
    (c.in_err-clear-in-Turn.ensures.talk mode next _ _))

pub returns-in-Turn-clause-talk : goal.returns-in-Turn-clause-talk
returns-in-Turn-clause-talk g c = λ mode s v.
    came g (goal.at.returns-in-Turn-clause-talk g c).In_ok-frame mode s _ frames.Turn c.in-Turn.is (ap (λ q. after_turn mode q (in_phase Listens s)) (sym (v ∙ c.if-validates.false)))

pub returns-in-End-clause-talk : goal.returns-in-End-clause-talk
returns-in-End-clause-talk g c = λ mode s v. came g (goal.at.returns-in-End-clause-talk g c).In_ok-frame mode s (in_phase Finished s) frames.End c.in-End.is refl

pub returns-in_err-frame-clause-talk : goal.returns-in_err-frame-clause-talk
returns-in_err-frame-clause-talk g c =
    let p = err_from_is_err_and c.from_residual.result c.from_residual.ensures.1 in
    rw (p.1, p.2) (λ mode s v. cut_then mode _ (in_phase Listens s) _ _ _ _ (c.loop.invariant.talk mode s) (c.in_err-frame.ensures.talk mode (in_phase Listens s) c.loop.pass refl))
