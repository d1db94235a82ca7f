use Rattle.std.proofs.Common.{◌≡◌, ◌+◌, ℕ, Option, Some, None, refl, sym, subst, arith}
use Rattle.std.proofs.lemmas.Result.{err_from_is_err_and}
use Rattle.edit_message.specs.declared.message.Message.{Message}
use Rattle.edit_frame.specs.declared.frame.Frame.TheVariants as frames
use Rattle.edit_frame.specs.Spelling.{spelling}
use Rattle.peer_lock.proofs.Passing.{same_self, same_then}
use Rattle.session_core.specs.Events.{SessionState, Mode, SendsItem, SendsTurn, Listens, Finds, in_phase}
use Rattle.session_core.specs.Session.{side, Talked}
use Rattle.session_core.specs.Pieces.{looking_from}
use Rattle.session_core.proofs.Talks.{talked_none, talked_then, talked_looked, talked_went, cut_then, cut_look, cut_send}
use Rattle.session_core.proofs.turns.send_turn.Goals as goal
use Rattle.session_core.proofs.turns.send_turn.Given.{Over}
use Rattle.session_core.proofs.turns.send_turn.Goals.{In_ok-found}

-- after what was sent, a look found this
found : (g : Over) (c : In_ok-found g) (mode : Mode) (turns : ℕ) (item : Option Message) (t : SessionState) → c.in_ok-found.found ≡ item → Finds (Some item) (looking_from c.loop.mark turns) t
    → Talked mode (looking_from c.args.mark turns) t (side c.args.pass.now (g.L.Link.got c.args.link.now) (g.L.Link.sent c.args.link.now))
    (side c.look.new.pass (g.L.Link.got c.loop.link) (g.L.Link.sent c.loop.link))
found g c mode turns item t is finds =
    let s = looking_from c.loop.mark turns in
    talked_then mode _ s t _ _ _ (c.loop.invariant.talk mode turns)
    (talked_looked mode s t c.loop.pass c.look.new.pass _ _ c.in_ok-found.found refl c.look.ensures.keeps.same c.in_ok-found.ensures.looks (subst (λ (x : Option Message). Finds (Some x) s t) (sym is) finds))

pub loop-init : goal.loop-init
loop-init g c = record {
  same = same_self c.args.pass.now;
  grown = omega arith;
  few = c.requires.few;
  closes = refl;
  faults = refl;
  talk = λ mode turns. talked_none mode _ c.args.pass.now _ _;
}

pub loop-preserved : goal.loop-preserved
loop-preserved g c = record {
  same = same_then c.args.pass.now c.loop.pass c.look.new.pass c.loop.invariant.same c.look.ensures.keeps.same;
  grown = omega (arith, c.loop.invariant.grown, c.in_ok-found.ensures.looks.1.longer);
  few = omega (arith, c.loop.invariant.few, c.in_ok-found.ensures.looks.1.longer);
  closes = omega (arith, c.loop.invariant.closes, c.in_ok-send_item-in-Some-found.ensures.closes);
  faults = omega (arith, c.loop.invariant.faults, c.in_ok-send_item-in-Some-found.ensures.faults);
  talk = λ mode turns.
      let m = c.in-Some-found.message in
      let s = in_phase (SendsItem m) (looking_from c.loop.mark turns) in
      let t = looking_from (c.loop.mark + 1) turns in
      talked_then mode _ s t _ _ _ (found g (goal.at.loop-preserved g c).In_ok-found mode turns (Some m) s c.in-Some-found.is refl)
      (talked_went mode s t c.look.new.pass _ _ _ _ (spelling (frames.Item m)) c.send_item.ensures.got c.in_ok-send_item-in-Some-found.ensures.sent (refl, refl));
}

pub returns-in_err-send_item-in-Some-found-clause-talk : goal.returns-in_err-send_item-in-Some-found-clause-talk
returns-in_err-send_item-in-Some-found-clause-talk g c =
    let p = err_from_is_err_and c.from_residual-in_err-send_item-in-Some-found.result c.from_residual-in_err-send_item-in-Some-found.ensures.1 in
    let m = c.in-Some-found.message in
    rw (p.1, p.2) (λ mode turns.
    let s = in_phase (SendsItem m) (looking_from c.loop.mark turns) in
    cut_then mode _ s _ _ _ _ (found g (goal.at.returns-in_err-send_item-in-Some-found-clause-talk g c).In_ok-found mode turns (Some m) s c.in-Some-found.is refl)
    (cut_send mode s c.look.new.pass _ _ _ _ (spelling (frames.Item m)) _ tt c.send_item.ensures.got c.in_err-send_item-in-Some-found.ensures.sent))

pub returns-in_err-found-clause-talk : goal.returns-in_err-found-clause-talk
returns-in_err-found-clause-talk g c =
    let p = err_from_is_err_and c.from_residual.result c.from_residual.ensures.1 in
    rw (p.1, p.2) (λ mode turns.
    let s = looking_from c.loop.mark turns in
    cut_then mode _ s _ _ _ _ (c.loop.invariant.talk mode turns) (cut_look mode s c.loop.pass c.look.new.pass _ _ _ tt c.look.ensures.keeps.same c.in_err-found.ensures.looks))

pub returns-in-None-found-clause-talk : goal.returns-in-None-found-clause-talk
returns-in-None-found-clause-talk g c = record {
  talked = λ mode turns.
      let s = in_phase SendsTurn (looking_from c.loop.mark turns) in
      let t = in_phase Listens s in
      talked_then mode _ s t _ _ _ (found g (goal.at.returns-in-None-found-clause-talk g c).In_ok-found mode turns None s c.in-None-found.is refl)
      (talked_went mode s t c.look.new.pass _ _ _ _ (spelling frames.Turn) c.send_frame.ensures.got c.in_ok-send_frame-in-None-found.ensures.sent (refl, refl));
  mark_fits = omega (arith, c.loop.invariant.few, c.in_ok-found.ensures.looks.1.longer);
  longer = omega (arith, c.loop.invariant.grown, c.in_ok-found.ensures.looks.1.longer);
  room = c.in_ok-found.ensures.looks.1.room;
}

pub returns-in_err-send_frame-in-None-found-clause-talk : goal.returns-in_err-send_frame-in-None-found-clause-talk
returns-in_err-send_frame-in-None-found-clause-talk g c =
    let p = err_from_is_err_and c.from_residual-in_err-send_frame-in-None-found.result c.from_residual-in_err-send_frame-in-None-found.ensures.1 in
    rw (p.1, p.2) (λ mode turns.
    let s = in_phase SendsTurn (looking_from c.loop.mark turns) in
    cut_then mode _ s _ _ _ _ (found g (goal.at.returns-in_err-send_frame-in-None-found-clause-talk g c).In_ok-found mode turns None s c.in-None-found.is refl)
    (cut_send mode s c.look.new.pass _ _ _ _ (spelling frames.Turn) _ tt c.send_frame.ensures.got c.in_err-send_frame-in-None-found.ensures.sent))
