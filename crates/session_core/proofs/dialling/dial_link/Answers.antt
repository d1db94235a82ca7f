use Rattle.std.proofs.Common.{◌≡◌, ℕ, ◌<◌, true, false, Some, refl, ap, subst, arith, ne_eqb, eq-eqb, if◌then◌else◌}
use Rattle.std.proofs.lemmas.Result.{err_from_is_err_and}
use Rattle.edit_frame.specs.declared.frame.Frame.TheVariants as frames
use Rattle.edit_frame.specs.Spelling.{spelling}
use Rattle.peer_lock.proofs.Passing.{same_self, same_then}
use Rattle.session_core.specs.Events.{SessionState, Mode, Phase, Looks, SendsEnd, Finished, in_phase, dialling, phase_after_turns}
use Rattle.session_core.specs.Session.{side, Side, Talked}
use Rattle.session_core.specs.Pieces.{looking_from, listening_from}
use Rattle.session_core.proofs.Talks.{talked_none, talked_then, talked_went, cut_then, turn_in}
use Rattle.session_core.proofs.dialling.dial_link.Goals as goal
use Rattle.session_core.proofs.dialling.dial_link.Given.{Over}
use Rattle.session_core.proofs.dialling.dial_link.Goals.{After-send_turn, In_ok-mark}

-- a side between two rounds, after so many items and rounds
abbrev between : ℕ → ℕ → ℕ → SessionState
between rounds mark turns = record { phase = phase_after_turns (Some rounds) turns; mark = mark; turns = turns }

-- in a round this side looks, and after the last one it parts
looks_on : (rounds turns : ℕ) → turns < rounds → phase_after_turns (Some rounds) turns ≡ Looks
looks_on rounds turns less = ap (λ q. if q then SendsEnd else Looks) (ne_eqb turns rounds (λ e. absurd (omega arith)))

parts_then : (rounds turns : ℕ) → turns ≡ rounds → phase_after_turns (Some rounds) turns ≡ SendsEnd
parts_then rounds turns same = ap (λ q. if q then SendsEnd else Looks) (eq-eqb turns rounds same)

-- the same piece to an equal phase
to_phase : (mode : Mode) (p q : Phase) (mark turns : ℕ) (s : SessionState) (a b : Side) → p ≡ q → Talked mode s (record { phase = p; mark = mark; turns = turns }) a b
    → Talked mode s (record { phase = q; mark = mark; turns = turns }) a b
to_phase mode p q mark turns s a b e h = subst (λ (x : Phase). Talked mode s (record { phase = x; mark = mark; turns = turns }) a b) e h

pub loop-round-init : goal.loop-round-init
loop-round-init g c = record {
  same = same_self c.args.pass.now;
  few = omega arith;
  closes = refl;
  faults = refl;
  talk = talked_none (dialling c.args.validates c.args.rounds) (between c.args.rounds 0 0) c.args.pass.now _ _;
}

-- in a round this side looks
begun : (g : Over) (c : After-send_turn g) → Talked (dialling c.args.validates c.args.rounds) (between c.args.rounds 0 0) (looking_from c.loop-round.mark c.loop-round.round)
    (side c.args.pass.now (g.L.Link.got c.args.link.now) (g.L.Link.sent c.args.link.now)) (side c.loop-round.pass (g.L.Link.got c.loop-round.link) (g.L.Link.sent c.loop-round.link))
begun g c = to_phase _ _ Looks c.loop-round.mark c.loop-round.round _ _ _ (looks_on c.args.rounds c.loop-round.round c.loop-round-test.true) c.loop-round.invariant.talk

-- and then sends a turn
went : (g : Over) (c : In_ok-mark g) → Talked (dialling c.args.validates c.args.rounds) (between c.args.rounds 0 0) (looking_from c.loop-round.mark c.loop-round.round)
    (side c.args.pass.now (g.L.Link.got c.args.link.now) (g.L.Link.sent c.args.link.now)) (side c.loop-round.pass (g.L.Link.got c.loop-round.link) (g.L.Link.sent c.loop-round.link))
    → Talked (dialling c.args.validates c.args.rounds) (between c.args.rounds 0 0) (listening_from c.in_ok-mark.mark c.loop-round.round)
    (side c.args.pass.now (g.L.Link.got c.args.link.now) (g.L.Link.sent c.args.link.now)) (side c.send_turn.new.pass (g.L.Link.got c.send_turn.new.link) (g.L.Link.sent c.send_turn.new.link))
went g c before =
    let mode = dialling c.args.validates c.args.rounds in
    talked_then mode _ _ _ _ _ _ before (c.in_ok-mark.ensures.talk.talked mode c.loop-round.round)

pub loop-round-preserved : goal.loop-round-preserved
loop-round-preserved g c =
    let at = goal.at.loop-round-preserved g c in
    let mode = dialling c.args.validates c.args.rounds in
    let m = listening_from c.in_ok-mark.mark c.loop-round.round in
    let turn = turn_in c.args.validates _ _ c.in_ok-is_turn.is_turn true c.if-not-is_turn.false c.in_ok-is_turn.ensures.talk in record {
      same = same_then c.args.pass.now c.send_turn.new.pass c.receive_turn.new.pass (same_then c.args.pass.now c.loop-round.pass c.send_turn.new.pass c.loop-round.invariant.same c.send_turn.ensures.left.same) c.receive_turn.ensures.left.same;
      few = omega (arith, c.in_ok-mark.ensures.talk.mark_fits, c.receive_turn.ensures.grown);
      closes = omega (arith, c.loop-round.invariant.closes, c.in_ok-mark.ensures.left.closes_are, c.in_ok-is_turn.ensures.left.closes_are);
      faults = omega (arith, c.loop-round.invariant.faults, c.in_ok-mark.ensures.left.faults_are, c.in_ok-is_turn.ensures.left.faults_are);
      talk = talked_then mode _ m _ _ _ _ (went g at.In_ok-mark (begun g at.After-send_turn)) (turn mode m refl);
    }

pub returns-in_err-mark-clause-session : goal.returns-in_err-mark-clause-session
returns-in_err-mark-clause-session g c =
    let p = err_from_is_err_and c.from_residual.result c.from_residual.ensures.1 in
    let mode = dialling c.args.validates c.args.rounds in
    rw (p.1, p.2) (cut_then mode _ _ _ _ _ _ (begun g (goal.at.returns-in_err-mark-clause-session g c).After-send_turn) (c.in_err-mark.ensures.talk mode c.loop-round.round))

pub returns-then-not-is_turn-clause-session : goal.returns-then-not-is_turn-clause-session
returns-then-not-is_turn-clause-session g c =
    let at = goal.at.returns-then-not-is_turn-clause-session g c in
    let mode = dialling c.args.validates c.args.rounds in
    let m = listening_from c.in_ok-mark.mark c.loop-round.round in
    let turn = turn_in c.args.validates _ _ c.in_ok-is_turn.is_turn false c.if-not-is_turn.true c.in_ok-is_turn.ensures.talk in (
      in_phase Finished m,
      talked_then mode _ m (in_phase Finished m) _ _ _ (went g at.In_ok-mark (begun g at.After-send_turn)) (turn mode m refl),
      refl,
      refl,
    )

pub returns-in_err-is_turn-clause-session : goal.returns-in_err-is_turn-clause-session
returns-in_err-is_turn-clause-session g c =
    let p = err_from_is_err_and c.from_residual-in_err-is_turn.result c.from_residual-in_err-is_turn.ensures.1 in
    let at = goal.at.returns-in_err-is_turn-clause-session g c in
    let mode = dialling c.args.validates c.args.rounds in
    let m = listening_from c.in_ok-mark.mark c.loop-round.round in
    rw (p.1, p.2) (cut_then mode _ m _ _ _ _ (went g at.In_ok-mark (begun g at.After-send_turn)) (c.in_err-is_turn.ensures.talk mode m refl))

pub returns-clause-session : goal.returns-clause-session
returns-clause-session g c =
    let n = c.loop-round.round in
    let mode = dialling c.args.validates c.args.rounds in
    let last : n ≡ c.args.rounds = omega arith in
    let s : SessionState = record { phase = SendsEnd; mark = c.loop-round.mark; turns = n } in (
      in_phase Finished s,
      talked_then mode _ s (in_phase Finished s) _ _ _ (to_phase _ _ SendsEnd c.loop-round.mark n _ _ _ (parts_then c.args.rounds n last) c.loop-round.invariant.talk)
          (talked_went mode s (in_phase Finished s) c.loop-round.pass _ _ _ _ (spelling frames.End) c.send_frame.ensures.got c.in_ok-send_frame.ensures.sent (refl, refl)),
      refl,
      last,
    )
