use Rattle.std.proofs.Common.{◌≡◌, ◌∙◌, ap, arith, subst, ℕ, List, Option}
use Rattle.std.proofs.lemmas.Result.{err_from_is_err_and}
use Rattle.peer_lock.proofs.Passing.{same_then}
use Rattle.session_core.specs.Events.{SessionState, Mode, in_phase}
use Rattle.session_core.specs.Session.{side, Talked}
use Rattle.session_core.specs.Clearing.{clearing, after_clearing}
use Rattle.session_core.proofs.Talks.{talked_then, cut_then}
use Rattle.session_core.proofs.Clearings.{not_cleared}
use Rattle.session_core.proofs.steps.clear.Goals as goal
use Rattle.session_core.proofs.steps.clear.Given.{Over}
use Rattle.session_core.proofs.steps.clear.Goals.{In_ok-cleared}

-- one more was taken
taken : (g : Over) (c : In_ok-cleared g) (mode : Mode) (s t : SessionState) (got sent : Option (List (List ℕ))) → after_clearing mode c.args.backlog c.in_ok-cleared.cleared s ≡ t
    → Talked mode (in_phase (clearing c.args.backlog) s) t (side c.args.pass.now got sent) (side c.take_next.new.pass got sent)
taken g c mode s t got sent e =
    talked_then mode _ _ t _ _ _ (c.loop.invariant.talk mode s got sent)
    (subst (λ (u : SessionState). Talked mode (in_phase (clearing c.args.backlog) s) u (side c.loop.pass got sent) (side c.take_next.new.pass got sent)) e (c.in_ok-cleared.ensures.talk mode s got sent))

pub returns-then-cleared-clause-talk : goal.returns-then-cleared-clause-talk
returns-then-cleared-clause-talk g c = λ mode s got sent.
    taken g (goal.at.returns-then-cleared-clause-talk g c).In_ok-cleared mode s _ got sent (ap (λ q. after_clearing mode c.args.backlog q s) c.if-cleared.true)

pub returns-in_err-cleared-clause-talk : goal.returns-in_err-cleared-clause-talk
returns-in_err-cleared-clause-talk g c =
    let p = err_from_is_err_and c.from_residual.result c.from_residual.ensures.1 in
    rw (p.1, p.2) (λ mode s got sent. cut_then mode _ _ _ _ _ _ (c.loop.invariant.talk mode s got sent) (c.in_err-cleared.ensures.talk mode s got sent))

pub loop-preserved : goal.loop-preserved
loop-preserved g c = record {
  same = same_then c.args.pass.now c.loop.pass c.take_next.new.pass c.loop.invariant.same c.take_next.ensures.keeps.same;
  grown = omega (arith, c.loop.invariant.grown, c.take_next.ensures.keeps.grown);
  talk = λ mode s got sent.
      taken g (goal.at.loop-preserved g c).In_ok-cleared mode s _ got sent (ap (λ q. after_clearing mode c.args.backlog q s) c.if-cleared.false ∙ not_cleared mode c.args.backlog s);
}
