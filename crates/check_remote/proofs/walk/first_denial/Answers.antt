use Rattle.std.proofs.Common.{◌≡◌, ◌+◌, map, sym, ap, ◌∙◌, Some, arith}
use Rattle.element_name.specs.Cases.{first_of}
use Rattle.check_remote.specs.State.{denial_at}
use Rattle.check_remote.proofs.Walking.{denied_at, left_on}
use Rattle.check_remote.proofs.Walks.{first_here, range_none}
use Rattle.check_remote.proofs.walk.first_denial.Goals as goal

pub returns-in-Some : goal.returns-in-Some
returns-in-Some g c =
    let names = g.P.Places.names c.args.places.now in
    let f = denial_at names c.args.log.now c.args.request.now in
    let stands = c.versions.invariant in
    let here : f c.versions.at ≡ Some c.in-Some.denial = sym (c.denial_on.ensures ∙ denied_at names c.args.log.now c.args.request.now c.versions.at c.versions.policy stands.policy_is) ∙ c.in-Some.is in
    sym (stands.left ∙ first_here f c.versions.at c.args.last c.in-Some.denial (omega (arith, stands.within)) here)

pub returns-then-next-last : goal.returns-then-next-last
returns-then-next-last g c =
    let next = c.next_that_may_deny-next.ensures in
    sym (left_on _ _ _ _ _ _ _ _ _ c.versions.invariant c.requires.log (omega (arith, c.requires.within)) c.user.ensures next.behind next.last next.none (sym c.denial_on.ensures ∙ c.in_default.is)
    ∙ ap (λ vs. first_of (map (denial_at (g.P.Places.names c.args.places.now) c.args.log.now c.args.request.now) vs))
    (range_none c.next_that_may_deny-next.result (c.args.last + 1) (omega (arith, c.if-next-last.true))))

pub versions-preserved : goal.versions-preserved
versions-preserved g c =
    let next = c.next_that_may_deny-next.ensures in
    record {
      within = omega (arith, c.if-next-last.false);
      policy_is = c.in_ok-advance.ensures.ok;
      left = left_on _ _ _ _ _ _ _ _ _ c.versions.invariant c.requires.log (omega (arith, c.requires.within)) c.user.ensures next.behind next.last next.none (sym c.denial_on.ensures ∙ c.in_default.is);
    }
