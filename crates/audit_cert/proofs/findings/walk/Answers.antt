use Rattle.std.proofs.Common.{◌≡◌, ℕ, ◌+◌, ◌-◌, List, ◌++◌, map, refl, sym, ap, ◌∙◌, arith}
use Rattle.std.specs.List.{range_with_len}
use Rattle.admin_log.specs.Log.{policy_at}
use Rattle.element_name.specs.Cases.{first_of}
use Rattle.check_remote.specs.State.{judged_versions, denial_at}
use Rattle.audit_cert.specs.declared.grant.Grant.{Grant}
use Rattle.audit_cert.specs.Grants.{granting_at, put_in_front, grants_over}
use Rattle.audit_cert.proofs.GrantRuns.{over_denied}
use Rattle.audit_cert.proofs.WalkedStates.{granted_all}
use Rattle.audit_cert.proofs.findings.walk.Goals as goal

pub loop-next-init : goal.loop-next-init
loop-next-init g c =
    let names = g.P.Places.names c.args.judging.now.places.now in
    let log = c.args.judging.now.log.now in
    let q = c.args.request in
    let end = c.range_end-end.result in
    let at = c.version-at.result in
    let version : at ≡ q.version = c.version-at.ensures.value in
    let judged : range_with_len at (end - at) ≡ judged_versions log q = rw (version, c.range_end-end.ensures.value) refl in
    let current = c.run_from-current.result in
    let run = c.run_from-current.ensures in
    record {
      before = omega (arith, run.some);
      within = omega (arith, run.within);
      policy = c.requires.policy ∙ sym (ap (policy_at log) version);
      state = ap (λ (vs : List ℕ). first_of (map (denial_at names log q) vs)) (sym judged) ∙ run.state;
      left = ap (λ (gs : List Grant). gs ++ put_in_front current (grants_over (granting_at names log q) (range_with_len (current.to + 1) (end - (current.to + 1))))) c.new-grants.ensures.items
          ∙ run.grants
          ∙ ap (grants_over (granting_at names log q)) judged;
    }

pub loop-next-preserved : goal.loop-next-preserved
loop-next-preserved g c =
    let f = granting_at (g.P.Places.names c.args.judging.now.places.now) c.args.judging.now.log.now c.args.request in
    let now = c.loop-next in
    let next = c.run_from-run.result.to + 1 in
    let run = c.run_from-run.ensures in
    record {
      before = omega (arith, run.some);
      within = omega (arith, run.within);
      policy = c.in_ok-advance.ensures.ok;
      state = now.invariant.state ∙ run.state;
      left = c.in_ok-go_on.ensures (grants_over f (range_with_len next (c.range_end-end.result - next)))
          ∙ ap (λ (gs : List Grant). now.grants.items ++ put_in_front now.current gs) run.grants
          ∙ now.invariant.left;
    }

pub returns-in-Err : goal.returns-in-Err
returns-in-Err g c =
    let f = granting_at (g.P.Places.names c.args.judging.now.places.now) c.args.judging.now.log.now c.args.request in
    let now = c.loop-next in
    let end = c.range_end-end.result in
    record {
      state = c.in-Err.ensures.state end c.loop-next-test.true now.invariant.state;
      grants = c.in_ok-push-in-Err.ensures.items
          ∙ ap (λ (gs : List Grant). now.grants.items ++ put_in_front now.current gs) (sym (over_denied f now.next end c.loop-next-test.true c.in-Err.ensures.denied))
          ∙ now.invariant.left;
    }

pub returns-clause-state : goal.returns-clause-state
returns-clause-state g c =
    let judging = c.args.judging.now in
    c.state_by-granted.ensures
    ∙ granted_all (g.P.Places.names judging.places.now) judging.log.now c.args.request c.loop-next.next c.range_end-end.result c.loop-next-test.false c.loop-next.invariant.state
