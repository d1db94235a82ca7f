use Rattle.std.proofs.Common.{◌≡◌, ◌-◌, ◌<◌, ◌≤◌, ◌++◌, map}
use Rattle.std.specs.List.{range_with_len}
use Rattle.admin_log.specs.Log.{policy_at}
use Rattle.element_name.specs.Cases.{first_of}
use Rattle.check_remote.specs.State.{judged_versions, denial_at, first_denial}
use Rattle.audit_cert.specs.Grants.{granting_at, put_in_front, grants_over}
use Rattle.audit_cert.proofs.findings.walk.Given as goal

abbrev pub invariant-loop-next : goal.invariant-loop-next
invariant-loop-next g l =
    let log = l.judging.log.now in
    let f = granting_at (g.P.Places.names l.judging.places.now) log l.request in
    record {
      before : l.at < l.next;
      within : l.next ≤ l.end;
      policy : l.policy ≡ policy_at log l.at;
      state : first_denial (g.P.Places.names l.judging.places.now) log l.request
          ≡ first_of (map (denial_at (g.P.Places.names l.judging.places.now) log l.request) (range_with_len l.next (l.end - l.next)));
      left : l.grants.items ++ put_in_front l.current (grants_over f (range_with_len l.next (l.end - l.next))) ≡ grants_over f (judged_versions log l.request);
    }

abbrev pub decreases-loop-next : goal.decreases-loop-next
decreases-loop-next g l = l.end - l.next
