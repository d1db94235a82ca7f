use Rattle.std.proofs.Common.{◌≡◌, ℕ, false, ◌-◌, ◌<◌, ◌≤◌}
use Rattle.admin_log.specs.Log.{may_deny}
use Rattle.admin_log.proofs.log.AdminLog.next_that_may_deny.Given as goal

abbrev pub invariant-loop-next : goal.invariant-loop-next
invariant-loop-next l =
    record {
      behind : l.after < l.next;
      last : l.next ≤ l.end;
      none : (v : ℕ) → l.after < v → v < l.next → may_deny l.self v l.user ≡ false;
    }

abbrev pub decreases-loop-next : goal.decreases-loop-next
decreases-loop-next l = l.end - l.next
