use Rattle.std.proofs.Common.{◌≡◌, ℕ}
use Rattle.std.specs.Prelude.{◌&&◌, nat_le}
use Rattle.admin_log.specs.Log.{policy_at}
use Rattle.admin_log.specs.VersionTable.{is_noted}
use Rattle.audit_cert.specs.Rematches.{may_rematch_at}
use Rattle.audit_cert.proofs.rematch.rematch_table.Given as goal

abbrev pub invariant-loop-before : goal.invariant-loop-before
invariant-loop-before l =
    record {
      policy : l.policy ≡ policy_at l.log l.before;
      noted : (v u : ℕ) → is_noted l.table v u ≡ (nat_le v l.before && may_rematch_at l.log v u);
    }
