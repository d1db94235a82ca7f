-- Grants along the versions at which another authorization may match first.
use Rattle.std.proofs.Common.{◌≡◌, ℕ, false, ◌+◌, ◌-◌, ◌<◌, ◌≤◌, List, length, Some, sym, ap, ◌∙◌, arith}
use Rattle.std.specs.List.{range_with_len}
use Rattle.element_name.specs.Name.{Name}
use Rattle.coop_request.specs.Request.{Request, user_of}
use Rattle.policy_book.specs.Entry.{Entry}
use Rattle.admin_log.specs.declared.version_table.VersionTable.{VersionTable}
use Rattle.admin_log.specs.VersionTable.{is_noted}
use Rattle.audit_cert.specs.Grants.{granting_at, put_in_front, grants_over}
use Rattle.audit_cert.specs.Rematches.{IsRematchTable}
use Rattle.audit_cert.proofs.GrantRuns.{grant, over_run}
use Rattle.audit_cert.proofs.Rematches.{granting_between}

-- from a version up to the next one in the table the same authorization grants
pub run_to_next : (names : List Name) (log : List Entry) (q : Request) (table : VersionTable) (a next end by user : ℕ) → IsRematchTable log table → end ≤ length log + 1 → user ≡ user_of q
    → a + 1 ≤ next → next ≤ end → ((v : ℕ) → a + 1 ≤ v → v < next → is_noted table v user ≡ false) → granting_at names log q a ≡ Some by
    → put_in_front (grant a (next - 1) by) (grants_over (granting_at names log q) (range_with_len next (end - next))) ≡ grants_over (granting_at names log q) (range_with_len a (end - a))
run_to_next names log q table a next end by user is most same from to none granted =
    let within : next ≤ length log + 1 = omega (arith, to, most) in
    let quiet : (v : ℕ) → a + 1 ≤ v → v < next → is_noted table v (user_of q) ≡ false = λ v low high. ap (is_noted table v) (sym same) ∙ none v low high in
    over_run (granting_at names log q) a next end by (omega (arith, from)) to
    (λ v low high. granting_between names log q table is a next within quiet v low high ∙ granted)
