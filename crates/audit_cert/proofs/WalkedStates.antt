-- The state of a request by a walk along the versions at which the verdict may change.
use Rattle.std.proofs.Common.{◌≡◌, ℕ, false, ◌+◌, ◌-◌, ◌<◌, ◌≤◌, List, length, None, Some, refl, sym, ap, ◌∙◌, arith}
use Rattle.std.specs.Prelude.{map, is_some}
use Rattle.std.specs.List.{range_with_len}
use Rattle.std.specs.declared.option.Option.{Option}
use Rattle.std.specs.Option.{option_or}
use Rattle.std.proofs.lemmas.Bool.{true≢false}
use Rattle.element_name.specs.Cases.{first_of}
use Rattle.element_name.specs.Name.{Name}
use Rattle.coop_request.specs.Request.{Request, user_of}
use Rattle.policy_book.specs.Entry.{Entry}
use Rattle.auth_match.specs.declared.verdict.Verdict.{Verdict}
use Rattle.auth_match.specs.declared.verdict.Verdict.TheVariants.{Granted, Denied}
use Rattle.admin_log.specs.Log.{policy_at, validated_at}
use Rattle.admin_log.specs.declared.version_table.VersionTable.{VersionTable}
use Rattle.admin_log.specs.VersionTable.{is_noted}
use Rattle.request_state.specs.declared.state.State.TheVariants.{Invalid}
use Rattle.check_remote.specs.State.{verdict_at, denial_by, denial_at, first_denial, state_by, state_of}
use Rattle.check_remote.proofs.Walks.{range_none, first_at, first_behind}
use Rattle.audit_cert.specs.Grants.{granting_at}
use Rattle.audit_cert.specs.Rematches.{IsRematchTable}
use Rattle.audit_cert.proofs.GrantingAuths.{granting_law}
use Rattle.audit_cert.proofs.Rematches.{verdict_between}

-- from a version that grants up to the next one in the table none denies
pub granted_to_next : (names : List Name) (log : List Entry) (q : Request) (table : VersionTable) (a next end by user : ℕ) → IsRematchTable log table → end ≤ length log + 1 → user ≡ user_of q
    → a + 1 ≤ next → next ≤ end → ((v : ℕ) → a + 1 ≤ v → v < next → is_noted table v user ≡ false) → granting_at names log q a ≡ Some by → 0 < user_of q
    → first_of (map (denial_at names log q) (range_with_len a (end - a))) ≡ first_of (map (denial_at names log q) (range_with_len next (end - next)))
granted_to_next names log q table a next end by user is most same from to none granted other =
    let within : next ≤ length log + 1 = omega (arith, to, most) in
    let quiet : (v : ℕ) → a + 1 ≤ v → v < next → is_noted table v (user_of q) ≡ false = λ v low high. ap (is_noted table v) (sym same) ∙ none v low high in
    let verdict : verdict_at names log q a ≡ Granted = (granting_law names (policy_at log a) q other).1 (ap (λ (o : Option ℕ). is_some o) granted) in
    first_behind (denial_at names log q) a next end (omega (arith, from)) to
    (λ v low high. ap (denial_by v) (verdict_between names log q table is a next within quiet v low high ∙ verdict))

-- where none is left, none denies
pub granted_all : (names : List Name) (log : List Entry) (q : Request) (next end : ℕ) → end ≤ next
    → first_denial names log q ≡ first_of (map (denial_at names log q) (range_with_len next (end - next))) → state_by None (validated_at log q.id) ≡ state_of names log q
granted_all names log q next end last left =
    let none = left ∙ ap (λ (vs : List ℕ). first_of (map (denial_at names log q) vs)) (range_none next end last) in
    sym (ap (λ d. state_by d (validated_at log q.id)) none)

-- a version that denies, behind those that grant, decides
denied_here : (names : List Name) (log : List Entry) (q : Request) (a end : ℕ) (by : Option ℕ) → a < end → verdict_at names log q a ≡ Denied by
    → first_denial names log q ≡ first_of (map (denial_at names log q) (range_with_len a (end - a))) → Invalid a by ≡ state_of names log q
denied_here names log q a end by lt denied left =
    let f = denial_at names log q in
    let first = left ∙ first_at f a end lt ∙ ap (λ row. option_or row (first_of (map f (range_with_len (a + 1) (end - (a + 1)))))) (ap (denial_by a) denied) in
    sym (ap (λ d. state_by d (validated_at log q.id)) first)

-- so does one that no authorization grants
pub denied_from : (names : List Name) (log : List Entry) (q : Request) (a end : ℕ) → a < end → granting_at names log q a ≡ None → 0 < user_of q
    → first_denial names log q ≡ first_of (map (denial_at names log q) (range_with_len a (end - a)))
    → state_by (denial_by a (verdict_at names log q a)) (validated_at log q.id) ≡ state_of names log q
denied_from names log q a end lt none other left = by (verdict_at names log q a) refl
  where
    by : (w : Verdict) → verdict_at names log q a ≡ w → state_by (denial_by a w) (validated_at log q.id) ≡ state_of names log q
    by Granted is =
        let some = (granting_law names (policy_at log a) q other).0 is in
        absurd (true≢false (sym some ∙ ap (λ (o : Option ℕ). is_some o) none))
    by (Denied d) is = denied_here names log q a end d lt is left
