-- A walk that stands at a version, and goes on to the next one that may deny.
use Rattle.std.proofs.Common.{◌≡◌, ℕ, ◌+◌, ◌-◌, ◌<◌, ◌≤◌, length, map, false, List, None, sym, ap, ◌∙◌, arith}
use Rattle.std.specs.List.{range_with_len}
use Rattle.element_name.specs.Cases.{first_of}
use Rattle.element_name.specs.Name.{Name}
use Rattle.coop_request.specs.Request.{Request, user_of}
use Rattle.policy_book.specs.Entry.{Entry}
use Rattle.policy_book.specs.Policy.{Policy}
use Rattle.auth_match.specs.Requests.{request_verdict}
use Rattle.admin_log.specs.Log.{IsLog, policy_at, may_deny}
use Rattle.check_remote.specs.State.{denial_by, denial_at}
use Rattle.check_remote.proofs.Reached.{granted_between}
use Rattle.check_remote.proofs.Walks.{first_behind}

-- what a policy denies is what its version does
pub denied_at : (names : List Name) (log : List Entry) (q : Request) (v : ℕ) (policy : Policy) → policy ≡ policy_at log v
    → denial_by v (request_verdict names policy q) ≡ denial_at names log q v
denied_at names log q v policy is = ap (λ (p : Policy). denial_by v (request_verdict names p q)) is

-- it stands at a version, what is left is from there, and it has its policy
pub record StandsAt (names : List Name) (log : List Entry) (q : Request) (first at end : ℕ) (policy : Policy) : Type 0 where
  pub within : at < end
  pub policy_is : policy ≡ policy_at log at
  pub left : first_of (map (denial_at names log q) (range_with_len first (end - first))) ≡ first_of (map (denial_at names log q) (range_with_len at (end - at)))

-- where that version grants, what is left is from the next one that may deny
pub left_on : (names : List Name) (log : List Entry) (q : Request) (first at next end user : ℕ) (policy : Policy) → StandsAt names log q first at end policy → IsLog log → end ≤ length log + 1 → user ≡ user_of q
    → at < next → next ≤ end → ((v : ℕ) → at < v → v < next → may_deny log v user ≡ false) → denial_by at (request_verdict names policy q) ≡ None
    → first_of (map (denial_at names log q) (range_with_len first (end - first))) ≡ first_of (map (denial_at names log q) (range_with_len next (end - next)))
left_on names log q first at next end user policy stands is_log most same behind before none granted =
    let within : next ≤ length log + 1 = omega (arith, most, before) in
    let quiet : (v : ℕ) → at < v → v < next → may_deny log v (user_of q) ≡ false = λ v low high. ap (may_deny log v) (sym same) ∙ none v low high in
    let here : denial_at names log q at ≡ None = sym (denied_at names log q at policy stands.policy_is) ∙ granted in
    stands.left
    ∙ first_behind (denial_at names log q) at next end (omega (arith, behind)) before (granted_between names log q at next is_log within quiet here)
