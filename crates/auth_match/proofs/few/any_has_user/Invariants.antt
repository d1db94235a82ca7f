use Rattle.std.proofs.Common.{◌≡◌, ℕ, Bool, drop}
use Rattle.std.specs.List.{list_any}
use Rattle.policy_book.specs.Policy.{is_member}
use Rattle.auth_match.proofs.few.any_has_user.Given as goal

abbrev pub invariant-loop-group : goal.invariant-loop-group
invariant-loop-group l =
    let test : ℕ → Bool = λ g. is_member l.policy g l.user in
    list_any test l.groups ≡ list_any test (drop l.group-index l.groups)
