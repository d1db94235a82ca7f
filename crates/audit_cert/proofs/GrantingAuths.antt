-- An authorization grants exactly where the verdict is Granted.
use Rattle.std.proofs.Common.{◌≡◌, ℕ, Bool, true, false, None, Some, refl, arith, eqb}
use Rattle.std.specs.Prelude.{◌↔◌, find, is_some, option_and_then, if◌then◌else◌}
use Rattle.std.specs.declared.option.Option.{Option}
use Rattle.std.specs.Option.{option_map_or}
use Rattle.std.proofs.lemmas.Bool.Decides.{nat_tests}
use Rattle.element_name.specs.Cases.{when}
use Rattle.coop_request.specs.Edit.{right_of}
use Rattle.coop_request.specs.Request.{user_of, element_of}
use Rattle.policy_book.specs.declared.parts.NumberedAuth.{NumberedAuth}
use Rattle.auth_match.specs.declared.verdict.Verdict.TheVariants.{Granted, Denied}
use Rattle.auth_match.specs.Verdict.{matches, decided_by}
use Rattle.audit_cert.specs.Laws.{GrantingLaw}

by_sign : (sign : Bool) (n : ℕ) → ((if sign then Granted else Denied (Some n)) ≡ Granted) ↔ (is_some (when sign n) ≡ true)
by_sign true n = ((λ h. refl), (λ h. refl))
by_sign false n = ((λ h. absurd cc), (λ h. absurd cc))

by_first : (found : Option NumberedAuth) → (option_map_or decided_by found (Denied None) ≡ Granted) ↔ (is_some (option_and_then (λ a. when a.auth.grant a.number) found) ≡ true)
by_first None = ((λ h. absurd cc), (λ h. absurd cc))
by_first (Some a) = by_sign a.auth.grant a.number

pub granting_law : GrantingLaw
granting_law names p q other =
    let nonzero : eqb (user_of q) 0 ≡ false = grind (arith, nat_tests) in
    rw nonzero (by_first (find (λ (a : NumberedAuth). matches names p (user_of q) (right_of q.edit) (element_of q) a.auth) p.auths))
