use Rattle.std.proofs.Common.{◌≡◌, drop}
use Rattle.std.specs.Prelude.{find}
use Rattle.policy_book.specs.declared.parts.NumberedAuth.{NumberedAuth}
use Rattle.auth_match.specs.Verdict.{matches_access}
use Rattle.auth_match.proofs.few.first_of_few.Given as goal

abbrev pub invariant-loop-a : goal.invariant-loop-a
invariant-loop-a g l =
    let test = λ (a : NumberedAuth). matches_access (g.P.Places.names l.places) l.policy l.access a.auth in
    find test l.auths ≡ find test (drop l.a-index l.auths)
