-- The verdict of one version's policy, with the version.
use Rattle.std.specs.Prelude.{ℕ, List}
use Rattle.element_name.specs.Name.{Name}
use Rattle.coop_request.specs.declared.edit.Right.{Right}
use Rattle.policy_book.specs.Policy.{Policy}
use Rattle.auth_match.specs.Verdict.{verdict}
use Rattle.auth_match.specs.declared.verdict.Verdict.{Verdict}
use Rattle.auth_match.specs.declared.verdict.Verdict.TheVariants as verdicts
use Rattle.check_local.specs.declared.check.LocalVerdict.{LocalVerdict}
use Rattle.check_local.specs.declared.check.LocalVerdict.TheVariants.{Granted, Denied}

-- a verdict at a version: a denial names both
abbrev pub with_version : ℕ → Verdict → LocalVerdict
with_version version verdicts.Granted = Granted
with_version version (verdicts.Denied by) = Denied version by

-- the verdict of the policy p, which is that of the version
abbrev pub local_verdict : List Name → Policy → ℕ → ℕ → Right → Name → LocalVerdict
local_verdict names p version u right e = with_version version (verdict names p u right e)
