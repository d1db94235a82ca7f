-- What a call of a door does to its counts, and what a link is when it is given.
use Rattle.std.specs.Prelude.{◌≡◌, ℕ, ◌<◌, List, [], Option, None, Some, Result, Ok, Err, ⊤, min}
use Rattle.edit_io.specs.declared.fail.Failed.{Failed}
use Rattle.edit_io.specs.Causes.{last_count}

-- how often a call failed: once or not at all
abbrev pub failed_by : {T : Type 0} → Result T Failed → ℕ
failed_by (Ok x) = 0
failed_by (Err fail) = 1

-- how many links a call gave
abbrev pub given_by : {T : Type 0} → Result T Failed → ℕ
given_by (Ok line) = 1
given_by (Err fail) = 0

-- how many hurt links a link with so many faults is: one, or none without a fault
abbrev pub hurt_by : ℕ → ℕ
hurt_by faults = min faults 1

-- a list has nothing in it, where it is told
abbrev pub IsEmptyWhereTold : {A : Type 0} → Option (List A) → Type 0
IsEmptyWhereTold None = ⊤
IsEmptyWhereTold (Some xs) = xs ≡ []

-- a link has never failed, its other end hasn't closed, and nothing went over it
pub record IsUnused (faults closes : ℕ) (got sent : Option (List (List ℕ))) : Type 0 where
  pub no_fault : faults ≡ 0
  pub no_close : closes ≡ 0
  pub none_came : IsEmptyWhereTold got
  pub none_went : IsEmptyWhereTold sent

-- a door can count one more fault and one more link
pub record HasRoom (faults given : ℕ) : Type 0 where
  pub faults_left : faults < last_count
  pub given_left : given < last_count
