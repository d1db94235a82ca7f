-- Choices by tests: rows of a table of which the first that holds counts, and steps of which each may fail.
use Rattle.std.specs.Prelude.{Bool, List, [], ◌∷◌, Option, Some, None, if◌then◌else◌}
use Rattle.std.specs.Option.{option_or}

-- a row that holds where the test passes
abbrev pub when : {A : Type 0} → Bool → A → Option A
when test x = if test then Some x else None

-- a row that holds where the test passes and there is a value
abbrev pub given : {A : Type 0} → Bool → Option A → Option A
given test value = if test then value else None

-- the first row that holds
abbrev pub first_of : {A : Type 0} → List (Option A) → Option A
first_of [] = None
first_of (row ∷ rows) = option_or row (first_of rows)

-- what the value leads to, if there is one
infixl 10 ◌>>=◌
abbrev pub ◌>>=◌ : {A B : Type 0} → Option A → (A → Option B) → Option B
None >>= f = None
(Some x) >>= f = f x
