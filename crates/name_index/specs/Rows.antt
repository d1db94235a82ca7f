-- Rows of names and values, and the numbers of their names.
use Rattle.std.specs.Prelude.{◌≡◌, ℕ, nat_lt, List, [], ◌∷◌, ◌++◌, Some, length, slice_get, slice_set, if◌then◌else◌}
use Rattle.std.specs.Map.{lookup}
use Rattle.std.specs.BTreeMap.{is_at}
use Rattle.element_name.specs.Name.{Name}
use Rattle.element_name.specs.Named.{name_cmp, in_name_order}

-- the rows, in ascending order of name
abbrev pub by_name : {X : Type 0} → List (Name × X) → List (Name × X)
by_name rows = in_name_order (λ e. e.0) rows

-- the index has the number of each row at its name, and no other number
pub record AreNumbered (index : List (Name × ℕ)) (names : List Name) : Type 0 where
  pub row : (n : Name) (i : ℕ) → lookup (is_at (name_cmp n)) index ≡ Some i → slice_get names i ≡ Some n
  pub number : (n : Name) (i : ℕ) → slice_get names i ≡ Some n → lookup (is_at (name_cmp n)) index ≡ Some i

-- the last row took the place of the i-th
pub record IsFilled {X : Type 0} (old : List X) (i : ℕ) (new : List X) : Type 0 where
  pub rest : List X
  pub last : X
  pub parts : old ≡ rest ++ last ∷ []
  pub filled : new ≡ (if nat_lt i (length rest) then slice_set rest i last else rest)
