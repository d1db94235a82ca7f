-- What a pass knows once others were joined to it.
use Rattle.std.specs.Prelude.{◌≡◌, ℕ, ◌+◌, ◌≤◌, List, [], ◌∷◌, length}
use Rattle.peer_lock.specs.declared.view.View.{View}
use Rattle.peer_lock.specs.Run.{steps_by, StartsWith}
use Rattle.peer_lock.specs.Rule.{HasNumber}
use Rattle.peer_lock.specs.KnownPass.{KnownPass}

-- the second has seen all that the first has, has its numbers, and knows no other steps of these
pub record IsIn (v w : View) : Type 0 where
  pub numbers : (n : ℕ) → HasNumber v.numbers n → HasNumber w.numbers n
  pub seen : StartsWith w.seen v.seen
  pub steps : (n : ℕ) → HasNumber v.numbers n → steps_by n w.seen ≡ steps_by n v.seen
  pub floor : v.floor ≤ w.floor

-- it holds of each
abbrev pub EachOf : {A : Type 0} → (A → Type 0) → List A → Type 0
EachOf P [] = Unit {0}
EachOf P (x ∷ xs) = P x × EachOf P xs

-- how many numbers these have together
abbrev pub all_numbers : List KnownPass → ℕ
all_numbers [] = 0
all_numbers (k ∷ ks) = length k.view.numbers + all_numbers ks

-- all of these were joined to a pass
pub record JoinsAll (k : KnownPass) (others : List KnownPass) (l : KnownPass) : Type 0 where
  pub table : l.table ≡ k.table
  pub mine : IsIn k.view l.view
  pub theirs : EachOf (λ o. IsIn o.view l.view) others
  pub numbers : length l.view.numbers ≡ length k.view.numbers + all_numbers others
  pub number : l.view.number ≡ k.view.number
  pub origin : l.view.origin ≡ k.view.origin
  pub made : l.view.made ≡ k.view.made
