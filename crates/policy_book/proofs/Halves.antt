-- What a search by halves finds in a list that ascends by its numbers.
use Rattle.std.proofs.Common.{◌≡◌, ℕ, ◌<◌, ◌≤◌, ⊎_elim, true, false, List, [], ◌∷◌, length, map, get_or, suc, zero, Some, None, refl, sym, arith, eqb}
use Rattle.std.specs.Prelude.{nat_lt, slice_get}
use denote.Ref.{Bor}
use Rattle.std.specs.declared.option.Option.{Option}
use Rattle.std.specs.Option.{option_copied}
use Rattle.std.specs.Slice.{IsItemAt}
use Rattle.std.specs.List.{HoldsAt}
use Rattle.std.specs.List.Sorted.{IsNonDecreasingBy, IsPartitionPoint}
use Rattle.std.specs.Ordering.{nat_cmp, ordering_index}
use Rattle.std.specs.declared.cmp.Ordering.TheVariants.{Less, Equal, Greater}
use Rattle.std.proofs.lemmas.Bool.{cases_lt}
use Rattle.std.proofs.lemmas.Bool.Decides.{nat_tests}
use Rattle.std.proofs.lemmas.Cmp.{ranked}
use Rattle.std.proofs.lemmas.Option.{slice_get_read}
use Rattle.element_name.specs.Numbered.{is_rising, find_by}
use Rattle.policy_book.proofs.Ascending.{rising_above, rising_rest, below_later}

-- what a slice lends at a place stands there
pub lent : {X : Type 0} (xs : List X) (i : ℕ) (r : Option (Bor X)) → i < length xs → IsItemAt xs i r → option_copied r ≡ slice_get xs i
lent xs i None lt item =
    let none : false ≡ nat_lt i (length xs) = item.0 in
    let bad : ⊥ = grind (arith, nat_tests, none, lt) in absurd bad
lent xs i (Some x) lt item =
    let is : x.now ≡ get_or xs i x.now = item.1 in sym (slice_get_read xs (length xs) i x.now refl lt is)

module _ {X : Type 0} (number : X → ℕ) where
  numbers_rise : (xs : List X) → is_rising nat_lt (map number xs) ≡ true → IsNonDecreasingBy number xs
  numbers_rise [] h i j d le lt = absurd (omega (arith, lt))
  numbers_rise (x ∷ xs) h zero zero d le lt = omega arith
  numbers_rise (x ∷ xs) h zero (suc j) d le lt =
      let later : number x < number (get_or xs j d) =
      below_later number (number x) xs j d (rising_above (number x) (map number xs) h) (omega (arith, lt)) in
      let rise : number x ≤ number (get_or xs j d) = omega (arith, later) in rise
  numbers_rise (x ∷ xs) h (suc i) zero d le lt = absurd (omega (arith, le))
  numbers_rise (x ∷ xs) h (suc i) (suc j) d le lt =
      numbers_rise xs (rising_rest (number x) (map number xs) h) i j d (omega (arith, le)) (omega (arith, lt))

  -- so the comparisons with a number rise, as a search by halves asks
  comparisons_rise : (n : ℕ) (xs : List X) → is_rising nat_lt (map number xs) ≡ true
      → IsNonDecreasingBy (λ x. ordering_index (nat_cmp (number x) n)) xs
  comparisons_rise n xs h i j d le lt =
      let rise : number (get_or xs i d) ≤ number (get_or xs j d) = numbers_rise xs h i j d le lt in grind (arith, nat_tests)

  only_one : (n : ℕ) (xs : List X) (i : ℕ) → is_rising nat_lt (map number xs) ≡ true → i < length xs → ((d : X) → number (get_or xs i d) ≡ n)
      → slice_get xs i ≡ find_by number n xs
  only_one n [] i h lt at = absurd (omega (arith, lt))
  only_one n (x ∷ xs) zero h lt at =
      let is : number x ≡ n = at x in
      let here : eqb (number x) n ≡ true = grind (arith, nat_tests, is) in
      rw here refl
  only_one n (x ∷ xs) (suc i) h lt at =
      let later : number x < number (get_or xs i x) =
      below_later number (number x) xs i x (rising_above (number x) (map number xs) h) (omega (arith, lt)) in
      let there : number (get_or xs i x) ≡ n = at x in
      let other : eqb (number x) n ≡ false = grind (arith, nat_tests, later, there) in
      rw other (only_one n xs i (rising_rest (number x) (map number xs) h) (omega (arith, lt)) at)

  none_there : (n : ℕ) (xs : List X) → ((k : ℕ) (d : X) → k < length xs → eqb (number (get_or xs k d)) n ≡ false) → find_by number n xs ≡ None
  none_there n [] other = refl
  none_there n (x ∷ xs) other =
      let here : eqb (number x) n ≡ false = other 0 x (omega arith) in rw here (none_there n xs (λ k d lt. other (suc k) d (omega (arith, lt))))

  -- the place of a number is that of what stands under it
  pub found_at : (n : ℕ) (xs : List X) (i : ℕ) → is_rising nat_lt (map number xs) ≡ true → i < length xs
      → HoldsAt (λ x. nat_cmp (number x) n ≡ Equal) xs i → slice_get xs i ≡ find_by number n xs
  found_at n xs i h lt equal = only_one n xs i h lt (λ d. ranked (number (get_or xs i d)) n Equal (sym (equal d)))

  -- what has a place between the smaller and the greater numbers isn't there
  pub found_nowhere : (n : ℕ) (xs : List X) (i : ℕ) → is_rising nat_lt (map number xs) ≡ true
      → (IsNonDecreasingBy (λ x. ordering_index (nat_cmp (number x) n)) xs
      → IsPartitionPoint (λ x. nat_cmp (number x) n ≡ Less) (λ x. nat_cmp (number x) n ≡ Greater) xs i)
      → find_by number n xs ≡ None
  found_nowhere n xs i h parted =
      let parts = parted (comparisons_rise n xs h) in
      none_there n xs (λ k d lt. ⊎_elim
      (λ (before : k < i).
      let less : number (get_or xs k d) < n = ranked (number (get_or xs k d)) n Less (sym (parts.0 k d (omega arith) before)) in
      grind (arith, nat_tests, less))
      (λ (behind : i ≤ k).
      let more : n < number (get_or xs k d) = ranked (number (get_or xs k d)) n Greater (sym (parts.1 k d behind lt)) in
      grind (arith, nat_tests, more))
      (cases_lt k i))
