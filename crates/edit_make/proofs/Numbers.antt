-- A delivery gives each of its numbers, once or twice.
use Rattle.std.proofs.Common.{◌≡◌, ℕ, zero, suc, ◌+◌, ◌-◌, ◌*◌, ◌<◌, ◌≤◌, ◌⊎◌, inl, inr, ⊎_elim, Bool, true, false, List, [], ◌∷◌, length, refl, subst, arith, length-append, IsPermutation}
use Rattle.std.specs.Prelude.{swap, ◌==◌, if◌then◌else◌}
use Rattle.std.specs.List.{range_with_len}
use Rattle.std.proofs.lemmas.Bool.{cases_eq}
use Rattle.std.proofs.lemmas.List.Edits.{length-swap}
use Rattle.std.proofs.lemmas.List.Sorted.{IsPermutation-refl, IsPermutation-trans, IsPermutation-swap, length_permutation}
use Rattle.tomb_seq.proofs.Has.{Has, Has-permutation, Has-append_right}
use Rattle.replay_net.proofs.Members.{has_left}
use Rattle.edit_make.specs.Draws.{next_word, word_after, drawn}
use Rattle.edit_make.specs.Schedule.{shuffled_numbers, repeats, repeated_numbers}
use Rattle.edit_make.proofs.HonestCourses.{drawn_low}

-- each number of a range is in it
pub range_has : (a n number : ℕ) → a ≤ number → number < a + n → Has (range_with_len a n) number
range_has a zero number low high = absurd (omega (arith, low, high))
range_has a (suc n) number low high = ⊎_elim
    (λ (same : a ≡ number). inl same)
    (λ (other : a ≡ number → ⊥). inr (range_has (a + 1) n number (let apart : a ≡ number → ⊥ = other in omega (arith, low, apart)) (omega (arith, high))))
    (cases_eq a number)

-- ---- a drawn order

-- it has the same numbers
pub shuffled_same : (i x : ℕ) (numbers : List ℕ) → i ≤ length numbers - 1 → IsPermutation numbers (shuffled_numbers i x numbers)
shuffled_same zero x numbers h = IsPermutation-refl numbers
shuffled_same (suc i) x numbers h =
    let other : ℕ = drawn 1 (suc i + 1) x in
    let low : other < suc i + 1 = drawn_low 1 (suc i + 1) x (omega arith) in
    let swapped : List ℕ = swap numbers (suc i) other in
    let size : length swapped ≡ length numbers = length-swap numbers (suc i) other in
    IsPermutation-trans numbers swapped (shuffled_numbers i (next_word x) swapped)
    (IsPermutation-swap numbers swapped (suc i) other (omega (arith, h)) (omega (arith, h, low)) refl)
    (shuffled_same i (next_word x) swapped (omega (arith, h, size)))

-- ---- once or twice

repeats_has : (x number : ℕ) → Has (repeats x number) number
repeats_has x number = by (drawn 1 8 x == 0)
  where
    by : (b : Bool) → Has (if b then number ∷ number ∷ [] else number ∷ []) number
    by true = inl refl
    by false = inl refl

repeats_few : (x number : ℕ) → length (repeats x number) ≤ 2
repeats_few x number = by (drawn 1 8 x == 0)
  where
    by : (b : Bool) → length (if b then number ∷ number ∷ [] else number ∷ []) ≤ 2
    by true = omega arith
    by false = omega arith

repeated_has : (x : ℕ) (numbers : List ℕ) (n : ℕ) → Has numbers n → Has (repeated_numbers x numbers) n
repeated_has x [] n h = h
repeated_has x (number ∷ numbers) n (inl same) =
    has_left (repeats x number) (repeated_numbers (next_word x) numbers) n (subst (Has (repeats x number)) same (repeats_has x number))
repeated_has x (number ∷ numbers) n (inr h) =
    Has-append_right (repeats x number) (repeated_numbers (next_word x) numbers) n (repeated_has (next_word x) numbers n h)

repeated_few : (x : ℕ) (numbers : List ℕ) → length (repeated_numbers x numbers) ≤ 2 * length numbers
repeated_few x [] = omega arith
repeated_few x (number ∷ numbers) =
    let both = length-append (repeats x number) (repeated_numbers (next_word x) numbers) in
    omega (arith, both, repeats_few x number, repeated_few (next_word x) numbers)

-- ---- both

-- the numbers that a delivery gives
abbrev pub given_numbers : List ℕ → ℕ → List ℕ
given_numbers numbers x = repeated_numbers (word_after (length numbers - 1) x) (shuffled_numbers (length numbers - 1) x numbers)

pub given_has : (numbers : List ℕ) (x n : ℕ) → Has numbers n → Has (given_numbers numbers x) n
given_has numbers x n h =
    let last : ℕ = length numbers - 1 in
    repeated_has (word_after last x) (shuffled_numbers last x numbers) n
    (Has-permutation numbers (shuffled_numbers last x numbers) n (shuffled_same last x numbers (omega arith)) h)

pub given_few : (numbers : List ℕ) (x : ℕ) → length (given_numbers numbers x) ≤ 2 * length numbers
given_few numbers x =
    let last : ℕ = length numbers - 1 in
    let size = length_permutation numbers (shuffled_numbers last x numbers) (shuffled_same last x numbers (omega arith)) in
    omega (arith, repeated_few (word_after last x) (shuffled_numbers last x numbers), size)
