-- How many bytes differ.
use Rattle.std.proofs.Common.{◌≡◌, ℕ, ◌+◌, ◌≤◌, Bool, true, false, cond, ◌&&◌, List, [], ◌∷◌, length, drop, refl, ap, sym, ◌∙◌, arith, zero-add, add-zero}
use Rattle.std.specs.Prelude.{nat_eq, bytes_eq}
use Rattle.std.proofs.lemmas.List.{drop_all}

-- at how many places two lists differ, up to the end of the shorter one
abbrev pub differences : List ℕ → List ℕ → ℕ
differences (x ∷ xs) (y ∷ ys) = cond (nat_eq x y) 0 1 + differences xs ys
differences xs ys = 0

-- lists of one length are equal where they differ nowhere
none_differ : (xs ys : List ℕ) → length xs ≡ length ys → nat_eq (differences xs ys) 0 ≡ bytes_eq xs ys
none_differ [] [] h = refl
none_differ [] (y ∷ ys) h = absurd (omega arith)
none_differ (x ∷ xs) [] h = absurd (omega arith)
none_differ (x ∷ xs) (y ∷ ys) h = by (nat_eq x y) (none_differ xs ys (omega arith))
  where
    one : (n : ℕ) → nat_eq (1 + n) 0 ≡ false
    one n = grind arith

    by : (b : Bool) → nat_eq (differences xs ys) 0 ≡ bytes_eq xs ys → nat_eq (cond b 0 1 + differences xs ys) 0 ≡ (b && bytes_eq xs ys)
    by true rest = ap (λ n. nat_eq n 0) (zero-add (differences xs ys)) ∙ rest
    by false rest = one (differences xs ys)

-- where all places were passed
pub all_passed : (differing i : ℕ) (a b : List ℕ) → length a ≡ length b → length a ≤ i → differing + differences (drop i a) (drop i b) ≡ differences a b
    → nat_eq differing 0 ≡ bytes_eq a b
all_passed differing i a b same passed so_far =
    let all : differing ≡ differences a b = sym (add-zero differing) ∙ sym (ap (λ (xs : List ℕ). differing + differences xs (drop i b)) (drop_all i a passed)) ∙ so_far in
    ap (λ n. nat_eq n 0) all ∙ none_differ a b same
