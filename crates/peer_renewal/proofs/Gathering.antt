-- Lists that are gathered item by item.
use Rattle.std.proofs.Common.{◌≡◌, ℕ, suc, ◌+◌, ◌<◌, ◌≤◌, List, [], ◌∷◌, ◌++◌, length, get_or, drop, ap, sym, ◌∙◌, add-one, append_assoc, append-nil, drop-cons}
use Rattle.std.proofs.lemmas.List.{drop_all}

-- what a list gives is what its first item gives, and then what the others do
abbrev pub Splits : {A B : Type 0} → (List A → List B) → Type 0
Splits {A} {B} F = (x : A) (xs : List A) → F (x ∷ xs) ≡ F (x ∷ []) ++ F xs

-- one item more is gathered
pub gathered_more : {A B : Type 0} (F : List A → List B) → Splits F → (acc whole : List B) (xs : List A) (i : ℕ) (x : A) → i < length xs → x ≡ get_or xs i x
    → acc ++ F (drop i xs) ≡ whole → (acc ++ F (x ∷ [])) ++ F (drop (i + 1) xs) ≡ whole
gathered_more {A} {B} F split acc whole xs i x low is so_far =
    append_assoc acc (F (x ∷ [])) (F (drop (i + 1) xs))
    ∙ ap (λ (k : ℕ). acc ++ (F (x ∷ []) ++ F (drop k xs))) (add-one i)
    ∙ ap (λ (l : List B). acc ++ l) (sym (split x (drop (suc i) xs)))
    ∙ ap (λ (y : A). acc ++ F (y ∷ drop (suc i) xs)) is
    ∙ ap (λ (l : List A). acc ++ F l) (sym (drop-cons xs i x low))
    ∙ so_far

-- all are gathered
pub gathered_all : {A B : Type 0} (F : List A → List B) → F [] ≡ [] → (acc whole : List B) (xs : List A) (i : ℕ) → length xs ≤ i → acc ++ F (drop i xs) ≡ whole → acc ≡ whole
gathered_all {A} {B} F none acc whole xs i end so_far =
    sym (append-nil acc) ∙ ap (λ (l : List B). acc ++ l) (sym none) ∙ ap (λ (l : List A). acc ++ F l) (sym (drop_all i xs end)) ∙ so_far
