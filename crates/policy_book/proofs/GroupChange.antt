-- The change of one group in a list that ascends.
use Rattle.std.proofs.Common.{◌≡◌, ℕ, ◌+◌, ◌<◌, Bool, true, false, not, List, [], ◌∷◌, length, map, set, get_or, suc, zero, Some, None, refl, sym}
use Rattle.std.proofs.Common.{subst, ap, ◌∙◌, arith, eqb}
use Rattle.std.specs.Prelude.{nat_lt, position}
use Rattle.std.specs.List.{list_all, prefix_len}
use Rattle.std.proofs.lemmas.Bool.Decides.{nat_tests}
use Rattle.std.proofs.lemmas.List.Quantifiers.{position-Some}
use Rattle.std.proofs.lemmas.Bool.{and_parts}
use Rattle.element_name.proofs.CaseLemmas.{when-None}
use Rattle.element_name.specs.Numbered.{is_rising}
use Rattle.policy_book.specs.declared.parts.Group.{Group}
use Rattle.policy_book.specs.Policy.{with_members}
use Rattle.policy_book.proofs.Ascending.{rising_above, rising_rest, below_later}

-- a group of another number stays
pub others_stay : (n : ℕ) (f : List ℕ → List ℕ) (gs : List Group) → list_all (nat_lt n) (map (λ g. g.number) gs) ≡ true
    → map (with_members n f) gs ≡ gs
others_stay n f [] h = refl
others_stay n f (g ∷ gs) h =
    let b = and_parts (nat_lt n g.number) (list_all (nat_lt n) (map (λ g. g.number) gs)) h in
    let other : eqb g.number n ≡ false = grind (arith, nat_tests, b.0) in
    rw other (ap (λ (rest : List Group). g ∷ rest) (others_stay n f gs b.1))

head_changed : (n : ℕ) (f : List ℕ → List ℕ) (r : Group) (gs : List Group) → r.number ≡ n → map (with_members n f) gs ≡ gs
    → record { number = r.number; members = f r.members } ∷ gs ≡ with_members n f r ∷ map (with_members n f) gs
head_changed n f r gs e stay =
    let same : eqb r.number n ≡ true = grind (arith, nat_tests, e) in rw (same, stay) refl

-- the group that is changed at its place is the only one of its number
pub changed_at : (n : ℕ) (f : List ℕ → List ℕ) (gs : List Group) (i : ℕ) (r : Group) → is_rising nat_lt (map (λ g. g.number) gs) ≡ true
    → i < length gs
    → r.number ≡ n → r ≡ get_or gs i r → set gs i (record { number = r.number; members = f r.members }) ≡ map (with_members n f) gs
changed_at n f [] i r rising lt e read = absurd (omega (arith, lt))
changed_at n f (g ∷ gs) zero r rising lt e read =
    let above : list_all (nat_lt g.number) (map (λ g. g.number) gs) ≡ true = rising_above g.number (map (λ g. g.number) gs) rising in
    let at_n : g.number ≡ n = ap (λ (x : Group). x.number) (sym read) ∙ e in
    let above_n : list_all (nat_lt n) (map (λ g. g.number) gs) ≡ true =
    subst (λ (k : ℕ). list_all (nat_lt k) (map (λ g. g.number) gs) ≡ true) at_n above in
    subst (λ (x : Group). record { number = r.number; members = f r.members } ∷ gs ≡ with_members n f x ∷ map (with_members n f) gs) read
    (head_changed n f r gs e (others_stay n f gs above_n))
changed_at n f (g ∷ gs) (suc i) r rising lt e read =
    let later : g.number < (get_or gs i r).number =
    below_later (λ (o : Group). o.number) g.number gs i r (rising_above g.number (map (λ g. g.number) gs) rising) (omega (arith, lt)) in
    let number : (get_or gs i r).number ≡ n = ap (λ (x : Group). x.number) (sym read) ∙ e in
    let other : eqb g.number n ≡ false = grind (arith, nat_tests, later, number) in
    rw other (ap (λ (rest : List Group). g ∷ rest) (changed_at n f gs i r (rising_rest g.number (map (λ g. g.number) gs) rising) (omega (arith, lt)) e read))

-- no group has the number
absent_step : (n : ℕ) (f : List ℕ → List ℕ) (g : Group) (gs : List Group) (b : Bool) → eqb g.number n ≡ b
    → nat_lt (prefix_len (λ g. not (eqb g.number n)) (g ∷ gs)) (length (g ∷ gs)) ≡ false
    → (nat_lt (prefix_len (λ g. not (eqb g.number n)) gs) (length gs) ≡ false → map (with_members n f) gs ≡ gs)
    → map (with_members n f) (g ∷ gs) ≡ g ∷ gs
absent_step n f g gs true e h ih =
    let k : nat_lt 0 (length (g ∷ gs)) ≡ false = rw e at h in
    let bad : ⊥ = grind (arith, nat_tests, k) in absurd bad
absent_step n f g gs false e h ih =
    let h' : nat_lt (1 + prefix_len (λ g. not (eqb g.number n)) gs) (length (g ∷ gs)) ≡ false = rw e at h in
    rw e (ap (λ (rest : List Group). g ∷ rest) (ih (grind (arith, nat_tests, h'))))

absent_all : (n : ℕ) (f : List ℕ → List ℕ) (gs : List Group) → nat_lt (prefix_len (λ g. not (eqb g.number n)) gs) (length gs) ≡ false
    → map (with_members n f) gs ≡ gs
absent_all n f [] h = refl
absent_all n f (g ∷ gs) h = absent_step n f g gs (eqb g.number n) refl h (absent_all n f gs)

pub absent_stay : (n : ℕ) (f : List ℕ → List ℕ) (gs : List Group) → position (λ g. eqb g.number n) gs ≡ None → map (with_members n f) gs ≡ gs
absent_stay n f gs h =
    absent_all n f gs (when-None (nat_lt (prefix_len (λ g. not (eqb g.number n)) gs) (length gs)) (prefix_len (λ g. not (eqb g.number n)) gs) h)

pub changed_place : (n : ℕ) (f : List ℕ → List ℕ) (gs : List Group) (i : ℕ) (r : Group) → is_rising nat_lt (map (λ g. g.number) gs) ≡ true
    → position (λ g. eqb g.number n) gs ≡ Some i → r ≡ get_or gs i r → set gs i (record { number = r.number; members = f r.members }) ≡ map (with_members n f) gs
changed_place n f gs i r rising found read =
    let at : (i < length gs) × (eqb (get_or gs i r).number n ≡ true) × ((k : ℕ) → k < i → eqb (get_or gs k r).number n ≡ false) =
    position-Some (λ g. eqb g.number n) gs i r found in
    let number : (get_or gs i r).number ≡ n = grind (arith, nat_tests, at.1) in
    changed_at n f gs i r rising at.0 (ap (λ (x : Group). x.number) read ∙ number) read
