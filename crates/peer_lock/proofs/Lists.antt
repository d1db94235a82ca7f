-- Sums, prefixes and the steps of a number.
use Rattle.std.proofs.Common.{◌≡◌, ℕ, zero, suc, ◌+◌, ◌<◌, ◌≤◌, ◌≢◌, List, [], ◌∷◌, ◌++◌, length, set, sym, refl, ap, arith, cond, eq-eqb, ne_eqb, lt-ltb, le-ltb, length-append}
use mathlib.Core.Logic.{dite}
use native.Mathlib.Decide.{ℕ_discrete, dec_le}
use mathlib.Core.Option.{some, some-injective, some-ne-none}
use lib.ListN.{get_elem?}
use Rattle.peer_step.specs.declared.step.Step.{Step}
use Rattle.peer_lock.specs.declared.call.Call.{Call}
use Rattle.peer_lock.specs.Rule.{total, times, once_below}
use Rattle.peer_lock.specs.Run.{steps_by}

module _ {A : Type 0} (g : A → ℕ) where
  pub total-append : (l m : List A) → total g (l ++ m) ≡ total g l + total g m
  total-append [] m = omega arith
  total-append (x ∷ xs) m = omega (arith, total-append xs m)

  pub total-set : (l : List A) (j : ℕ) (v w : A) → get_elem? l j ≡ some v → total g (set l j w) + g v ≡ total g l + g w
  total-set [] j v w e = absurd (some-ne-none v (sym e))
  total-set (x ∷ xs) zero v w e = omega (arith, ap g (some-injective x v e))
  total-set (x ∷ xs) (suc j) v w e = omega (arith, total-set xs j v w e)

  pub term_le : (l : List A) (j : ℕ) (v : A) → get_elem? l j ≡ some v → g v ≤ total g l
  term_le [] j v e = absurd (some-ne-none v (sym e))
  term_le (x ∷ xs) zero v e = omega (arith, ap g (some-injective x v e))
  term_le (x ∷ xs) (suc j) v e = omega (arith, term_le xs j v e)

  pub terms_le : (l : List A) (j k : ℕ) (v u : A) → k ≢ j → get_elem? l j ≡ some v → get_elem? l k ≡ some u → g v + g u ≤ total g l
  terms_le [] j k v u n e d = absurd (some-ne-none v (sym e))
  terms_le (x ∷ xs) zero zero v u n e d = absurd (n refl)
  terms_le (x ∷ xs) zero (suc k) v u n e d = omega (arith, ap g (some-injective x v e), term_le xs k u d)
  terms_le (x ∷ xs) (suc j) zero v u n e d = omega (arith, ap g (some-injective x u d), term_le xs j v e)
  terms_le (x ∷ xs) (suc j) (suc k) v u n e d = omega (arith, terms_le xs j k v u (λ h. n (ap suc h)) e d)

  -- where the sum is not 0, some term is not
  pub some_term : (l : List A) → 0 < total g l → (j : ℕ) × (v : A) × (get_elem? l j ≡ some v) × (0 < g v)
  some_term [] h = absurd (omega arith)
  some_term (x ∷ xs) h = dite (dec_le 1 (g x)) (λ here. (0, x, refl, omega arith)) (λ none. let t = some_term xs (omega arith) in (suc t.0, t.1, t.2, t.3))

  no_terms : (l : List A) → ((j : ℕ) (u : A) → get_elem? l j ≡ some u → g u ≡ 0) → total g l ≡ 0
  no_terms [] h = refl
  no_terms (x ∷ xs) h = omega (arith, h 0 x refl, no_terms xs (λ j u e. h (suc j) u e))

  -- where each other term is 0, the sum is this one
  pub sole_term : (l : List A) (i : ℕ) (v : A) → get_elem? l i ≡ some v → ((j : ℕ) (u : A) → j ≢ i → get_elem? l j ≡ some u → g u ≡ 0) → total g l ≡ g v
  sole_term [] i v e h = absurd (some-ne-none v (sym e))
  sole_term (x ∷ xs) zero v e h = omega (arith, ap g (some-injective x v e), no_terms xs (λ j u there. h (suc j) u (λ z. absurd (omega arith)) there))
  sole_term (x ∷ xs) (suc i) v e h = omega (arith, h 0 x (λ z. absurd (omega arith)) refl, sole_term xs i v e (λ j u n there. h (suc j) u (λ z. n (omega arith)) there))

pub times-append : (x : ℕ) (xs ys : List ℕ) → times x (xs ++ ys) ≡ times x xs + times x ys
times-append x [] ys = omega arith
times-append x (y ∷ xs) ys = omega (arith, times-append x xs ys)

pub times_le_length : (x : ℕ) (xs : List ℕ) → times x xs ≤ length xs
times_le_length x [] = omega arith
times_le_length x (y ∷ xs) = dite (ℕ_discrete y x)
    (λ e. omega (arith, times_le_length x xs, ap (λ b. cond {A = ℕ} b 1 0) (eq-eqb y x e)))
    (λ n. omega (arith, times_le_length x xs, ap (λ b. cond {A = ℕ} b 1 0) (ne_eqb y x n)))

pub below_yes : (x n : ℕ) → x < n → once_below x n ≡ 1
below_yes x n h = ap (λ b. cond {A = ℕ} b 1 0) (lt-ltb x n h)

pub below_no : (x n : ℕ) → n ≤ x → once_below x n ≡ 0
below_no x n h = ap (λ b. cond {A = ℕ} b 1 0) (le-ltb x n h)

pub is_below : (x n : ℕ) → 0 < once_below x n → x < n
is_below x n h = dite (dec_le n x) (λ no. absurd (omega (arith, below_no x n no))) (λ yes. omega arith)

pub at_most_one : (x n : ℕ) → once_below x n ≤ 1
at_most_one x n = dite (dec_le n x) (λ no. omega (arith, below_no x n no)) (λ yes. omega (arith, below_yes x n (omega arith)))

-- one number more
pub below_more : (x n : ℕ) → once_below x (n + 1) ≡ once_below x n + times x (n ∷ [])
below_more x n = dite (ℕ_discrete n x)
    (λ e. omega (arith, ap (λ b. cond {A = ℕ} b 1 0) (eq-eqb n x e), below_yes x (n + 1) (omega arith), below_no x n (omega arith)))
    (λ d. dite (dec_le n x)
    (λ no. omega (arith, ap (λ b. cond {A = ℕ} b 1 0) (ne_eqb n x d), below_no x (n + 1) (omega arith), below_no x n no))
    (λ yes. omega (arith, ap (λ b. cond {A = ℕ} b 1 0) (ne_eqb n x d), below_yes x (n + 1) (omega arith), below_yes x n (omega arith))))

pub steps-append : (n : ℕ) (xs ys : List Call) → steps_by n (xs ++ ys) ≡ steps_by n xs ++ steps_by n ys
steps-append n [] ys = refl
steps-append n (e ∷ es) ys = dite (ℕ_discrete e.caller n)
    (λ h. let y = eq-eqb e.caller n h in rw y (ap (λ l. e.step ∷ l) (steps-append n es ys)))
    (λ h. let y = ne_eqb e.caller n h in rw y (steps-append n es ys))

pub steps_mine : (n : ℕ) (e : Call) → e.caller ≡ n → steps_by n (e ∷ []) ≡ e.step ∷ []
steps_mine n e h = ap (λ b. cond {A = List Step} b (e.step ∷ []) []) (eq-eqb e.caller n h)

pub steps_other : (n : ℕ) (e : Call) → e.caller ≢ n → steps_by n (e ∷ []) ≡ []
steps_other n e h = ap (λ b. cond {A = List Step} b (e.step ∷ []) []) (ne_eqb e.caller n h)

module _ {A : Type 0} where
  pub no_front : (xs ys : List A) → xs ++ ys ≡ [] → xs ≡ []
  no_front [] ys e = refl
  no_front (x ∷ xs) ys e = absurd (cc)

  pub no_back : (xs ys : List A) → xs ++ ys ≡ [] → ys ≡ []
  no_back [] ys e = e
  no_back (x ∷ xs) ys e = absurd (cc)

  -- of two beginnings of one list the shorter begins the longer
  pub begins : (xs ys a b : List A) → xs ++ a ≡ ys ++ b → length xs ≤ length ys → (c : List A) × (ys ≡ xs ++ c) × (a ≡ c ++ b)
  begins [] ys a b e h = (ys, refl, e)
  begins (x ∷ xs) [] a b e h = absurd (omega arith)
  begins (x ∷ xs) (y ∷ ys) a b e h =
      let t = begins xs ys a b (ap tail e) (omega arith) in
      (t.0, (λ i. sym (ap (head x) e) i ∷ t.1 i), t.2)
    where
      tail : List A → List A
      tail [] = []
      tail (z ∷ zs) = zs

      head : A → List A → A
      head d [] = d
      head d (z ∷ zs) = z

  pub same_length : (xs c : List A) → length (xs ++ c) ≤ length xs → c ≡ []
  same_length xs [] h = refl
  same_length xs (y ∷ c) h = absurd (omega (arith, length-append xs (y ∷ c)))
