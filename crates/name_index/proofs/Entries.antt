-- Entries in ascending order of key, in two parts.
use Rattle.std.proofs.Common.{◌≡◌, ℕ, suc, ◌+◌, ◌-◌, ◌<◌, ◌≤◌, true, false, List, [], ◌∷◌, ◌++◌, Some, length, get_or, take, drop, set, refl, sym, subst, ◌∙◌, ap, arith}
use Rattle.std.specs.List.{AllByRecursion}
use Rattle.std.specs.List.Sorted.{IsStrictlySortedBy}
use Rattle.std.specs.Map.{keys_of}
use Rattle.std.specs.Cmp.{IsTotalOrder}
use Rattle.std.specs.Ordering.{is_eq, is_gt, is_lt, ordering_reverse}
use Rattle.std.specs.declared.cmp.Ordering.{Ordering}
use Rattle.std.specs.declared.cmp.Ordering.TheVariants.{Less, Equal, Greater}
use Rattle.std.proofs.lemmas.List.{take-append-drop, drop_more, take_more, set_split, take_all}
use Rattle.name_index.specs.Chunks.{IsOrdered, IsPast, IsUpTo, IsBefore, first_key}

-- ---- answers of a comparison

pub greater_from : (o : Ordering) → is_gt o ≡ true → o ≡ Greater
greater_from Less h = absurd cc
greater_from Equal h = absurd cc
greater_from Greater h = refl

pub equal_from : (o : Ordering) → is_eq o ≡ true → o ≡ Equal
equal_from Less h = absurd cc
equal_from Equal h = refl
equal_from Greater h = absurd cc

pub less_from : (o : Ordering) → is_lt o ≡ true → o ≡ Less
less_from Less h = refl
less_from Equal h = absurd cc
less_from Greater h = absurd cc

module _ {K : Type 0} {cmp : K → K → Ordering} (o : IsTotalOrder cmp) where
  less_back : (a b : K) → cmp a b ≡ Less → cmp b a ≡ Greater
  less_back a b h = o.antisymm b a ∙ ap ordering_reverse h

  greater_back : (a b : K) → cmp a b ≡ Greater → cmp b a ≡ Less
  greater_back a b h = o.antisymm b a ∙ ap ordering_reverse h

  -- above what is below
  pub above : (k e a : K) → cmp a e ≡ Less → is_lt (cmp k e) ≡ false → cmp k a ≡ Greater
  above k e a h le = by (cmp k e) refl le
    where
      by : (r : Ordering) → cmp k e ≡ r → is_lt r ≡ false → cmp k a ≡ Greater
      by Less p q = absurd cc
      by Equal p q = o.congr k e a p ∙ less_back a e h
      by Greater p q = less_back a k (o.trans a e k h (greater_back k e p))

  -- below what is above
  pub below : (k e b : K) → cmp e b ≡ Less → is_gt (cmp k e) ≡ false → cmp k b ≡ Less
  below k e b h le = by (cmp k e) refl le
    where
      by : (r : Ordering) → cmp k e ≡ r → is_gt r ≡ false → cmp k b ≡ Less
      by Less p q = o.trans k e b p h
      by Equal p q = o.congr k e b p ∙ h
      by Greater p q = absurd cc

-- ---- a fact of all keys

pub all_turn : {K : Type 0} (P Q : K → Type 0) → ((k : K) → P k → Q k) → (ks : List K) → AllByRecursion P ks → AllByRecursion Q ks
all_turn P Q turn [] h = tt
all_turn P Q turn (k ∷ ks) h = (turn k h.0, all_turn P Q turn ks h.1)

module _ {K X : Type 0} where
  module _ (P : K → Type 0) where
    pub all_left : (A B : List (K × X)) → AllByRecursion P (keys_of (A ++ B)) → AllByRecursion P (keys_of A)
    all_left [] B h = tt
    all_left (a ∷ A) B h = (h.0, all_left A B h.1)

    pub all_right : (A B : List (K × X)) → AllByRecursion P (keys_of (A ++ B)) → AllByRecursion P (keys_of B)
    all_right [] B h = h
    all_right (a ∷ A) B h = all_right A B h.1

    pub all_join : (A B : List (K × X)) → AllByRecursion P (keys_of A) → AllByRecursion P (keys_of B) → AllByRecursion P (keys_of (A ++ B))
    all_join [] B h k = k
    all_join (a ∷ A) B h k = (h.0, all_join A B h.1 k)

-- ---- in order

module _ {K X : Type 0} (cmp : K → K → Ordering) where
  pub ordered_left : (A B : List (K × X)) → IsOrdered cmp (A ++ B) → IsOrdered cmp A
  unfolding IsStrictlySortedBy
  ordered_left [] B h = tt
  ordered_left (a ∷ A) B h = (all_left _ A B h.0, ordered_left A B h.1)

  pub ordered_right : (A B : List (K × X)) → IsOrdered cmp (A ++ B) → IsOrdered cmp B
  unfolding IsStrictlySortedBy
  ordered_right [] B h = h
  ordered_right (a ∷ A) B h = ordered_right A B h.1

-- ---- at a place

pub more : (i : ℕ) → i + 1 ≡ suc i
more i = omega arith

pub parts : {A : Type 0} (xs : List A) (i : ℕ) (d : A) → i < length xs → xs ≡ take i xs ++ get_or xs i d ∷ drop (i + 1) xs
parts xs i d l = sym (take-append-drop i xs) ∙ ap (λ rest. take i xs ++ rest) (drop_more xs i d l)

pub set_parts : {A : Type 0} (xs : List A) (i : ℕ) (x : A) → i < length xs → set xs i x ≡ take i xs ++ x ∷ drop (i + 1) xs
set_parts xs i x l = set_split xs i x l ∙ ap (λ n. take i xs ++ x ∷ drop n xs) (sym (more i))

module _ {K X : Type 0} {cmp : K → K → Ordering} (o : IsTotalOrder cmp) where
  -- a key that isn't below an entry is past those before it
  pub past_from : (k : K) (A : List (K × X)) (e : K × X) (B : List (K × X)) → IsOrdered cmp (A ++ e ∷ B) → is_lt (cmp k e.0) ≡ false → IsPast (cmp k) A
  unfolding IsStrictlySortedBy
  past_from k [] e B h le = tt
  past_from k (a ∷ A) e B h le = (above o k e.0 a.0 (all_right _ A (e ∷ B) h.0).0 le, past_from k A e B h.1 le)

  -- one that isn't above an entry is before those behind it
  pub before_from : (k : K) (e : K × X) (B : List (K × X)) → IsOrdered cmp (e ∷ B) → is_gt (cmp k e.0) ≡ false → IsBefore (cmp k) B
  unfolding IsStrictlySortedBy
  before_from k e B h le = all_turn _ _ (λ b l. below o k e.0 b l le) (keys_of B) h.0

  -- ---- a search by halves

  pub low_side : (k : K) (es : List (K × X)) (m : ℕ) (d : K × X) → IsOrdered cmp es → m < length es → is_gt (cmp k (get_or es m d).0) ≡ true → IsPast (cmp k) (take (m + 1) es)
  low_side k es m d h l gt =
      let e = get_or es m d in
      let greater = greater_from (cmp k e.0) gt in
      subst (IsPast (cmp k)) (sym (take_more es m d l))
      (all_join _ (take m es) (e ∷ []) (past_from k (take m es) e (drop (m + 1) es) (subst (IsOrdered cmp) (parts es m d l) h) (ap is_lt greater)) (greater, tt))

  pub high_side : (k : K) (es : List (K × X)) (m : ℕ) (d : K × X) → IsOrdered cmp es → m < length es → is_gt (cmp k (get_or es m d).0) ≡ false → IsUpTo (cmp k) (drop m es)
  high_side k es m d h l le =
      let e = get_or es m d in
      let behind = ordered_right cmp (take m es) (e ∷ drop (m + 1) es) (subst (IsOrdered cmp) (parts es m d l) h) in
      subst (IsUpTo (cmp k)) (sym (drop_more es m d l))
      (le, all_turn _ _ (λ b p. ap is_gt p) (keys_of (drop (m + 1) es)) (before_from k e (drop (m + 1) es) behind le))

  -- a key above the last is past all
  pub all_below_last : (k : K) (es : List (K × X)) (d : K × X) (first : K) → first_key es ≡ Some first → IsOrdered cmp es → is_gt (cmp k (get_or es (length es - 1) d).0) ≡ true → IsPast (cmp k) es
  all_below_last k [] d first h ordered gt = absurd cc
  all_below_last k (x ∷ xs) d first h ordered gt =
      let n = length (x ∷ xs) in
      let l : n - 1 < length (x ∷ xs) = omega arith in
      let whole : length (x ∷ xs) ≤ n - 1 + 1 = omega arith in
      subst (IsPast (cmp k)) (take_all (n - 1 + 1) (x ∷ xs) whole) (low_side k (x ∷ xs) (n - 1) d ordered l gt)
