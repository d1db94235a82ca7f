-- Rows in ascending order of name, of which one comes, is written or goes.
use Rattle.std.proofs.Common.{◌≡◌, ℕ, zero, suc, ◌<◌, Bool, true, false, cond, List, [], ◌∷◌, ◌++◌, Some, None, length, set, refl, sym, subst, ◌∙◌, ap, arith, if◌then◌else◌}
use Rattle.std.specs.Prelude.{slice_get}
use Rattle.std.specs.List.{remove}
use Rattle.std.proofs.lemmas.List.{map-append}
use Rattle.std.proofs.lemmas.Map.Entries.{length-keys_of}
use Rattle.std.proofs.lemmas.Option.{slice_get_within}
use Rattle.std.specs.Map.{keys_of, lookup, set_value, remove_entry}
use Rattle.std.specs.BTreeMap.{is_at}
use Rattle.std.specs.List.Sorted.{IsStrictlySortedBy}
use Rattle.std.specs.Ordering.{is_eq}
use Rattle.std.specs.Option.{option_map}
use Rattle.std.specs.declared.option.Option.{Option}
use Rattle.element_name.specs.Name.{Name, name_eq, name_lt}
use Rattle.element_name.specs.Named.{name_cmp, item_named, put_named, without_named}
use Rattle.element_name.proofs.NameOrder.{name_cmp_total, is_eq-name_cmp, name_eq-comm, name_eq-refl, same_name}
use Rattle.element_name.proofs.NamedLemmas.{item_named-put, item_named-put_other, put_named-comm, without_named-put, lookup_named, insert_named, remove_named}
use Rattle.name_index.specs.Chunks.{IsOrdered}
use Rattle.name_index.specs.Rows.{by_name}
use Rattle.name_index.proofs.Results.{ordered_insert}

-- ---- lists with one item more

module _ {A : Type 0} where
  pub slice_end : (ns : List A) (z : A) → slice_get (ns ++ z ∷ []) (length ns) ≡ Some z
  slice_end [] z = refl
  slice_end (n ∷ ns) z = slice_end ns z

  pub slice_left : (ns : List A) (z : A) (i : ℕ) (n : A) → slice_get ns i ≡ Some n → slice_get (ns ++ z ∷ []) i ≡ Some n
  slice_left [] z zero n h = absurd cc
  slice_left [] z (suc i) n h = absurd cc
  slice_left (m ∷ ns) z zero n h = h
  slice_left (m ∷ ns) z (suc i) n h = slice_left ns z i n h

  -- an item is among the first ones, or the last
  pub data IsIn (ns : List A) (z : A) (i : ℕ) (n : A) : Type 0 where
    first : slice_get ns i ≡ Some n → IsIn ns z i n
    last : i ≡ length ns → z ≡ n → IsIn ns z i n

  pub slice_cases : (ns : List A) (z : A) (i : ℕ) (n : A) → slice_get (ns ++ z ∷ []) i ≡ Some n → IsIn ns z i n
  slice_cases [] z zero n h = last refl cc
  slice_cases [] z (suc zero) n h = absurd cc
  slice_cases [] z (suc (suc i)) n h = absurd cc
  slice_cases (m ∷ ns) z zero n h = first h
  slice_cases (m ∷ ns) z (suc i) n h = by (slice_cases ns z i n h)
    where
      by : IsIn ns z i n → IsIn (m ∷ ns) z (suc i) n
      by (first p) = first p
      by (last p q) = last (ap suc p) q

  pub set_here : (ns : List A) (i : ℕ) (z : A) → i < length ns → slice_get (set ns i z) i ≡ Some z
  set_here [] i z l = absurd (omega (arith, l))
  set_here (n ∷ ns) zero z l = refl
  set_here (n ∷ ns) (suc i) z l = set_here ns i z (omega (arith, l))

  pub set_there : (ns : List A) (i j : ℕ) (z : A) → (i ≡ j → ⊥) → slice_get (set ns i z) j ≡ slice_get ns j
  set_there [] zero j z apart = refl
  set_there [] (suc i) j z apart = refl
  set_there (n ∷ ns) zero zero z apart = absurd (apart refl)
  set_there (n ∷ ns) zero (suc j) z apart = refl
  set_there (n ∷ ns) (suc i) zero z apart = refl
  set_there (n ∷ ns) (suc i) (suc j) z apart = set_there ns i j z (λ e. apart (ap suc e))

pub distinct : (a b : Name) → (a ≡ b → ⊥) → name_eq a b ≡ false
distinct a b apart = by (name_eq a b) refl
  where
    by : (t : Bool) → name_eq a b ≡ t → name_eq a b ≡ false
    by false e = e
    by true e = absurd (apart (same_name a b e))

-- ---- names that are there once

-- no name is twice
abbrev pub IsOnce : List Name → Type 0
IsOnce names = (n : Name) (i j : ℕ) → slice_get names i ≡ Some n → slice_get names j ≡ Some n → i ≡ j

pub rest_once : (n : Name) (names : List Name) → IsOnce (n ∷ names) → IsOnce names
rest_once n names once m i j p q = let e = once m (suc i) (suc j) p q in omega (arith, e)

module _ {X : Type 0} where
  abbrev row_name : Name × X → Name
  row_name e = e.0

  -- the place of an entry that is found
  place_of : (n : Name) (xs : List (Name × X)) (x : Name × X) → item_named row_name n xs ≡ Some x → (i : ℕ) × (slice_get (keys_of xs) i ≡ Some n)
  place_of n [] x h = absurd cc
  place_of n (y ∷ ys) x h = by (name_eq y.0 n) refl h (place_of n ys x)
    where
      by : (b : Bool) → name_eq y.0 n ≡ b → (if b then Some y else item_named row_name n ys) ≡ Some x → (item_named row_name n ys ≡ Some x → (i : ℕ) × (slice_get (keys_of ys) i ≡ Some n))
          → (i : ℕ) × (slice_get (keys_of (y ∷ ys)) i ≡ Some n)
      by true e a rest = (0, ap (λ m. Some m) (same_name y.0 n e))
      by false e a rest = let found = rest a in (suc found.0, found.1)

  -- a name that has no place
  pub no_item : (n : Name) (xs : List (Name × X)) → ((i : ℕ) → slice_get (keys_of xs) i ≡ Some n → ⊥) → item_named row_name n xs ≡ None
  no_item n xs none = by (item_named row_name n xs) refl
    where
      by : (o : Option (Name × X)) → item_named row_name n xs ≡ o → item_named row_name n xs ≡ None
      by None e = e
      by (Some x) e = let found = place_of n xs x e in absurd (none found.0 found.1)

  first_absent : (x : Name × X) (xs : List (Name × X)) → IsOnce (keys_of (x ∷ xs)) → item_named row_name x.0 xs ≡ None
  first_absent x xs once = no_item x.0 xs (λ i h. let e = once x.0 zero (suc i) refl h in omega (arith, e))

  -- ---- in order

  pub item-by_name : (n : Name) (xs : List (Name × X)) → IsOnce (keys_of xs) → item_named row_name n (by_name xs) ≡ item_named row_name n xs
  item-by_name n [] once = refl
  item-by_name n (x ∷ xs) once =
      let rest = rest_once x.0 (keys_of xs) once in
      item_named-put row_name n x (by_name xs) (item-by_name x.0 xs rest ∙ first_absent x xs once)
      ∙ ap (λ (o : Option (Name × X)). if name_eq x.0 n then Some x else o) (item-by_name n xs rest)

  pub lookup-by_name : (n : Name) (xs : List (Name × X)) → IsOnce (keys_of xs) → lookup (is_at (name_cmp n)) (by_name xs) ≡ lookup (is_at (name_cmp n)) xs
  lookup-by_name n xs once = lookup_named n (by_name xs) ∙ ap (option_map (λ (e : Name × X). e.1)) (item-by_name n xs once) ∙ sym (lookup_named n xs)

  absent-by_name : (x : Name × X) (xs : List (Name × X)) → IsOnce (keys_of (x ∷ xs)) → item_named row_name x.0 (by_name xs) ≡ None
  absent-by_name x xs once = item-by_name x.0 xs (rest_once x.0 (keys_of xs) once) ∙ first_absent x xs once

  pub ordered-by_name : (xs : List (Name × X)) → IsOnce (keys_of xs) → IsOrdered name_cmp (by_name xs)
  unfolding IsStrictlySortedBy
  ordered-by_name [] once = tt
  ordered-by_name (x ∷ xs) once =
      let rest = ordered-by_name xs (rest_once x.0 (keys_of xs) once) in
      subst (IsOrdered name_cmp) (insert_named x.0 x.1 (by_name xs) (absent-by_name x xs once)) (ordered_insert name_cmp_total (by_name xs) x.0 x.1 rest)

  -- ---- one more

  pub by_name-snoc : (x : Name × X) (xs : List (Name × X)) → item_named row_name x.0 xs ≡ None → by_name (xs ++ x ∷ []) ≡ put_named row_name x (by_name xs)
  by_name-snoc x [] absent = refl
  by_name-snoc x (y ∷ ys) absent = by (name_eq y.0 x.0) refl absent (by_name-snoc x ys)
    where
      by : (b : Bool) → name_eq y.0 x.0 ≡ b → (if b then Some y else item_named row_name x.0 ys) ≡ None
          → (item_named row_name x.0 ys ≡ None → by_name (ys ++ x ∷ []) ≡ put_named row_name x (by_name ys))
          → put_named row_name y (by_name (ys ++ x ∷ [])) ≡ put_named row_name x (put_named row_name y (by_name ys))
      by true e a rest = absurd cc
      by false e a rest = ap (put_named row_name y) (rest a) ∙ put_named-comm row_name y x (by_name ys) e

  -- ---- another value

  set-put : (x : Name × X) (w : X) (ys : List (Name × X)) → item_named row_name x.0 ys ≡ None → set_value (is_at (name_cmp x.0)) (put_named row_name x ys) w ≡ put_named row_name (x.0, w) ys
  set-put x w [] absent = rw (is_eq-name_cmp x.0 x.0, name_eq-refl x.0) refl
  set-put x w (y ∷ ys) absent = by (name_lt x.0 y.0) (name_eq y.0 x.0) refl absent (set-put x w ys)
    where
      by : (lt same : Bool) → name_eq y.0 x.0 ≡ same → (if same then Some y else item_named row_name x.0 ys) ≡ None
          → (item_named row_name x.0 ys ≡ None → set_value (is_at (name_cmp x.0)) (put_named row_name x ys) w ≡ put_named row_name (x.0, w) ys)
          → set_value (is_at (name_cmp x.0)) (if lt then x ∷ y ∷ ys else y ∷ put_named row_name x ys) w ≡ (if lt then (x.0, w) ∷ y ∷ ys else y ∷ put_named row_name (x.0, w) ys)
      by lt true e a rest = absurd cc
      by true false e a rest = rw (is_eq-name_cmp x.0 x.0, name_eq-refl x.0) refl
      by false false e a rest =
          let apart : is_eq (name_cmp x.0 y.0) ≡ false = is_eq-name_cmp x.0 y.0 ∙ name_eq-comm x.0 y.0 ∙ e in
          rw apart (ap (λ zs. y ∷ zs) (rest a))

  set-put_other : (n : Name) (x : Name × X) (w : X) (ys : List (Name × X)) → is_eq (name_cmp n x.0) ≡ false
      → set_value (is_at (name_cmp n)) (put_named row_name x ys) w ≡ put_named row_name x (set_value (is_at (name_cmp n)) ys w)
  set-put_other n x w [] apart = rw apart refl
  set-put_other n x w (y ∷ ys) apart = by (name_lt x.0 y.0) refl (is_eq (name_cmp n y.0)) refl (set-put_other n x w ys apart)
    where
      by : (lt : Bool) → name_lt x.0 y.0 ≡ lt → (here : Bool) → is_eq (name_cmp n y.0) ≡ here
          → set_value (is_at (name_cmp n)) (put_named row_name x ys) w ≡ put_named row_name x (set_value (is_at (name_cmp n)) ys w)
          → set_value (is_at (name_cmp n)) (if lt then x ∷ y ∷ ys else y ∷ put_named row_name x ys) w
          ≡ put_named row_name x (cond here ((y.0, w) ∷ ys) (y ∷ set_value (is_at (name_cmp n)) ys w))
      by true l true h rest = rw (apart, h, l) refl
      by true l false h rest = rw (apart, h, l) refl
      by false l true h rest = rw (h, l) refl
      by false l false h rest = rw (h, l) (ap (λ zs. y ∷ zs) rest)

  pub apart_from : (n : Name) (x : Name × X) (xs : List (Name × X)) (i : ℕ) → IsOnce (keys_of (x ∷ xs)) → slice_get (keys_of xs) i ≡ Some n → name_eq n x.0 ≡ false
  apart_from n x xs i once h = by (name_eq n x.0) refl
    where
      by : (b : Bool) → name_eq n x.0 ≡ b → name_eq n x.0 ≡ false
      by false e = e
      by true e = let k = once n zero (suc i) (ap (λ m. Some m) (sym (same_name n x.0 e))) h in absurd (omega (arith, k))

  pub by_name-set : (n : Name) (w : X) (xs : List (Name × X)) (i : ℕ) → IsOnce (keys_of xs) → slice_get (keys_of xs) i ≡ Some n → by_name (set xs i (n, w)) ≡ set_value (is_at (name_cmp n)) (by_name xs) w
  by_name-set n w [] zero once h = absurd cc
  by_name-set n w [] (suc i) once h = absurd cc
  by_name-set n w (x ∷ xs) zero once h =
      let same : x.0 ≡ n = cc in
      let here = set-put x w (by_name xs) (absent-by_name x xs once) in
      subst (λ (m : Name). put_named row_name (m, w) (by_name xs) ≡ set_value (is_at (name_cmp m)) (put_named row_name x (by_name xs)) w) same (sym here)
  by_name-set n w (x ∷ xs) (suc i) once h =
      let apart = is_eq-name_cmp n x.0 ∙ apart_from n x xs i once h in
      ap (put_named row_name x) (by_name-set n w xs i (rest_once x.0 (keys_of xs) once) h) ∙ sym (set-put_other n x w (by_name xs) apart)

  pub keys-set : (n : Name) (w : X) (xs : List (Name × X)) (i : ℕ) → slice_get (keys_of xs) i ≡ Some n → keys_of (set xs i (n, w)) ≡ keys_of xs
  keys-set n w [] zero h = refl
  keys-set n w [] (suc i) h = refl
  keys-set n w (x ∷ xs) zero h = let same : n ≡ x.0 = cc in ap (λ m. m ∷ keys_of xs) same
  keys-set n w (x ∷ xs) (suc i) h = ap (λ ns. x.0 ∷ ns) (keys-set n w xs i h)

  -- ---- one fewer

  none-by_name : (n : Name) (xs : List (Name × X)) → item_named row_name n xs ≡ None → item_named row_name n (by_name xs) ≡ None
  none-by_name n [] absent = refl
  none-by_name n (x ∷ xs) absent = by (name_eq x.0 n) refl absent (none-by_name n xs)
    where
      by : (b : Bool) → name_eq x.0 n ≡ b → (if b then Some x else item_named row_name n xs) ≡ None → (item_named row_name n xs ≡ None → item_named row_name n (by_name xs) ≡ None)
          → item_named row_name n (put_named row_name x (by_name xs)) ≡ None
      by true e a rest = absurd cc
      by false e a rest = item_named-put_other row_name n x (by_name xs) e ∙ rest a

  -- another row in the place of one
  by_name-at : (y : Name × X) (xs : List (Name × X)) (i : ℕ) → i < length xs → item_named row_name y.0 (remove xs i) ≡ None → by_name (set xs i y) ≡ put_named row_name y (by_name (remove xs i))
  by_name-at y [] i l absent = absurd (omega (arith, l))
  by_name-at y (x ∷ xs) zero l absent = refl
  by_name-at y (x ∷ xs) (suc i) l absent = by (name_eq x.0 y.0) refl absent (by_name-at y xs i (omega (arith, l)))
    where
      by : (b : Bool) → name_eq x.0 y.0 ≡ b → (if b then Some x else item_named row_name y.0 (remove xs i)) ≡ None
          → (item_named row_name y.0 (remove xs i) ≡ None → by_name (set xs i y) ≡ put_named row_name y (by_name (remove xs i)))
          → put_named row_name x (by_name (set xs i y)) ≡ put_named row_name y (put_named row_name x (by_name (remove xs i)))
      by true e a rest = absurd cc
      by false e a rest = ap (put_named row_name x) (rest a) ∙ put_named-comm row_name x y (by_name (remove xs i)) e

  -- the value in a row
  kept_row : (n : Name) (xs : List (Name × X)) (i : ℕ) → slice_get (keys_of xs) i ≡ Some n → (v : X) × (set xs i (n, v) ≡ xs)
  kept_row n [] zero h = absurd cc
  kept_row n [] (suc i) h = absurd cc
  kept_row n (x ∷ xs) zero h = let same : n ≡ x.0 = cc in (x.1, ap (λ (m : Name). (m, x.1) ∷ xs) same)
  kept_row n (x ∷ xs) (suc i) h = let found = kept_row n xs i h in (found.0, ap (λ es. x ∷ es) found.1)

  -- its name is in no other
  gone : (n : Name) (xs : List (Name × X)) (i : ℕ) → IsOnce (keys_of xs) → slice_get (keys_of xs) i ≡ Some n → item_named row_name n (remove xs i) ≡ None
  gone n [] zero once h = absurd cc
  gone n [] (suc i) once h = absurd cc
  gone n (x ∷ xs) zero once h = let same : x.0 ≡ n = cc in subst (λ (m : Name). item_named row_name m xs ≡ None) same (first_absent x xs once)
  gone n (x ∷ xs) (suc i) once h =
      let apart : name_eq x.0 n ≡ false = name_eq-comm x.0 n ∙ apart_from n x xs i once h in
      rw apart (gone n xs i (rest_once x.0 (keys_of xs) once) h)

  still_absent : (n : Name) (xs : List (Name × X)) (i : ℕ) → item_named row_name n xs ≡ None → item_named row_name n (remove xs i) ≡ None
  still_absent n [] zero h = refl
  still_absent n [] (suc i) h = refl
  still_absent n (x ∷ xs) i h = by (name_eq x.0 n) refl h i (still_absent n xs)
    where
      by : (b : Bool) → name_eq x.0 n ≡ b → (if b then Some x else item_named row_name n xs) ≡ None → (j : ℕ) → ((k : ℕ) → item_named row_name n xs ≡ None → item_named row_name n (remove xs k) ≡ None)
          → item_named row_name n (remove (x ∷ xs) j) ≡ None
      by true e a j rest = absurd cc
      by false e a zero rest = a
      by false e a (suc j) rest = rw e (rest j a)

  module _ (xs : List (Name × X)) (z : Name × X) (once : IsOnce (keys_of (xs ++ z ∷ []))) where
    keys : keys_of (xs ++ z ∷ []) ≡ keys_of xs ++ z.0 ∷ []
    keys = map-append (λ (e : Name × X). e.0) xs (z ∷ [])

    once_left : IsOnce (keys_of xs)
    once_left n i j p q =
        let wider = λ (k : ℕ) (h : slice_get (keys_of xs) k ≡ Some n). ap (λ ns. slice_get ns k) keys ∙ slice_left (keys_of xs) z.0 k n h in
        once n i j (wider i p) (wider j q)

    last_absent : item_named row_name z.0 xs ≡ None
    last_absent = no_item z.0 xs (λ i h.
        let l = slice_get_within (keys_of xs) i z.0 h in
        let e = once z.0 i (length (keys_of xs)) (ap (λ ns. slice_get ns i) keys ∙ slice_left (keys_of xs) z.0 i z.0 h) (ap (λ ns. slice_get ns (length (keys_of xs))) keys ∙ slice_end (keys_of xs) z.0) in
        omega (arith, l, e))

    as_without : (n : Name) → remove_entry (is_at (name_cmp n)) (by_name (xs ++ z ∷ [])) ≡ without_named row_name n (put_named row_name z (by_name xs))
    as_without n = remove_named n (by_name (xs ++ z ∷ [])) (ordered-by_name (xs ++ z ∷ []) once) ∙ ap (without_named row_name n) (by_name-snoc z xs last_absent)

    -- the last row takes the place of the one that goes
    pub removed_there : (n : Name) (i : ℕ) → slice_get (keys_of xs) i ≡ Some n → remove_entry (is_at (name_cmp n)) (by_name (xs ++ z ∷ [])) ≡ by_name (set xs i z)
    removed_there n i h =
        let l : i < length xs = subst (λ k. i < k) (length-keys_of xs) (slice_get_within (keys_of xs) i n h) in
        let kept = kept_row n xs i h in
        let x : Name × X = (n, kept.0) in
        let others = remove xs i in
        let absent_x : item_named row_name n others ≡ None = gone n xs i once_left h in
        let absent_z : item_named row_name z.0 others ≡ None = still_absent z.0 xs i last_absent in
        let with_x : by_name xs ≡ put_named row_name x (by_name others) = ap (λ (es : List (Name × X)). by_name es) (sym kept.1) ∙ by_name-at x xs i l absent_x in
        let with_z : by_name (set xs i z) ≡ put_named row_name z (by_name others) = by_name-at z xs i l absent_z in
        let apart : name_eq z.0 n ≡ false = distinct z.0 n (λ e.
        let same = once n i (length (keys_of xs)) (ap (λ ns. slice_get ns i) keys ∙ slice_left (keys_of xs) z.0 i n h) (ap (λ ns. slice_get ns (length (keys_of xs))) keys ∙ slice_end (keys_of xs) z.0 ∙ ap (λ m. Some m) e) in
        let m = slice_get_within (keys_of xs) i n h in
        omega (arith, same, m)) in
        as_without n ∙ ap (λ es. without_named row_name n (put_named row_name z es)) with_x
        ∙ ap (without_named row_name n) (put_named-comm row_name z x (by_name others) apart)
        ∙ without_named-put row_name x (put_named row_name z (by_name others)) (item_named-put_other row_name n z (by_name others) apart ∙ none-by_name n others absent_x)
        ∙ sym with_z

    -- it is the one that goes
    pub removed_last : remove_entry (is_at (name_cmp z.0)) (by_name (xs ++ z ∷ [])) ≡ by_name xs
    removed_last = as_without z.0 ∙ without_named-put row_name z (by_name xs) (none-by_name z.0 xs last_absent)
