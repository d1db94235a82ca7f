-- Items in ascending order of name, as the entries of a map from names.
use Rattle.std.proofs.Common.{◌≡◌, Bool, true, false, not, List, [], ◌∷◌, map, Some, None, refl, sym, ◌∙◌, ap, subst, if◌then◌else◌}
use Rattle.std.specs.declared.option.Option.{Option}
use Rattle.std.specs.declared.cmp.Ordering.{Ordering}
use Rattle.std.specs.declared.cmp.Ordering.TheVariants.{Less, Equal, Greater}
use Rattle.std.specs.Ordering.{is_eq, is_lt, match_ordering}
use Rattle.std.specs.Option.{option_map}
use Rattle.std.specs.List.{AllByRecursion}
use Rattle.std.specs.List.Sorted.{IsStrictlySortedBy}
use Rattle.std.specs.Map.{keys_of, lookup, remove_entry}
use Rattle.std.specs.BTreeMap.{is_at, insert_entry}
use Rattle.std.proofs.lemmas.Map.Keys.{sorted_head, sorted_tail}
use Rattle.element_name.specs.Name.{Name, name_eq, name_lt}
use Rattle.element_name.specs.Named.{name_cmp, is_ascending, item_named, without_named, put_named}
use Rattle.element_name.proofs.NameOrder.{is_eq-name_cmp, is_lt-name_cmp, name_eq-comm, name_eq-refl, same_name, name_lt-apart, name_lt-asym, name_lt-trans, name_gt}

-- the three ways in which two names compare
pub data Compared (a b : Name) : Ordering → Type 0 where
  less : name_lt a b ≡ true → name_eq a b ≡ false → Compared a b Less
  same : a ≡ b → Compared a b Equal
  greater : name_lt a b ≡ false → name_eq a b ≡ false → Compared a b Greater

pub compared : (a b : Name) → Compared a b (name_cmp a b)
compared a b = by (name_cmp a b) refl
  where
    by : (o : Ordering) → name_cmp a b ≡ o → Compared a b o
    by Less e =
        let lt : name_lt a b ≡ true = sym (is_lt-name_cmp a b) ∙ ap is_lt e in
        less lt (name_lt-apart a b lt)
    by Equal e = same (same_name a b (sym (is_eq-name_cmp a b) ∙ ap is_eq e))
    by Greater e = greater (sym (is_lt-name_cmp a b) ∙ ap is_lt e) (sym (is_eq-name_cmp a b) ∙ ap is_eq e)

module _ {A : Type 0} (name : A → Name) where
  -- an item with its name as the key
  abbrev pub keyed_item : A → Name × A
  keyed_item x = (name x, x)

  abbrev pub keyed : List A → List (Name × A)
  keyed xs = map keyed_item xs

  pub item_named-keyed : (n : Name) (xs : List A) → item_named (λ e. e.0) n (keyed xs) ≡ option_map keyed_item (item_named name n xs)
  item_named-keyed n [] = refl
  item_named-keyed n (x ∷ xs) = by (name_eq (name x) n) (item_named-keyed n xs)
    where
      by : (b : Bool) → item_named (λ e. e.0) n (keyed xs) ≡ option_map keyed_item (item_named name n xs)
          → (if b then Some (keyed_item x) else item_named (λ e. e.0) n (keyed xs)) ≡ option_map keyed_item (if b then Some x else item_named name n xs)
      by true rest = refl
      by false rest = rest

  pub put_named-keyed : (x : A) (xs : List A) → put_named (λ e. e.0) (keyed_item x) (keyed xs) ≡ keyed (put_named name x xs)
  put_named-keyed x [] = refl
  put_named-keyed x (y ∷ ys) = by (name_lt (name x) (name y)) (put_named-keyed x ys)
    where
      by : (b : Bool) → put_named (λ e. e.0) (keyed_item x) (keyed ys) ≡ keyed (put_named name x ys)
          → (if b then keyed_item x ∷ keyed_item y ∷ keyed ys else keyed_item y ∷ put_named (λ e. e.0) (keyed_item x) (keyed ys)) ≡ keyed (if b then x ∷ y ∷ ys else y ∷ put_named name x ys)
      by true rest = refl
      by false rest = ap (λ es. keyed_item y ∷ es) rest

  pub without_named-keyed : (n : Name) (xs : List A) → without_named (λ e. e.0) n (keyed xs) ≡ keyed (without_named name n xs)
  without_named-keyed n [] = refl
  without_named-keyed n (x ∷ xs) = by (name_eq (name x) n) (without_named-keyed n xs)
    where
      by : (b : Bool) → without_named (λ e. e.0) n (keyed xs) ≡ keyed (without_named name n xs)
          → (if not b then keyed_item x ∷ without_named (λ e. e.0) n (keyed xs) else without_named (λ e. e.0) n (keyed xs)) ≡ keyed (if not b then x ∷ without_named name n xs else without_named name n xs)
      by true rest = rest
      by false rest = ap (λ es. keyed_item x ∷ es) rest

  -- the items of other names, where all names are greater
  pub without_named-below : (n : Name) (xs : List A) → AllByRecursion (λ m. name_cmp n m ≡ Less) (map name xs) → without_named name n xs ≡ xs
  without_named-below n [] h = refl
  without_named-below n (x ∷ xs) h =
      let apart : name_eq (name x) n ≡ false = name_eq-comm (name x) n ∙ sym (is_eq-name_cmp n (name x)) ∙ ap is_eq h.0 in
      rw (apart) (ap (λ ys. x ∷ ys) (without_named-below n xs h.1))

  -- ascending, as a fact of the neighbours
  pub ascending_from_sorted : (xs : List A) → IsStrictlySortedBy name_cmp (map name xs) → is_ascending name xs ≡ true
  ascending_from_sorted [] h = refl
  ascending_from_sorted (x ∷ []) h = refl
  ascending_from_sorted (x ∷ y ∷ xs) h =
      let above = sorted_head name_cmp (name x) (map name (y ∷ xs)) h in
      let lt : name_lt (name x) (name y) ≡ true = sym (is_lt-name_cmp (name x) (name y)) ∙ ap is_lt above.0 in
      rw lt (ascending_from_sorted (y ∷ xs) (sorted_tail name_cmp (name x) (map name (y ∷ xs)) h))

  -- ---- the item of a name, after a change

  pub item_named-put : (n : Name) (x : A) (xs : List A) → item_named name (name x) xs ≡ None → item_named name n (put_named name x xs) ≡ (if name_eq (name x) n then Some x else item_named name n xs)
  item_named-put n x [] absent = refl
  item_named-put n x (y ∷ ys) absent = by (name_lt (name x) (name y)) (name_eq (name y) (name x)) refl (name_eq (name y) n) refl (name_eq (name x) n) refl absent (item_named-put n x ys)
    where
      by : (lt same : Bool) → name_eq (name y) (name x) ≡ same → (here : Bool) → name_eq (name y) n ≡ here → (new : Bool) → name_eq (name x) n ≡ new
          → (if same then Some y else item_named name (name x) ys) ≡ None
          → (item_named name (name x) ys ≡ None → item_named name n (put_named name x ys) ≡ (if name_eq (name x) n then Some x else item_named name n ys))
          → item_named name n (if lt then x ∷ y ∷ ys else y ∷ put_named name x ys) ≡ (if new then Some x else if here then Some y else item_named name n ys)
      by lt true s here h new e a rest = absurd cc
      by true false s here h new e a rest = rw (e, h) refl
      by false false s false h new e a rest = rw h (rest a ∙ ap (λ (b : Bool). if b then Some x else item_named name n ys) e)
      by false false s true h false e a rest = rw h refl
      by false false s true h true e a rest =
          let p : name y ≡ n = same_name (name y) n h in
          let q : name x ≡ n = same_name (name x) n e in
          let r : name_eq (name y) (name x) ≡ true = rw (p, q) (name_eq-refl n) in
          absurd (cc)

  -- of another name than the item's
  pub item_named-put_other : (n : Name) (x : A) (xs : List A) → name_eq (name x) n ≡ false → item_named name n (put_named name x xs) ≡ item_named name n xs
  item_named-put_other n x [] apart = rw apart refl
  item_named-put_other n x (y ∷ ys) apart = by (name_lt (name x) (name y)) (item_named-put_other n x ys apart)
    where
      by : (lt : Bool) → item_named name n (put_named name x ys) ≡ item_named name n ys → item_named name n (if lt then x ∷ y ∷ ys else y ∷ put_named name x ys) ≡ item_named name n (y ∷ ys)
      by true rest = rw apart refl
      by false rest = ap (λ (o : Option A). if name_eq (name y) n then Some y else o) rest

  pub item_named-without : (n m : Name) (xs : List A) → item_named name n (without_named name m xs) ≡ (if name_eq m n then None else item_named name n xs)
  item_named-without n m [] = by (name_eq m n)
    where
      by : (b : Bool) → item_named name n [] ≡ (if b then None else None)
      by true = refl
      by false = refl
  item_named-without n m (x ∷ xs) = by (name_eq (name x) m) refl (name_eq (name x) n) refl (name_eq m n) refl (item_named-without n m xs)
    where
      by : (out : Bool) → name_eq (name x) m ≡ out → (here : Bool) → name_eq (name x) n ≡ here → (same : Bool) → name_eq m n ≡ same
          → item_named name n (without_named name m xs) ≡ (if name_eq m n then None else item_named name n xs)
          → item_named name n (if not out then x ∷ without_named name m xs else without_named name m xs) ≡ (if same then None else if here then Some x else item_named name n xs)
      by true o here h true s rest = rest ∙ ap (λ (b : Bool). if b then None else item_named name n xs) s
      by true o false h false s rest = rest ∙ ap (λ (b : Bool). if b then None else item_named name n xs) s
      by true o true h false s rest =
          let p : name x ≡ m = same_name (name x) m o in
          let r : name_eq m n ≡ true = subst (λ k. name_eq k n ≡ true) p h in
          absurd (cc)
      by false o false h both s rest = rw h (rest ∙ ap (λ (b : Bool). if b then None else item_named name n xs) s)
      by false o true h false s rest = rw h refl
      by false o true h true s rest =
          let p : m ≡ n = same_name m n s in
          let r : name_eq (name x) m ≡ true = subst (λ k. name_eq (name x) k ≡ true) (sym p) h in
          absurd (cc)

  -- a name that no item has
  pub without_named-absent : (n : Name) (xs : List A) → item_named name n xs ≡ None → without_named name n xs ≡ xs
  without_named-absent n [] absent = refl
  without_named-absent n (x ∷ xs) absent = by (name_eq (name x) n) absent (without_named-absent n xs)
    where
      by : (b : Bool) → (if b then Some x else item_named name n xs) ≡ None → (item_named name n xs ≡ None → without_named name n xs ≡ xs)
          → (if not b then x ∷ without_named name n xs else without_named name n xs) ≡ x ∷ xs
      by true a rest = absurd cc
      by false a rest = ap (λ ys. x ∷ ys) (rest a)

  -- ---- the order in which items are put doesn't matter

  pub put_named-comm : (x y : A) (xs : List A) → name_eq (name x) (name y) ≡ false → put_named name x (put_named name y xs) ≡ put_named name y (put_named name x xs)
  put_named-comm x y [] apart = by (name_lt (name x) (name y)) (name_lt (name y) (name x)) refl refl
    where
      by : (a b : Bool) → name_lt (name x) (name y) ≡ a → name_lt (name y) (name x) ≡ b → (if a then x ∷ y ∷ [] else y ∷ x ∷ []) ≡ (if b then y ∷ x ∷ [] else x ∷ y ∷ [])
      by true true e f = let g = name_lt-asym (name x) (name y) e in absurd (cc)
      by true false e f = refl
      by false true e f = refl
      by false false e f = let g = name_gt (name x) (name y) e apart in absurd (cc)
  put_named-comm x y (z ∷ zs) apart = by (name_lt (name x) (name z)) (name_lt (name y) (name z)) refl refl (name_lt (name x) (name y)) (name_lt (name y) (name x)) refl refl (put_named-comm x y zs apart)
    where
      Goal : List A → List A → Type 0
      Goal a b = a ≡ b

      by : (xz yz : Bool) → name_lt (name x) (name z) ≡ xz → name_lt (name y) (name z) ≡ yz → (xy yx : Bool) → name_lt (name x) (name y) ≡ xy → name_lt (name y) (name x) ≡ yx
          → put_named name x (put_named name y zs) ≡ put_named name y (put_named name x zs)
          → put_named name x (if yz then y ∷ z ∷ zs else z ∷ put_named name y zs) ≡ put_named name y (if xz then x ∷ z ∷ zs else z ∷ put_named name x zs)
      by true true a b true true c d rest = let g = name_lt-asym (name x) (name y) c in absurd (cc)
      by true true a b true false c d rest = rw (c, d, b) refl
      by true true a b false true c d rest = rw (c, d, a) refl
      by true true a b false false c d rest = let g = name_gt (name x) (name y) c apart in absurd (cc)
      by true false a b xy true c d rest = let g = name_lt-trans (name y) (name x) (name z) d a in absurd (cc)
      by true false a b xy false c d rest = rw (a, d, b) refl
      by false true a b true yx c d rest = let g = name_lt-trans (name x) (name y) (name z) c b in absurd (cc)
      by false true a b false yx c d rest = rw (c, b, a) refl
      by false false a b xy yx c d rest = rw (a, b) (ap (λ ys. z ∷ ys) rest)

  -- an item that is put and taken out again
  pub without_named-put : (x : A) (xs : List A) → item_named name (name x) xs ≡ None → without_named name (name x) (put_named name x xs) ≡ xs
  without_named-put x [] absent = rw (name_eq-refl (name x)) refl
  without_named-put x (y ∷ ys) absent = by (name_lt (name x) (name y)) (name_eq (name y) (name x)) refl absent (without_named-put x ys) (without_named-absent (name x) ys)
    where
      by : (lt same : Bool) → name_eq (name y) (name x) ≡ same → (if same then Some y else item_named name (name x) ys) ≡ None
          → (item_named name (name x) ys ≡ None → without_named name (name x) (put_named name x ys) ≡ ys) → (item_named name (name x) ys ≡ None → without_named name (name x) ys ≡ ys)
          → without_named name (name x) (if lt then x ∷ y ∷ ys else y ∷ put_named name x ys) ≡ y ∷ ys
      by lt true e a rest other = absurd cc
      by true false e a rest other = rw (name_eq-refl (name x), e) (ap (λ zs. y ∷ zs) (other a))
      by false false e a rest other = rw e (ap (λ zs. y ∷ zs) (rest a))

module _ {A : Type 0} where
  -- ---- the entries of a map from names

  pub lookup_named : (n : Name) (es : List (Name × A)) → lookup (is_at (name_cmp n)) es ≡ option_map (λ e. e.1) (item_named (λ e. e.0) n es)
  lookup_named n [] = refl
  lookup_named n (e ∷ es) = rw (is_eq-name_cmp n e.0, name_eq-comm n e.0) (by (name_eq e.0 n) (lookup_named n es))
    where
      by : (b : Bool) → lookup (is_at (name_cmp n)) es ≡ option_map (λ f. f.1) (item_named (λ f. f.0) n es)
          → (if b then Some e.1 else lookup (is_at (name_cmp n)) es) ≡ option_map (λ f. f.1) (if b then Some e else item_named (λ f. f.0) n es)
      by true rest = refl
      by false rest = rest

  pub insert_named : (n : Name) (v : A) (es : List (Name × A)) → item_named (λ e. e.0) n es ≡ None → insert_entry name_cmp es n v ≡ put_named (λ e. e.0) (n, v) es
  insert_named n v [] h = refl
  insert_named n v (e ∷ es) h = by (name_cmp n e.0) (compared n e.0) (insert_named n v es)
    where
      by : (o : Ordering) → Compared n e.0 o → (item_named (λ f. f.0) n es ≡ None → insert_entry name_cmp es n v ≡ put_named (λ f. f.0) (n, v) es)
          → match_ordering o ((n, v) ∷ e ∷ es) ((e.0, v) ∷ es) (e ∷ insert_entry name_cmp es n v) ≡ put_named (λ f. f.0) (n, v) (e ∷ es)
      by Less (less lt apart) rest = rw lt refl
      by Equal (same p) rest =
          let r : name_eq e.0 n ≡ true = rw p (name_eq-refl e.0) in
          let k : Some e ≡ None = rw r at h in
          absurd (cc)
      by Greater (greater lt apart) rest =
          let other : name_eq e.0 n ≡ false = name_eq-comm e.0 n ∙ apart in
          rw lt (ap (λ fs. e ∷ fs) (rest (rw other at h)))

  pub remove_named : (n : Name) (es : List (Name × A)) → IsStrictlySortedBy name_cmp (keys_of es) → remove_entry (is_at (name_cmp n)) es ≡ without_named (λ e. e.0) n es
  remove_named n [] h = refl
  remove_named n (e ∷ es) h = by (name_cmp n e.0) (compared n e.0) (remove_named n es (sorted_tail name_cmp e.0 (keys_of es) h))
    where
      by : (o : Ordering) → Compared n e.0 o → remove_entry (is_at (name_cmp n)) es ≡ without_named (λ f. f.0) n es
          → (if is_eq o then es else e ∷ remove_entry (is_at (name_cmp n)) es) ≡ without_named (λ f. f.0) n (e ∷ es)
      by Less (less lt apart) rest =
          let other : name_eq e.0 n ≡ false = name_eq-comm e.0 n ∙ apart in
          rw other (ap (λ fs. e ∷ fs) rest)
      by Equal (same p) rest =
          let here : name_eq e.0 n ≡ true = rw p (name_eq-refl e.0) in
          rw here (subst (λ k. es ≡ without_named (λ f. f.0) k es) (sym p) (sym (without_named-below (λ (f : Name × A). f.0) e.0 es (sorted_head name_cmp e.0 (keys_of es) h))))
      by Greater (greater lt apart) rest =
          let other : name_eq e.0 n ≡ false = name_eq-comm e.0 n ∙ apart in
          rw other (ap (λ fs. e ∷ fs) rest)
