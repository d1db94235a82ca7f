-- Rows whose numbers are known by name.
use Rattle.std.proofs.Common.{◌≡◌, ℕ, zero, suc, ◌+◌, ◌-◌, ◌<◌, Bool, true, false, cond, List, [], ◌∷◌, ◌++◌, Some, None, IsSome, length, set, get_or, refl, sym, subst, ◌∙◌, ap, arith, if◌then◌else◌}
use Rattle.std.specs.Prelude.{slice_get, nat_lt, nat_eq}
use Rattle.std.specs.Map.{keys_of, lookup, set_value, remove_entry}
use Rattle.std.specs.BTreeMap.{is_at, insert_entry}
use Rattle.std.specs.Ordering.{is_eq}
use Rattle.std.specs.Option.{option_map}
use Rattle.std.specs.declared.option.Option.{Option}
use Rattle.std.proofs.lemmas.List.{map-append, map-set, length-append}
use Rattle.std.proofs.lemmas.Map.Entries.{length-keys_of}
use Rattle.std.proofs.lemmas.Option.{slice_get_within}
use Rattle.std.proofs.lemmas.Bool.Decides.{nat_tests}
use Rattle.element_name.specs.Name.{Name}
use Rattle.element_name.specs.Named.{name_cmp, item_named}
use Rattle.element_name.proofs.NameOrder.{name_cmp_total, is_eq-name_cmp, name_eq-refl, same_name}
use Rattle.element_name.proofs.NamedLemmas.{lookup_named, insert_named}
use Rattle.name_index.specs.Chunks.{IsOrdered}
use Rattle.name_index.specs.Rows.{by_name, AreNumbered, IsFilled}
use Rattle.name_index.specs.Lends.{IsWritten}
use Rattle.name_index.proofs.Results.{lookup_set}
use Rattle.name_index.proofs.Rows.{IsOnce, rest_once, no_item, lookup-by_name, item-by_name, ordered-by_name, by_name-snoc, by_name-set, keys-set, slice_end, slice_left, slice_cases, IsIn, first, last, set_here, set_there, distinct, apart_from, removed_there, removed_last}

-- a test for the name
pub is_same : (a b : Name) → is_eq (name_cmp a b) ≡ true → a ≡ b
is_same a b e = same_name a b (sym (is_eq-name_cmp a b) ∙ e)

pub at_itself : (a : Name) → is_eq (name_cmp a a) ≡ true
at_itself a = is_eq-name_cmp a a ∙ name_eq-refl a

pub at_other : (a b : Name) → (a ≡ b → ⊥) → is_eq (name_cmp a b) ≡ false
at_other a b apart = is_eq-name_cmp a b ∙ distinct a b apart

module _ (index : List (Name × ℕ)) (names : List Name) (t : AreNumbered index names) where
  pub numbered_once : IsOnce names
  numbered_once n i j p q = let e : Some i ≡ Some j = sym (t.number n i p) ∙ t.number n j q in cc

  pub without_number : (n : Name) → lookup (is_at (name_cmp n)) index ≡ None → (i : ℕ) → slice_get names i ≡ Some n → ⊥
  without_number n none i h = let e : Some i ≡ None = sym (t.number n i h) ∙ none in absurd cc

-- ---- what is found

module _ {X : Type 0} where
  pub value_in_row : (n : Name) (xs : List (Name × X)) (i : ℕ) (d : Name × X) → IsOnce (keys_of xs) → slice_get (keys_of xs) i ≡ Some n → lookup (is_at (name_cmp n)) xs ≡ Some (get_or xs i d).1
  value_in_row n [] zero d once h = absurd cc
  value_in_row n [] (suc i) d once h = absurd cc
  value_in_row n (x ∷ xs) zero d once h = let same : x.0 ≡ n = cc in rw (same, at_itself n) refl
  value_in_row n (x ∷ xs) (suc i) d once h =
      let apart : is_eq (name_cmp n x.0) ≡ false = is_eq-name_cmp n x.0 ∙ apart_from n x xs i once h in
      rw apart (value_in_row n xs i d (rest_once x.0 (keys_of xs) once) h)

  pub name_in_row : (n : Name) (xs : List (Name × X)) (i : ℕ) (d : Name × X) → slice_get (keys_of xs) i ≡ Some n → (get_or xs i d).0 ≡ n
  name_in_row n [] zero d h = absurd cc
  name_in_row n [] (suc i) d h = absurd cc
  name_in_row n (x ∷ xs) zero d h = cc
  name_in_row n (x ∷ xs) (suc i) d h = name_in_row n xs i d h

  -- a name that is there is found
  lookup_there : (n : Name) (xs : List (Name × X)) (i : ℕ) → slice_get (keys_of xs) i ≡ Some n → lookup (is_at (name_cmp n)) xs ≡ None → ⊥
  lookup_there n [] zero p q = absurd cc
  lookup_there n [] (suc i) p q = absurd cc
  lookup_there n (x ∷ xs) zero p q =
      let same : x.0 ≡ n = cc in
      let here : is_eq (name_cmp n x.0) ≡ true = ap (λ m. is_eq (name_cmp n m)) same ∙ at_itself n in
      let k : Some x.1 ≡ None = rw here at q in
      absurd cc
  lookup_there n (x ∷ xs) (suc i) p q = by (is_eq (name_cmp n x.0)) q (lookup_there n xs i p)
    where
      by : (b : Bool) → cond b (Some x.1) (lookup (is_at (name_cmp n)) xs) ≡ None → (lookup (is_at (name_cmp n)) xs ≡ None → ⊥) → ⊥
      by true r rest = absurd cc
      by false r rest = rest r

  set-absent : (n : Name) (w : X) (es : List (Name × X)) → lookup (is_at (name_cmp n)) es ≡ None → set_value (is_at (name_cmp n)) es w ≡ es
  set-absent n w [] h = refl
  set-absent n w (e ∷ es) h = by (is_eq (name_cmp n e.0)) h (set-absent n w es)
    where
      by : (b : Bool) → cond b (Some e.1) (lookup (is_at (name_cmp n)) es) ≡ None → (lookup (is_at (name_cmp n)) es ≡ None → set_value (is_at (name_cmp n)) es w ≡ es)
          → cond b ((e.0, w) ∷ es) (e ∷ set_value (is_at (name_cmp n)) es w) ≡ e ∷ es
      by true a rest = absurd cc
      by false a rest = ap (λ fs. e ∷ fs) (rest a)

  module _ (index : List (Name × ℕ)) (rows : List (Name × X)) (t : AreNumbered index (keys_of rows)) where
    once : IsOnce (keys_of rows)
    once = numbered_once index (keys_of rows) t

    pub ordered_rows : IsOrdered name_cmp (by_name rows)
    ordered_rows = ordered-by_name rows once

    pub row_within : (n : Name) (i : ℕ) → lookup (is_at (name_cmp n)) index ≡ Some i → i < length rows
    row_within n i h = subst (λ k. i < k) (length-keys_of rows) (slice_get_within (keys_of rows) i n (t.row n i h))

    pub value_found : (n : Name) (i : ℕ) (e : Name × X) → lookup (is_at (name_cmp n)) index ≡ Some i → e ≡ get_or rows i e → lookup (is_at (name_cmp n)) (by_name rows) ≡ Some e.1
    value_found n i e h is = lookup-by_name n rows once ∙ value_in_row n rows i e once (t.row n i h) ∙ ap (λ (f : Name × X). Some f.1) (sym is)

    pub none_found : (n : Name) → lookup (is_at (name_cmp n)) index ≡ None → lookup (is_at (name_cmp n)) (by_name rows) ≡ None
    none_found n none = lookup_named n (by_name rows)
        ∙ ap (option_map (λ (e : Name × X). e.1)) (item-by_name n rows once ∙ no_item n rows (without_number index (keys_of rows) t n none))

    pub no_number : (n : Name) → lookup (is_at (name_cmp n)) (by_name rows) ≡ None → lookup (is_at (name_cmp n)) index ≡ None
    no_number n none = by (lookup (is_at (name_cmp n)) index) refl
      where
        by : (o : Option ℕ) → lookup (is_at (name_cmp n)) index ≡ o → lookup (is_at (name_cmp n)) index ≡ None
        by None e = e
        by (Some i) e = absurd (lookup_there n rows i (t.row n i e) (sym (lookup-by_name n rows once) ∙ none))

    -- ---- a value is written

    module _ (n : Name) (i : ℕ) (h : lookup (is_at (name_cmp n)) index ≡ Some i) (m : Name) (same : m ≡ n) (w : X) where
      pub still_numbered : AreNumbered index (keys_of (set rows i (m, w)))
      still_numbered = subst (AreNumbered index) (sym (ap (λ k. keys_of (set rows i (k, w))) same ∙ keys-set n w rows i (t.row n i h))) t

      pub written : (v : X) → lookup (is_at (name_cmp n)) (by_name rows) ≡ Some v → IsWritten (by_name rows) n (by_name (set rows i (m, w))) w
      written v found =
          let is = ap (λ k. by_name (set rows i (k, w))) same ∙ by_name-set n w rows i once (t.row n i h) in
          record {
            entries = is;
            updates = λ there q. ap (lookup (is_at (name_cmp q))) is ∙ lookup_set name_cmp_total (by_name rows) n q w there;
          }

    pub not_written : (n : Name) (w : X) → lookup (is_at (name_cmp n)) index ≡ None → IsWritten (by_name rows) n (by_name rows) w
    not_written n w none =
        let absent = none_found n none in
        record {
          entries = sym (set-absent n w (by_name rows) absent);
          updates = λ there q. absurd (let e = subst (λ (o : Option X). IsSome o) absent there in cc);
        }

    -- ---- an entry comes

    pub entry_made : (new : List (Name × X)) (k n : Name) (v : X) → k ≡ n → lookup (is_at (name_cmp n)) (by_name rows) ≡ None → new ≡ rows ++ (k, v) ∷ [] → by_name new ≡ insert_entry name_cmp (by_name rows) n v
    entry_made new k n v same none is =
        let absent : item_named (λ (e : Name × X). e.0) n rows ≡ None = no_item n rows (without_number index (keys_of rows) t n (no_number n none)) in
        ap (λ es. by_name es) (is ∙ ap (λ m. rows ++ (m, v) ∷ []) same) ∙ by_name-snoc (n, v) rows absent ∙ sym (insert_named n v (by_name rows) (item-by_name n rows once ∙ absent))

-- ---- the numbers, where a name comes

module _ (index new : List (Name × ℕ)) (names : List Name) (t : AreNumbered index names) (k : Name) (none : lookup (is_at (name_cmp k)) index ≡ None)
    (updates : (q : Name) → lookup (is_at (name_cmp q)) new ≡ cond (is_at (name_cmp k) q) (Some (length names)) (lookup (is_at (name_cmp q)) index)) where
  number_added : AreNumbered new (names ++ k ∷ [])
  number_added = record { row = row; number = number }
    where
      row : (n : Name) (i : ℕ) → lookup (is_at (name_cmp n)) new ≡ Some i → slice_get (names ++ k ∷ []) i ≡ Some n
      row n i h = by (is_eq (name_cmp k n)) refl (sym (updates n) ∙ h)
        where
          by : (b : Bool) → is_eq (name_cmp k n) ≡ b → cond b (Some (length names)) (lookup (is_at (name_cmp n)) index) ≡ Some i → slice_get (names ++ k ∷ []) i ≡ Some n
          by true e p =
              let here : length names ≡ i = cc in
              subst (λ j. slice_get (names ++ k ∷ []) j ≡ Some n) here (slice_end names k ∙ ap (λ m. Some m) (is_same k n e))
          by false e p = slice_left names k i n (t.row n i p)

      number : (n : Name) (i : ℕ) → slice_get (names ++ k ∷ []) i ≡ Some n → lookup (is_at (name_cmp n)) new ≡ Some i
      number n i h = by (slice_cases names k i n h)
        where
          by : IsIn names k i n → lookup (is_at (name_cmp n)) new ≡ Some i
          by (first p) =
              let apart = at_other k n (λ e. without_number index names t k none i (p ∙ ap (λ m. Some m) (sym e))) in
              updates n ∙ ap (λ b. cond b (Some (length names)) (lookup (is_at (name_cmp n)) index)) apart ∙ t.number n i p
          by (last p q) =
              let here = ap (λ m. is_eq (name_cmp k m)) (sym q) ∙ at_itself k in
              updates n ∙ ap (λ b. cond b (Some (length names)) (lookup (is_at (name_cmp n)) index)) here ∙ ap (λ j. Some j) (sym p)

pub added : {X : Type 0} (index now : List (Name × ℕ)) (rows new : List (Name × X)) (k n : Name) (v : X) (number : ℕ) → AreNumbered index (keys_of rows) → k ≡ n → number ≡ length rows
    → lookup (is_at (name_cmp n)) (by_name rows) ≡ None → new ≡ rows ++ (k, v) ∷ []
    → ((q : Name) → lookup (is_at (name_cmp q)) now ≡ cond (is_at (name_cmp k) q) (Some number) (lookup (is_at (name_cmp q)) index)) → AreNumbered now (keys_of new)
added {X = X} index now rows new k n v number t same is none made updates =
    let keys : keys_of new ≡ keys_of rows ++ k ∷ [] = ap keys_of made ∙ map-append (λ (e : Name × X). e.0) rows ((k, v) ∷ []) in
    let count : number ≡ length (keys_of rows) = is ∙ sym (length-keys_of rows) in
    let missing = ap (λ m. lookup (is_at (name_cmp m)) index) same ∙ no_number index rows t n none in
    subst (AreNumbered now) (sym keys)
    (number_added index now (keys_of rows) t k missing (λ q. updates q ∙ ap (λ j. cond (is_at (name_cmp k) q) (Some j) (lookup (is_at (name_cmp q)) index)) count))

-- ---- the numbers, where a name goes

module _ (index now : List (Name × ℕ)) (names : List Name) (z : Name) (t : AreNumbered index (names ++ z ∷ [])) (k : Name) (i : ℕ) (there : lookup (is_at (name_cmp k)) index ≡ Some i)
    (updates : (q : Name) → lookup (is_at (name_cmp q)) now ≡ cond (is_at (name_cmp k) q) None (cond (is_at (name_cmp z) q) (Some i) (lookup (is_at (name_cmp q)) index))) where
  once_all : IsOnce (names ++ z ∷ [])
  once_all = numbered_once index (names ++ z ∷ []) t

  left_apart : (n : Name) (j : ℕ) → slice_get names j ≡ Some n → j ≡ length names → ⊥
  left_apart n j h e = let l = slice_get_within names j n h in omega (arith, l, e)

  not_last : (n : Name) (j : ℕ) → slice_get names j ≡ Some n → z ≡ n → ⊥
  not_last n j h e = left_apart n j h (once_all n j (length names) (slice_left names z j n h) (slice_end names z ∙ ap (λ m. Some m) e))

  -- a name that is neither
  other : (n : Name) → (k ≡ n → ⊥) → (z ≡ n → ⊥) → lookup (is_at (name_cmp n)) now ≡ lookup (is_at (name_cmp n)) index
  other n a b = updates n ∙ ap (λ c. cond c None (cond (is_at (name_cmp z) n) (Some i) (lookup (is_at (name_cmp n)) index))) (at_other k n a)
      ∙ ap (λ c. cond c (Some i) (lookup (is_at (name_cmp n)) index)) (at_other z n b)

  -- the ways in which a name may have a number
  data IsOf (n : Name) (j : ℕ) : Type 0 where
    moved : z ≡ n → (k ≡ n → ⊥) → i ≡ j → IsOf n j
    stays : (k ≡ n → ⊥) → slice_get names j ≡ Some n → IsOf n j

  of : (n : Name) (j : ℕ) → lookup (is_at (name_cmp n)) now ≡ Some j → IsOf n j
  of n j h = by (is_eq (name_cmp k n)) refl (is_eq (name_cmp z n)) refl (sym (updates n) ∙ h)
    where
      apart : (m : Name) → is_eq (name_cmp m n) ≡ false → m ≡ n → ⊥
      apart m e p = let r : is_eq (name_cmp m n) ≡ true = ap (λ l. is_eq (name_cmp m l)) (sym p) ∙ at_itself m in absurd cc

      by : (a : Bool) → is_eq (name_cmp k n) ≡ a → (b : Bool) → is_eq (name_cmp z n) ≡ b → cond a None (cond b (Some i) (lookup (is_at (name_cmp n)) index)) ≡ Some j → IsOf n j
      by true e b f p = absurd cc
      by false e true f p = moved (is_same z n f) (apart k e) cc
      by false e false f p = within (slice_cases names z j n (t.row n j p))
        where
          within : IsIn names z j n → IsOf n j
          within (first q) = stays (apart k e) q
          within (last q r) = absurd (apart z f r)

  module _ (l : i < length names) where
    here : slice_get names i ≡ Some k
    here = by (slice_cases names z i k (t.row k i there))
      where
        by : IsIn names z i k → slice_get names i ≡ Some k
        by (first p) = p
        by (last p q) = absurd (omega (arith, l, p))

    number_filled : AreNumbered now (set names i z)
    number_filled = record { row = row; number = number }
      where
        row : (n : Name) (j : ℕ) → lookup (is_at (name_cmp n)) now ≡ Some j → slice_get (set names i z) j ≡ Some n
        row n j h = by (of n j h)
          where
            by : IsOf n j → slice_get (set names i z) j ≡ Some n
            by (moved e a p) = ap (slice_get (set names i z)) (sym p) ∙ set_here names i z l ∙ ap (λ m. Some m) e
            by (stays a p) = set_there names i j z (λ e. a (let r : Some k ≡ Some n = sym here ∙ ap (slice_get names) e ∙ p in cc)) ∙ p

        number : (n : Name) (j : ℕ) → slice_get (set names i z) j ≡ Some n → lookup (is_at (name_cmp n)) now ≡ Some j
        number n j h = by (nat_eq i j) refl
          where
            by : (b : Bool) → nat_eq i j ≡ b → lookup (is_at (name_cmp n)) now ≡ Some j
            by true e =
                let p : i ≡ j = grind (arith, nat_tests, e) in
                let r : Some z ≡ Some n = sym (set_here names i z l) ∙ ap (slice_get (set names i z)) p ∙ h in
                let q : z ≡ n = cc in
                updates n ∙ ap (λ c. cond c None (cond (is_at (name_cmp z) n) (Some i) (lookup (is_at (name_cmp n)) index))) (at_other k n (λ s. not_last k i here (q ∙ sym s)))
                ∙ ap (λ c. cond c (Some i) (lookup (is_at (name_cmp n)) index)) (ap (λ m. is_eq (name_cmp z m)) (sym q) ∙ at_itself z) ∙ ap (λ m. Some m) p
            by false e =
                let p : i ≡ j → ⊥ = λ q. grind (arith, nat_tests, e, q) in
                let left : slice_get names j ≡ Some n = sym (set_there names i j z p) ∙ h in
                let all = slice_left names z j n left in
                other n (λ s. p (once_all n i j (t.row k i there ∙ ap (λ m. Some m) s) all)) (not_last n j left) ∙ t.number n j all

  module _ (l : i < length names → ⊥) where
    last_one : (i ≡ length names) × (z ≡ k)
    last_one = by (slice_cases names z i k (t.row k i there))
      where
        by : IsIn names z i k → (i ≡ length names) × (z ≡ k)
        by (first p) = absurd (l (slice_get_within names i k p))
        by (last p q) = (p, q)

    number_popped : AreNumbered now names
    number_popped = record { row = row; number = number }
      where
        row : (n : Name) (j : ℕ) → lookup (is_at (name_cmp n)) now ≡ Some j → slice_get names j ≡ Some n
        row n j h = by (of n j h)
          where
            by : IsOf n j → slice_get names j ≡ Some n
            by (moved e a p) = absurd (a (sym last_one.1 ∙ e))
            by (stays a p) = p

        number : (n : Name) (j : ℕ) → slice_get names j ≡ Some n → lookup (is_at (name_cmp n)) now ≡ Some j
        number n j h = other n (λ s. not_last n j h (last_one.1 ∙ s)) (not_last n j h) ∙ t.number n j (slice_left names z j n h)

module _ {X : Type 0} (index now : List (Name × ℕ)) (rows new : List (Name × X)) (t : AreNumbered index (keys_of rows)) (n moved : Name) (i : ℕ) (there : lookup (is_at (name_cmp n)) index ≡ Some i)
    (f : IsFilled rows i new) where
  abbrev z : Name × X
  z = f.last

  abbrev names : List Name
  names = keys_of f.rest

  keys : keys_of rows ≡ names ++ z.0 ∷ []
  keys = ap keys_of f.parts ∙ map-append (λ (e : Name × X). e.0) f.rest (z ∷ [])

  numbered : AreNumbered index (names ++ z.0 ∷ [])
  numbered = subst (AreNumbered index) keys t

  -- the numbers
  pub removed_numbers : slice_get (keys_of rows) (length rows - 1) ≡ Some moved
      → ((q : Name) → lookup (is_at (name_cmp q)) now ≡ cond (is_at (name_cmp n) q) None (cond (is_at (name_cmp moved) q) (Some i) (lookup (is_at (name_cmp q)) index))) → AreNumbered now (keys_of new)
  removed_numbers end updates = by (nat_lt i (length f.rest)) refl f.filled
    where
      count : length rows ≡ length f.rest + 1
      count = ap length f.parts ∙ length-append f.rest (z ∷ [])

      at_end : Some z.0 ≡ Some moved
      at_end =
          let place : length rows - 1 ≡ length names = omega (arith, count, length-keys_of f.rest) in
          sym (slice_end names z.0) ∙ ap (slice_get (names ++ z.0 ∷ [])) (sym place) ∙ ap (λ ns. slice_get ns (length rows - 1)) (sym keys) ∙ end

      same : z.0 ≡ moved
      same = let e = at_end in cc

      changed : (q : Name) → lookup (is_at (name_cmp q)) now ≡ cond (is_at (name_cmp n) q) None (cond (is_at (name_cmp z.0) q) (Some i) (lookup (is_at (name_cmp q)) index))
      changed q = updates q ∙ ap (λ m. cond (is_at (name_cmp n) q) None (cond (is_at (name_cmp m) q) (Some i) (lookup (is_at (name_cmp q)) index))) (sym same)

      by : (b : Bool) → nat_lt i (length f.rest) ≡ b → new ≡ (if b then set f.rest i z else f.rest) → AreNumbered now (keys_of new)
      by true e is =
          let l : i < length f.rest = grind (arith, nat_tests, e) in
          let m : i < length names = subst (λ k. i < k) (sym (length-keys_of f.rest)) l in
          subst (AreNumbered now) (sym (ap keys_of is ∙ map-set (λ (x : Name × X). x.0) f.rest i z)) (number_filled index now names z.0 numbered n i there changed m)
      by false e is =
          let none : i < length names → ⊥ = λ m. (let l : i < length f.rest = subst (λ k. i < k) (length-keys_of f.rest) m in grind (arith, nat_tests, e, l)) in
          subst (AreNumbered now) (sym (ap keys_of is)) (number_popped index now names z.0 numbered n i there changed none)

  -- the entries
  pub removed_entries : by_name new ≡ remove_entry (is_at (name_cmp n)) (by_name rows)
  removed_entries = by (nat_lt i (length f.rest)) refl f.filled ∙ ap (λ es. remove_entry (is_at (name_cmp n)) (by_name es)) (sym f.parts)
    where
      all_once : IsOnce (keys_of (f.rest ++ z ∷ []))
      all_once = subst (λ es. IsOnce (keys_of es)) f.parts (numbered_once index (keys_of rows) t)

      place : slice_get (names ++ z.0 ∷ []) i ≡ Some n
      place = numbered.row n i there

      by : (b : Bool) → nat_lt i (length f.rest) ≡ b → new ≡ (if b then set f.rest i z else f.rest) → by_name new ≡ remove_entry (is_at (name_cmp n)) (by_name (f.rest ++ z ∷ []))
      by true e is = ap (λ es. by_name es) is ∙ sym (removed_there f.rest z all_once n i (left (slice_cases names z.0 i n place)))
        where
          l : i < length f.rest
          l = grind (arith, nat_tests, e)

          left : IsIn names z.0 i n → slice_get names i ≡ Some n
          left (first p) = p
          left (last p q) = let k = length-keys_of f.rest in absurd (omega (arith, l, p, k))
      by false e is = ap (λ es. by_name es) is ∙ sym (removed_last f.rest z all_once) ∙ ap (λ m. remove_entry (is_at (name_cmp m)) (by_name (f.rest ++ z ∷ []))) (end (slice_cases names z.0 i n place))
        where
          end : IsIn names z.0 i n → z.0 ≡ n
          end (first p) =
              let l = slice_get_within names i n p in
              let k = length-keys_of f.rest in
              absurd (grind (arith, nat_tests, e, l, k))
          end (last p q) = q
