-- A map's changes at the place of a key.
use Rattle.std.proofs.Common.{◌≡◌, ℕ, zero, suc, ◌+◌, ◌<◌, Bool, true, false, cond, List, [], ◌∷◌, ◌++◌, Some, None, length, get_or, take, drop, set, refl, sym, subst, ◌∙◌, ap}
use Rattle.std.specs.List.{find, slice_get, insert, remove}
use Rattle.std.specs.Map.{lookup, set_value, remove_entry}
use Rattle.std.specs.BTreeMap.{is_at, insert_entry}
use Rattle.std.specs.Cmp.{IsTotalOrder}
use Rattle.std.specs.Ordering.{is_eq, is_gt, is_lt, match_ordering}
use Rattle.std.specs.declared.cmp.Ordering.{Ordering}
use Rattle.std.specs.declared.cmp.Ordering.TheVariants.{Less, Equal, Greater}
use Rattle.std.proofs.lemmas.List.{take-append-drop, drop_more}
use Rattle.name_index.specs.Chunks.{IsOrdered, IsPast, IsUpTo, IsBefore, IsPlace, IsHit}
use Rattle.name_index.proofs.Entries.{ordered_right, before_from, parts, set_parts, more}

module _ {K X : Type 0} (cmp : K → K → Ordering) (k : K) where
  -- ---- past some entries

  module _ (B : List (K × X)) where
    pub lookup-past : (A : List (K × X)) → IsPast (cmp k) A → lookup (is_at (cmp k)) (A ++ B) ≡ lookup (is_at (cmp k)) B
    lookup-past [] h = refl
    lookup-past (a ∷ A) h = rw h.0 (lookup-past A h.1)

    pub insert-past : (v : X) (A : List (K × X)) → IsPast (cmp k) A → insert_entry cmp (A ++ B) k v ≡ A ++ insert_entry cmp B k v
    insert-past v [] h = refl
    insert-past v (a ∷ A) h = rw h.0 (ap (λ es. a ∷ es) (insert-past v A h.1))

    pub remove-past : (A : List (K × X)) → IsPast (cmp k) A → remove_entry (is_at (cmp k)) (A ++ B) ≡ A ++ remove_entry (is_at (cmp k)) B
    remove-past [] h = refl
    remove-past (a ∷ A) h = rw h.0 (ap (λ es. a ∷ es) (remove-past A h.1))

    pub set-past : (v : X) (A : List (K × X)) → IsPast (cmp k) A → set_value (is_at (cmp k)) (A ++ B) v ≡ A ++ set_value (is_at (cmp k)) B v
    set-past v [] h = refl
    set-past v (a ∷ A) h = rw h.0 (ap (λ es. a ∷ es) (set-past v A h.1))

    pub find-past : (A : List (K × X)) → IsPast (cmp k) A → find (λ e. is_lt (cmp k e.0)) (A ++ B) ≡ find (λ e. is_lt (cmp k e.0)) B
    find-past [] h = refl
    find-past (a ∷ A) h = rw h.0 (find-past A h.1)

  -- ---- before some entries

  pub lookup_none : (B : List (K × X)) → IsBefore (cmp k) B → lookup (is_at (cmp k)) B ≡ None
  lookup_none [] h = refl
  lookup_none (b ∷ B) h = rw h.0 (lookup_none B h.1)

  remove_none : (B : List (K × X)) → IsBefore (cmp k) B → remove_entry (is_at (cmp k)) B ≡ B
  remove_none [] h = refl
  remove_none (b ∷ B) h = rw h.0 (ap (λ es. b ∷ es) (remove_none B h.1))

  set_none : (v : X) (B : List (K × X)) → IsBefore (cmp k) B → set_value (is_at (cmp k)) B v ≡ B
  set_none v [] h = refl
  set_none v (b ∷ B) h = rw h.0 (ap (λ es. b ∷ es) (set_none v B h.1))

  insert_first : (v : X) (B : List (K × X)) → IsBefore (cmp k) B → insert_entry cmp B k v ≡ (k, v) ∷ B
  insert_first v [] h = refl
  insert_first v (b ∷ B) h = rw h.0 refl

  pub find_first : (B : List (K × X)) → IsBefore (cmp k) B → find (λ e. is_lt (cmp k e.0)) B ≡ slice_get B 0
  find_first [] h = refl
  find_first (b ∷ B) h = rw h.0 refl

  module _ (B : List (K × X)) (before : IsBefore (cmp k) B) where
    pub lookup-before : (A : List (K × X)) → lookup (is_at (cmp k)) (A ++ B) ≡ lookup (is_at (cmp k)) A
    lookup-before [] = lookup_none B before
    lookup-before (a ∷ A) = ap (cond (is_eq (cmp k a.0)) (Some a.1)) (lookup-before A)

    pub insert-before : (v : X) (A : List (K × X)) → insert_entry cmp (A ++ B) k v ≡ insert_entry cmp A k v ++ B
    insert-before v [] = insert_first v B before
    insert-before v (a ∷ A) = by (cmp k a.0) (insert-before v A)
      where
        by : (r : Ordering) → insert_entry cmp (A ++ B) k v ≡ insert_entry cmp A k v ++ B
            → match_ordering r ((k, v) ∷ a ∷ (A ++ B)) ((a.0, v) ∷ (A ++ B)) (a ∷ insert_entry cmp (A ++ B) k v) ≡ match_ordering r ((k, v) ∷ a ∷ A) ((a.0, v) ∷ A) (a ∷ insert_entry cmp A k v) ++ B
        by Less rest = refl
        by Equal rest = refl
        by Greater rest = ap (λ es. a ∷ es) rest

    pub remove-before : (A : List (K × X)) → remove_entry (is_at (cmp k)) (A ++ B) ≡ remove_entry (is_at (cmp k)) A ++ B
    remove-before [] = remove_none B before
    remove-before (a ∷ A) = by (is_eq (cmp k a.0)) (remove-before A)
      where
        by : (b : Bool) → remove_entry (is_at (cmp k)) (A ++ B) ≡ remove_entry (is_at (cmp k)) A ++ B
            → cond b (A ++ B) (a ∷ remove_entry (is_at (cmp k)) (A ++ B)) ≡ cond b A (a ∷ remove_entry (is_at (cmp k)) A) ++ B
        by true rest = refl
        by false rest = ap (λ es. a ∷ es) rest

    pub set-before : (v : X) (A : List (K × X)) → set_value (is_at (cmp k)) (A ++ B) v ≡ set_value (is_at (cmp k)) A v ++ B
    set-before v [] = set_none v B before
    set-before v (a ∷ A) = by (is_eq (cmp k a.0)) (set-before v A)
      where
        by : (b : Bool) → set_value (is_at (cmp k)) (A ++ B) v ≡ set_value (is_at (cmp k)) A v ++ B
            → cond b ((a.0, v) ∷ (A ++ B)) (a ∷ set_value (is_at (cmp k)) (A ++ B) v) ≡ cond b ((a.0, v) ∷ A) (a ∷ set_value (is_at (cmp k)) A v) ++ B
        by true rest = refl
        by false rest = ap (λ es. a ∷ es) rest

    -- the least above, by parts
    pub find-before : (A : List (K × X)) → find (λ e. is_lt (cmp k e.0)) A ≡ None → find (λ e. is_lt (cmp k e.0)) (A ++ B) ≡ slice_get B 0
    find-before [] h = find_first B before
    find-before (a ∷ A) h = by (is_lt (cmp k a.0)) h (find-before A)
      where
        by : (b : Bool) → cond b (Some a) (find (λ e. is_lt (cmp k e.0)) A) ≡ None → (find (λ e. is_lt (cmp k e.0)) A ≡ None → find (λ e. is_lt (cmp k e.0)) (A ++ B) ≡ slice_get B 0)
            → cond b (Some a) (find (λ e. is_lt (cmp k e.0)) (A ++ B)) ≡ slice_get B 0
        by true p rest = absurd cc
        by false p rest = rest p

  pub find-left : (B A : List (K × X)) (e : K × X) → find (λ e. is_lt (cmp k e.0)) A ≡ Some e → find (λ e. is_lt (cmp k e.0)) (A ++ B) ≡ Some e
  find-left B [] e h = absurd cc
  find-left B (a ∷ A) e h = by (is_lt (cmp k a.0)) h (find-left B A e)
    where
      by : (b : Bool) → cond b (Some a) (find (λ e. is_lt (cmp k e.0)) A) ≡ Some e → (find (λ e. is_lt (cmp k e.0)) A ≡ Some e → find (λ e. is_lt (cmp k e.0)) (A ++ B) ≡ Some e)
          → cond b (Some a) (find (λ e. is_lt (cmp k e.0)) (A ++ B)) ≡ Some e
      by true p rest = p
      by false p rest = rest p

  -- ---- at its place

  slice_get-drop : (es : List (K × X)) (i : ℕ) → slice_get es i ≡ slice_get (drop i es) 0
  slice_get-drop [] zero = refl
  slice_get-drop [] (suc i) = refl
  slice_get-drop (e ∷ es) zero = refl
  slice_get-drop (e ∷ es) (suc i) = slice_get-drop es i

  module _ (es : List (K × X)) (i : ℕ) (place : IsPlace (cmp k) es i) where
    -- no entry has the key
    module _ (gap : IsBefore (cmp k) (drop i es)) where
      whole : es ≡ take i es ++ drop i es
      whole = sym (take-append-drop i es)

      pub lookup-gap : lookup (is_at (cmp k)) es ≡ None
      lookup-gap = ap (lookup (is_at (cmp k))) whole ∙ lookup-past (drop i es) (take i es) place.past ∙ lookup_none (drop i es) gap

      pub insert-gap : (v : X) → insert_entry cmp es k v ≡ insert es i (k, v)
      insert-gap v = ap (λ fs. insert_entry cmp fs k v) whole ∙ insert-past (drop i es) v (take i es) place.past ∙ ap (λ rest. take i es ++ rest) (insert_first v (drop i es) gap)

      pub remove-gap : remove_entry (is_at (cmp k)) es ≡ es
      remove-gap = ap (remove_entry (is_at (cmp k))) whole ∙ remove-past (drop i es) (take i es) place.past ∙ ap (λ rest. take i es ++ rest) (remove_none (drop i es) gap) ∙ sym whole

      pub set-gap : (v : X) → set_value (is_at (cmp k)) es v ≡ es
      set-gap v = ap (λ fs. set_value (is_at (cmp k)) fs v) whole ∙ set-past (drop i es) v (take i es) place.past ∙ ap (λ rest. take i es ++ rest) (set_none v (drop i es) gap) ∙ sym whole

      pub find-gap : find (λ e. is_lt (cmp k e.0)) es ≡ slice_get es i
      find-gap = ap (find (λ e. is_lt (cmp k e.0))) whole ∙ find-past (drop i es) (take i es) place.past ∙ find_first (drop i es) gap ∙ sym (slice_get-drop es i)

    -- one has it
    module _ (hit : IsHit (cmp k) es i) (d : K × X) where
      abbrev at : K × X
      at = get_or es i d

      split : es ≡ take i es ++ at ∷ drop (i + 1) es
      split = parts es i d hit.within

      pub lookup-hit : lookup (is_at (cmp k)) es ≡ Some (get_or es i d).1
      lookup-hit =
          let here : lookup (is_at (cmp k)) (at ∷ drop (i + 1) es) ≡ Some at.1 = rw (hit.equal d) refl in
          ap (lookup (is_at (cmp k))) split ∙ lookup-past (at ∷ drop (i + 1) es) (take i es) place.past ∙ here

      pub insert-hit : (v : X) → insert_entry cmp es k v ≡ set es i ((get_or es i d).0, v)
      insert-hit v =
          let here : insert_entry cmp (at ∷ drop (i + 1) es) k v ≡ (at.0, v) ∷ drop (i + 1) es = rw (hit.equal d) refl in
          ap (λ fs. insert_entry cmp fs k v) split ∙ insert-past (at ∷ drop (i + 1) es) v (take i es) place.past ∙ ap (λ rest. take i es ++ rest) here ∙ sym (set_parts es i (at.0, v) hit.within)

      pub set-hit : (v : X) → set_value (is_at (cmp k)) es v ≡ set es i ((get_or es i d).0, v)
      set-hit v =
          let here : set_value (is_at (cmp k)) (at ∷ drop (i + 1) es) v ≡ (at.0, v) ∷ drop (i + 1) es = rw (hit.equal d) refl in
          ap (λ fs. set_value (is_at (cmp k)) fs v) split ∙ set-past (at ∷ drop (i + 1) es) v (take i es) place.past ∙ ap (λ rest. take i es ++ rest) here ∙ sym (set_parts es i (at.0, v) hit.within)

      pub remove-hit : remove_entry (is_at (cmp k)) es ≡ remove es i
      remove-hit =
          let here : remove_entry (is_at (cmp k)) (at ∷ drop (i + 1) es) ≡ drop (i + 1) es = rw (hit.equal d) refl in
          ap (remove_entry (is_at (cmp k))) split ∙ remove-past (at ∷ drop (i + 1) es) (take i es) place.past ∙ ap (λ rest. take i es ++ rest) here ∙ ap (λ n. take i es ++ drop n es) (more i)

      pub find-hit : IsTotalOrder cmp → IsOrdered cmp es → find (λ e. is_lt (cmp k e.0)) es ≡ slice_get es (i + 1)
      find-hit o ordered =
          let rest = drop (i + 1) es in
          let here : find (λ e. is_lt (cmp k e.0)) (at ∷ rest) ≡ find (λ e. is_lt (cmp k e.0)) rest = rw (hit.equal d) refl in
          let behind = ordered_right cmp (take i es) (at ∷ rest) (subst (IsOrdered cmp) split ordered) in
          ap (find (λ e. is_lt (cmp k e.0))) split ∙ find-past (at ∷ rest) (take i es) place.past ∙ here
          ∙ find_first rest (before_from o k at rest behind (ap is_gt (hit.equal d))) ∙ sym (slice_get-drop es (i + 1))

-- where the key isn't that of the entry at its place
pub gap_here : {K X : Type 0} {cmp : K → K → Ordering} (o : IsTotalOrder cmp) (k : K) (es : List (K × X)) (i : ℕ) (d : K × X) → IsOrdered cmp es → IsPlace (cmp k) es i → i < length es
    → is_eq (cmp k (get_or es i d).0) ≡ false → IsBefore (cmp k) (drop i es)
gap_here {cmp = cmp} o k es i d ordered place l apart =
    let e = get_or es i d in
    let rest = drop (i + 1) es in
    let up = subst (IsUpTo (cmp k)) (drop_more es i d l) place.up_to in
    let behind = ordered_right cmp (take i es) (e ∷ rest) (subst (IsOrdered cmp) (parts es i d l) ordered) in
    subst (IsBefore (cmp k)) (sym (drop_more es i d l)) (less (cmp k e.0) up.0 apart, before_from o k e rest behind up.0)
  where
    less : (r : Ordering) → is_gt r ≡ false → is_eq r ≡ false → r ≡ Less
    less Less p q = refl
    less Equal p q = absurd cc
    less Greater p q = absurd cc
