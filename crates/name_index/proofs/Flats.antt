-- Chunks, of which one is changed.
use Rattle.std.proofs.Common.{◌≡◌, ℕ, suc, ◌+◌, ◌-◌, ◌<◌, ◌≤◌, Bool, true, false, cond, List, [], ◌∷◌, ◌++◌, Some, None, length, get_or, take, drop, set, refl, sym, subst, ◌∙◌, ap, arith}
use Rattle.std.specs.Prelude.{is_some}
use Rattle.std.specs.List.{find, slice_get, insert, remove}
use Rattle.std.specs.Map.{lookup, set_value, remove_entry}
use Rattle.std.specs.BTreeMap.{is_at, insert_entry}
use Rattle.std.specs.Cmp.{IsTotalOrder}
use Rattle.std.specs.Ordering.{is_lt, is_gt}
use Rattle.std.specs.declared.cmp.Ordering.{Ordering}
use Rattle.std.specs.declared.cmp.Ordering.TheVariants.{Less, Greater}
use Rattle.std.proofs.lemmas.List.{append_assoc, append-nil, take_more, drop_all, set_at, length-take-le, drop_more}
use Rattle.name_index.specs.Chunks.{flat, first_key, IsOrdered, IsPast, IsBefore, IsSpot}
use Rattle.name_index.proofs.Entries.{more, parts, set_parts, ordered_left, ordered_right, past_from, before_from, less_from, all_join}
use Rattle.name_index.proofs.Changes.{lookup-past, insert-past, remove-past, set-past, find-past, lookup-before, insert-before, remove-before, set-before, find-before, find-left}

module _ {A : Type 0} where
  pub flat-append : (xs ys : List (List A)) → flat (xs ++ ys) ≡ flat xs ++ flat ys
  flat-append [] ys = refl
  flat-append (x ∷ xs) ys = ap (λ rest. x ++ rest) (flat-append xs ys) ∙ sym (append_assoc x (flat xs) (flat ys))

  -- of which one is x
  flat_at : (before behind : List (List A)) (x : List A) → flat (before ++ x ∷ behind) ≡ flat before ++ (x ++ flat behind)
  flat_at before behind x = flat-append before (x ∷ behind)

  pub flat_parts : (xs : List (List A)) (c : ℕ) (d : List A) → c < length xs → flat xs ≡ flat (take c xs) ++ (get_or xs c d ++ flat (drop (c + 1) xs))
  flat_parts xs c d l = ap flat (parts xs c d l) ∙ flat_at (take c xs) (drop (c + 1) xs) (get_or xs c d)

  pub flat_set : (xs : List (List A)) (c : ℕ) (x : List A) → c < length xs → flat (set xs c x) ≡ flat (take c xs) ++ (x ++ flat (drop (c + 1) xs))
  flat_set xs c x l = ap flat (set_parts xs c x l) ∙ flat_at (take c xs) (drop (c + 1) xs) x

  pub flat_remove : (xs : List (List A)) (c : ℕ) → flat (remove xs c) ≡ flat (take c xs) ++ flat (drop (c + 1) xs)
  flat_remove xs c = flat-append (take c xs) (drop (suc c) xs) ∙ ap (λ n. flat (take c xs) ++ flat (drop n xs)) (sym (more c))

  -- one more behind the last
  pub flat_push : (xs : List (List A)) (n : ℕ) (d : List A) (x : A) → n ≡ length xs → 0 < n → flat (set xs (n - 1) (get_or xs (n - 1) d ++ x ∷ [])) ≡ flat xs ++ x ∷ []
  flat_push xs n d x e some =
      let c = n - 1 in
      let l : c < length xs = omega (arith, e, some) in
      let last = get_or xs c d in
      let none : drop (c + 1) xs ≡ [] = drop_all (c + 1) xs (omega (arith, e, some)) in
      let nothing : flat (drop (c + 1) xs) ≡ [] = ap flat none in
      let first = flat (take c xs) in
      flat_set xs c (last ++ x ∷ []) l ∙ ap (λ rest. first ++ ((last ++ x ∷ []) ++ rest)) nothing ∙ ap (λ rest. first ++ rest) (append-nil (last ++ x ∷ [])) ∙ sym (append_assoc first last (x ∷ []))
      ∙ ap (λ rest. (first ++ rest) ++ x ∷ []) (sym (append-nil last)) ∙ sym (ap (λ es. es ++ x ∷ []) (flat_parts xs c d l ∙ ap (λ rest. first ++ (last ++ rest)) nothing))

  -- one becomes two
  pub flat_split : (xs : List (List A)) (c : ℕ) (d lower upper : List A) → c < length xs → lower ++ upper ≡ get_or xs c d → flat (set (insert xs (c + 1) upper) c lower) ≡ flat xs
  flat_split xs c d lower upper l two =
      let x = get_or xs c d in
      let rest = drop (c + 1) xs in
      let first = take c xs in
      let there : insert xs (c + 1) upper ≡ first ++ x ∷ upper ∷ rest = ap (λ ys. ys ++ upper ∷ rest) (take_more xs c d l) ∙ append_assoc first (x ∷ []) (upper ∷ rest) in
      let le : c ≤ length xs = omega (arith, l) in
      ap (λ ys. flat (set ys c lower)) there ∙ ap flat (set_at first x (upper ∷ rest) lower c (length-take-le c xs le)) ∙ flat_at first (upper ∷ rest) lower
      ∙ ap (λ ys. flat first ++ ys) (sym (append_assoc lower upper (flat rest)) ∙ ap (λ ys. ys ++ flat rest) two) ∙ sym (flat_parts xs c d l)

-- ---- the search for a chunk

module _ {K X : Type 0} {cmp : K → K → Ordering} (o : IsTotalOrder cmp) (k : K) (cs : List (List (K × X))) where
  pub spot_low : (m : ℕ) (x : List (K × X)) (f : K) → IsOrdered cmp (flat cs) → m < length cs → x ≡ get_or cs m x → first_key x ≡ Some f → is_lt (cmp k f) ≡ false → IsPast (cmp k) (flat (take m cs))
  spot_low m x f ordered l is first le = by x (flat_parts cs m x l ∙ ap (λ y. flat (take m cs) ++ (y ++ flat (drop (m + 1) cs))) (sym is)) first
    where
      by : (y : List (K × X)) → flat cs ≡ flat (take m cs) ++ (y ++ flat (drop (m + 1) cs)) → first_key y ≡ Some f → IsPast (cmp k) (flat (take m cs))
      by [] e h = absurd cc
      by (y ∷ ys) e h =
          let same : y.0 ≡ f = cc in
          past_from o k (flat (take m cs)) y (ys ++ flat (drop (m + 1) cs)) (subst (IsOrdered cmp) e ordered) (ap (λ z. is_lt (cmp k z)) same ∙ le)

  pub spot_high : (m : ℕ) (x : List (K × X)) (f : K) → IsOrdered cmp (flat cs) → m < length cs → x ≡ get_or cs m x → first_key x ≡ Some f → is_lt (cmp k f) ≡ true → IsBefore (cmp k) (flat (drop m cs))
  spot_high m x f ordered l is first lt = by x (ap flat (drop_more cs m x l) ∙ ap (λ y. y ++ flat (drop (m + 1) cs)) (sym is)) (flat_parts cs m x l ∙ ap (λ y. flat (take m cs) ++ (y ++ flat (drop (m + 1) cs))) (sym is)) first
    where
      by : (y : List (K × X)) → flat (drop m cs) ≡ y ++ flat (drop (m + 1) cs) → flat cs ≡ flat (take m cs) ++ (y ++ flat (drop (m + 1) cs)) → first_key y ≡ Some f → IsBefore (cmp k) (flat (drop m cs))
      by [] e w h = absurd cc
      by (y ∷ ys) e w h =
          let same : y.0 ≡ f = cc in
          let less : cmp k y.0 ≡ Less = less_from (cmp k y.0) (ap (λ z. is_lt (cmp k z)) same ∙ lt) in
          let behind = ordered_right cmp (flat (take m cs)) (y ∷ ys ++ flat (drop (m + 1) cs)) (subst (IsOrdered cmp) w ordered) in
          subst (IsBefore (cmp k)) (sym e) (less, before_from o k y (ys ++ flat (drop (m + 1) cs)) behind (ap is_gt less))

  -- a key past the last chunk
  pub past_all : (x : List (K × X)) → IsOrdered cmp (flat cs) → 0 < length cs → x ≡ get_or cs (length cs - 1) x → is_some (first_key x) ≡ true → IsPast (cmp k) x → IsPast (cmp k) (flat cs)
  past_all x ordered some is first past = by x (flat_parts cs (length cs - 1) x l ∙ ap (λ y. flat (take (length cs - 1) cs) ++ (y ++ flat (drop (length cs - 1 + 1) cs))) (sym is) ∙ ap (λ ys. flat (take (length cs - 1) cs) ++ (x ++ flat ys)) (drop_all (length cs - 1 + 1) cs (omega (arith, some)))) first past
    where
      l : length cs - 1 < length cs
      l = omega (arith, some)

      by : (y : List (K × X)) → flat cs ≡ flat (take (length cs - 1) cs) ++ (y ++ []) → is_some (first_key y) ≡ true → IsPast (cmp k) y → IsPast (cmp k) (flat cs)
      by [] e h p = absurd cc
      by (y ∷ ys) e h p =
          subst (IsPast (cmp k)) (sym e)
          (all_join (λ b. cmp k b ≡ Greater) (flat (take (length cs - 1) cs)) (y ∷ ys ++ []) (past_from o k (flat (take (length cs - 1) cs)) y (ys ++ []) (subst (IsOrdered cmp) e ordered) (ap is_lt p.0)) (all_join (λ b. cmp k b ≡ Greater) (y ∷ ys) [] p tt))

pub chunk_sorted : {K X : Type 0} (cmp : K → K → Ordering) (cs : List (List (K × X))) (c : ℕ) (x : List (K × X)) → c < length cs → x ≡ get_or cs c x → IsOrdered cmp (flat cs) → IsOrdered cmp x
chunk_sorted cmp cs c x l is h =
    ordered_left cmp x (flat (drop (c + 1) cs)) (ordered_right cmp (flat (take c cs)) (x ++ flat (drop (c + 1) cs))
    (subst (IsOrdered cmp) (flat_parts cs c x l ∙ ap (λ y. flat (take c cs) ++ (y ++ flat (drop (c + 1) cs))) (sym is)) h))

-- ---- what changes in one chunk

module _ {K X : Type 0} (cmp : K → K → Ordering) (k : K) (cs : List (List (K × X))) (c : ℕ) (x : List (K × X)) (spot : IsSpot (cmp k) cs c) (is : x ≡ get_or cs c x) where
  whole : flat cs ≡ flat (take c cs) ++ (x ++ flat (drop (c + 1) cs))
  whole = flat_parts cs c x spot.within ∙ ap (λ y. flat (take c cs) ++ (y ++ flat (drop (c + 1) cs))) (sym is)

  pub lookup_spot : lookup (is_at (cmp k)) (flat cs) ≡ lookup (is_at (cmp k)) x
  lookup_spot = ap (lookup (is_at (cmp k))) whole ∙ lookup-past cmp k (x ++ flat (drop (c + 1) cs)) (flat (take c cs)) spot.past ∙ lookup-before cmp k (flat (drop (c + 1) cs)) spot.before x

  pub insert_spot : (v : X) → flat (set cs c (insert_entry cmp x k v)) ≡ insert_entry cmp (flat cs) k v
  insert_spot v =
      flat_set cs c (insert_entry cmp x k v) spot.within ∙ ap (λ es. flat (take c cs) ++ es) (sym (insert-before cmp k (flat (drop (c + 1) cs)) spot.before v x))
      ∙ sym (insert-past cmp k (x ++ flat (drop (c + 1) cs)) v (flat (take c cs)) spot.past) ∙ ap (λ es. insert_entry cmp es k v) (sym whole)

  pub set_spot : (v : X) → flat (set cs c (set_value (is_at (cmp k)) x v)) ≡ set_value (is_at (cmp k)) (flat cs) v
  set_spot v =
      flat_set cs c (set_value (is_at (cmp k)) x v) spot.within ∙ ap (λ es. flat (take c cs) ++ es) (sym (set-before cmp k (flat (drop (c + 1) cs)) spot.before v x))
      ∙ sym (set-past cmp k (x ++ flat (drop (c + 1) cs)) v (flat (take c cs)) spot.past) ∙ ap (λ es. set_value (is_at (cmp k)) es v) (sym whole)

  remove_parts : remove_entry (is_at (cmp k)) (flat cs) ≡ flat (take c cs) ++ (remove_entry (is_at (cmp k)) x ++ flat (drop (c + 1) cs))
  remove_parts =
      ap (remove_entry (is_at (cmp k))) whole ∙ remove-past cmp k (x ++ flat (drop (c + 1) cs)) (flat (take c cs)) spot.past
      ∙ ap (λ es. flat (take c cs) ++ es) (remove-before cmp k (flat (drop (c + 1) cs)) spot.before x)

  pub remove_spot : flat (set cs c (remove_entry (is_at (cmp k)) x)) ≡ remove_entry (is_at (cmp k)) (flat cs)
  remove_spot = flat_set cs c (remove_entry (is_at (cmp k)) x) spot.within ∙ sym remove_parts

  -- the only entry of its chunk
  pub remove_chunk : length x ≤ 1 → (lookup (is_at (cmp k)) (flat cs) ≡ None → ⊥) → flat (remove cs c) ≡ remove_entry (is_at (cmp k)) (flat cs)
  remove_chunk one there = flat_remove cs c ∙ ap (λ es. flat (take c cs) ++ (es ++ flat (drop (c + 1) cs))) (sym (nothing x one (λ none. there (lookup_spot ∙ none)))) ∙ sym remove_parts
    where
      nothing : (y : List (K × X)) → length y ≤ 1 → (lookup (is_at (cmp k)) y ≡ None → ⊥) → remove_entry (is_at (cmp k)) y ≡ []
      nothing [] e h = refl
      nothing (y ∷ z ∷ ys) e h = absurd (omega (arith, e))
      nothing (y ∷ []) e h = by (is_at (cmp k) y.0) h
        where
          by : (b : Bool) → (cond b (Some y.1) None ≡ None → ⊥) → cond b [] (y ∷ []) ≡ []
          by true h = refl
          by false h = absurd (h refl)

  pub find_left : (e : K × X) → find (λ e. is_lt (cmp k e.0)) x ≡ Some e → find (λ e. is_lt (cmp k e.0)) (flat cs) ≡ Some e
  find_left e h =
      ap (find (λ e. is_lt (cmp k e.0))) whole ∙ find-past cmp k (x ++ flat (drop (c + 1) cs)) (flat (take c cs)) spot.past ∙ find-left cmp k (flat (drop (c + 1) cs)) x e h

  pub find_behind : find (λ e. is_lt (cmp k e.0)) x ≡ None → find (λ e. is_lt (cmp k e.0)) (flat cs) ≡ slice_get (flat (drop (c + 1) cs)) 0
  find_behind h =
      ap (find (λ e. is_lt (cmp k e.0))) whole ∙ find-past cmp k (x ++ flat (drop (c + 1) cs)) (flat (take c cs)) spot.past ∙ find-before cmp k (flat (drop (c + 1) cs)) spot.before x h
