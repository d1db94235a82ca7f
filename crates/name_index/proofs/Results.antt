-- What a changed map has.
use Rattle.std.proofs.Common.{◌≡◌, ℕ, not, if◌then◌else◌, ◌+◌, ◌<◌, Bool, true, false, cond, List, [], ◌∷◌, Some, None, IsSome, length, refl, sym, subst, ◌∙◌, ap, arith}
use Rattle.std.specs.Prelude.{is_some}
use Rattle.std.specs.List.{AllByRecursion}
use Rattle.std.specs.List.Sorted.{IsStrictlySortedBy}
use Rattle.std.specs.Map.{keys_of, lookup, set_value, remove_entry}
use Rattle.std.specs.BTreeMap.{is_at, insert_entry}
use Rattle.std.specs.Cmp.{IsTotalOrder}
use Rattle.std.specs.Ordering.{is_eq, match_ordering, ordering_reverse}
use Rattle.std.specs.declared.option.Option.{Option}
use Rattle.std.specs.declared.cmp.Ordering.{Ordering}
use Rattle.std.specs.declared.cmp.Ordering.TheVariants.{Less, Equal, Greater}
use Rattle.std.proofs.lemmas.Map.{keys-set_value, lookup-set_value, lookup-remove_entry}
use Rattle.std.proofs.lemmas.Map.Keys.{IsDistinct-from_sorted}
use Rattle.std.proofs.lemmas.Cmp.{eq_by_cmp_equiv}
use Rattle.name_index.specs.Chunks.{IsOrdered}
use Rattle.name_index.proofs.Entries.{all_turn, equal_from}
use Rattle.name_index.proofs.Changes.{lookup_none}

module _ {K X : Type 0} (cmp : K → K → Ordering) (P : K → Type 0) where
  all_insert : (es : List (K × X)) (k : K) (v : X) → AllByRecursion P (keys_of es) → P k → AllByRecursion P (keys_of (insert_entry cmp es k v))
  all_insert [] k v h p = (p, tt)
  all_insert (e ∷ es) k v h p = by (cmp k e.0) (all_insert es k v h.1 p)
    where
      by : (r : Ordering) → AllByRecursion P (keys_of (insert_entry cmp es k v)) → AllByRecursion P (keys_of (match_ordering r ((k, v) ∷ e ∷ es) ((e.0, v) ∷ es) (e ∷ insert_entry cmp es k v)))
      by Less rest = (p, h)
      by Equal rest = h
      by Greater rest = (h.0, rest)

  all_remove : (test : K → Bool) (es : List (K × X)) → AllByRecursion P (keys_of es) → AllByRecursion P (keys_of (remove_entry test es))
  all_remove test [] h = tt
  all_remove test (e ∷ es) h = by (test e.0) (all_remove test es h.1)
    where
      by : (b : Bool) → AllByRecursion P (keys_of (remove_entry test es)) → AllByRecursion P (keys_of (cond b es (e ∷ remove_entry test es)))
      by true rest = h.1
      by false rest = (h.0, rest)

-- a test for equality is the same both ways
swap : {K : Type 0} {cmp : K → K → Ordering} (o : IsTotalOrder cmp) (a b : K) → is_eq (cmp a b) ≡ is_eq (cmp b a)
swap {cmp = cmp} o a b = ap is_eq (o.antisymm a b) ∙ reversed (cmp b a)
  where
    reversed : (r : Ordering) → is_eq (ordering_reverse r) ≡ is_eq r
    reversed Less = refl
    reversed Equal = refl
    reversed Greater = refl

module _ {K X : Type 0} {cmp : K → K → Ordering} (o : IsTotalOrder cmp) where
  pub ordered_insert : (es : List (K × X)) (k : K) (v : X) → IsOrdered cmp es → IsOrdered cmp (insert_entry cmp es k v)
  unfolding IsStrictlySortedBy
  ordered_insert [] k v h = (tt, tt)
  ordered_insert (e ∷ es) k v h = by (cmp k e.0) refl (ordered_insert es k v h.1)
    where
      by : (r : Ordering) → cmp k e.0 ≡ r → IsStrictlySortedBy cmp (keys_of (insert_entry cmp es k v)) → IsStrictlySortedBy cmp (keys_of (match_ordering r ((k, v) ∷ e ∷ es) ((e.0, v) ∷ es) (e ∷ insert_entry cmp es k v)))
      by Less p rest = ((p, all_turn (λ b. cmp e.0 b ≡ Less) (λ b. cmp k b ≡ Less) (λ b l. o.trans k e.0 b p l) (keys_of es) h.0), h)
      by Equal p rest = h
      by Greater p rest = (all_insert cmp (λ b. cmp e.0 b ≡ Less) es k v h.0 (o.antisymm e.0 k ∙ ap ordering_reverse p), rest)

  pub lookup_insert : (es : List (K × X)) (k : K) (v : X) (q : K) → lookup (is_at (cmp q)) (insert_entry cmp es k v) ≡ cond (is_at (cmp k) q) (Some v) (lookup (is_at (cmp q)) es)
  lookup_insert [] k v q = ap (λ b. cond b (Some v) None) (swap o q k)
  lookup_insert (e ∷ es) k v q = by (cmp k e.0) refl (lookup_insert es k v q)
    where
      same : cmp k e.0 ≡ Equal → is_eq (cmp q e.0) ≡ is_eq (cmp k q)
      same p = swap o q e.0 ∙ ap is_eq (sym (o.congr k e.0 q p))

      apart : is_eq (cmp q e.0) ≡ true → cmp k e.0 ≡ Greater → is_eq (cmp k q) ≡ false
      apart p g = swap o k q ∙ ap is_eq (o.congr q e.0 k (equal (cmp q e.0) p) ∙ (o.antisymm e.0 k ∙ ap ordering_reverse g))
        where
          equal : (r : Ordering) → is_eq r ≡ true → r ≡ Equal
          equal Less h = absurd cc
          equal Equal h = refl
          equal Greater h = absurd cc

      twice : (b : Bool) (w : Option X) → cond b (Some v) w ≡ cond b (Some v) (cond b (Some e.1) w)
      twice true w = refl
      twice false w = refl

      by : (r : Ordering) → cmp k e.0 ≡ r → lookup (is_at (cmp q)) (insert_entry cmp es k v) ≡ cond (is_at (cmp k) q) (Some v) (lookup (is_at (cmp q)) es)
          → lookup (is_at (cmp q)) (match_ordering r ((k, v) ∷ e ∷ es) ((e.0, v) ∷ es) (e ∷ insert_entry cmp es k v)) ≡ cond (is_eq (cmp k q)) (Some v) (cond (is_eq (cmp q e.0)) (Some e.1) (lookup (is_at (cmp q)) es))
      by Less p rest = ap (λ b. cond b (Some v) (lookup (is_at (cmp q)) (e ∷ es))) (swap o q k)
      by Equal p rest = ap (λ b. cond b (Some v) (lookup (is_at (cmp q)) es)) (same p) ∙ twice (is_eq (cmp k q)) (lookup (is_at (cmp q)) es) ∙ ap (λ b. cond (is_eq (cmp k q)) (Some v) (cond b (Some e.1) (lookup (is_at (cmp q)) es))) (sym (same p))
      by Greater p rest = here (is_eq (cmp q e.0)) refl
        where
          here : (b : Bool) → is_eq (cmp q e.0) ≡ b → cond b (Some e.1) (lookup (is_at (cmp q)) (insert_entry cmp es k v)) ≡ cond (is_eq (cmp k q)) (Some v) (cond b (Some e.1) (lookup (is_at (cmp q)) es))
          here true h = ap (λ b. cond b (Some v) (Some e.1)) (sym (apart h p))
          here false h = rest

module _ {K X : Type 0} (cmp : K → K → Ordering) where
  pub ordered_remove : (test : K → Bool) (es : List (K × X)) → IsOrdered cmp es → IsOrdered cmp (remove_entry test es)
  unfolding IsStrictlySortedBy
  ordered_remove test [] h = tt
  ordered_remove test (e ∷ es) h = by (test e.0) (ordered_remove test es h.1)
    where
      by : (b : Bool) → IsStrictlySortedBy cmp (keys_of (remove_entry test es)) → IsStrictlySortedBy cmp (keys_of (cond b es (e ∷ remove_entry test es)))
      by true rest = h.1
      by false rest = (all_remove cmp (λ b. cmp e.0 b ≡ Less) test es h.0, rest)

  pub ordered_set : (test : K → Bool) (es : List (K × X)) (v : X) → IsOrdered cmp es → IsOrdered cmp (set_value test es v)
  ordered_set test es v h = subst (IsStrictlySortedBy cmp) (sym (keys-set_value test es v)) h

module _ {K X : Type 0} (test : K → Bool) where
  pub remove_absent : (es : List (K × X)) → lookup test es ≡ None → remove_entry test es ≡ es
  remove_absent [] h = refl
  remove_absent (e ∷ es) h = by (test e.0) h (remove_absent es)
    where
      by : (b : Bool) → cond b (Some e.1) (lookup test es) ≡ None → (lookup test es ≡ None → remove_entry test es ≡ es) → cond b es (e ∷ remove_entry test es) ≡ e ∷ es
      by true p rest = absurd cc
      by false p rest = ap (λ fs. e ∷ fs) (rest p)

  pub several : (es : List (K × X)) (v : X) → lookup test es ≡ Some v → (length es ≡ 1 → ⊥) → 1 < length es
  several [] v h not = absurd cc
  several (e ∷ es) v h not = omega (arith, not)

  pub length_remove : (es : List (K × X)) → length (remove_entry test es) + cond (is_some (lookup test es)) 1 0 ≡ length es
  length_remove [] = refl
  length_remove (e ∷ es) = by (test e.0) (length_remove es)
    where
      by : (b : Bool) → length (remove_entry test es) + cond (is_some (lookup test es)) 1 0 ≡ length es
          → length (cond b es (e ∷ remove_entry test es)) + cond (is_some (cond b (Some e.1) (lookup test es))) 1 0 ≡ length (e ∷ es)
      by true rest = omega arith
      by false rest = omega (arith, rest)

pub length_insert : {K X : Type 0} {cmp : K → K → Ordering} (o : IsTotalOrder cmp) (es : List (K × X)) (k : K) (v : X) → IsOrdered cmp es → length (insert_entry cmp es k v) ≡ length es + cond (is_some (lookup (is_at (cmp k)) es)) 0 1
unfolding IsStrictlySortedBy
length_insert o [] k v h = refl
length_insert {X = X} {cmp = cmp} o (e ∷ es) k v h = by (cmp k e.0) refl (length_insert o es k v h.1)
  where
    by : (r : Ordering) → cmp k e.0 ≡ r → length (insert_entry cmp es k v) ≡ length es + cond (is_some (lookup (is_at (cmp k)) es)) 0 1
        → length (match_ordering r ((k, v) ∷ e ∷ es) ((e.0, v) ∷ es) (e ∷ insert_entry cmp es k v)) ≡ length (e ∷ es) + cond (is_some (cond (is_eq r) (Some e.1) (lookup (is_at (cmp k)) es))) 0 1
    by Less p rest =
        let none : lookup (is_at (cmp k)) es ≡ None = lookup_none cmp k es (all_turn (λ b. cmp e.0 b ≡ Less) (λ b. cmp k b ≡ Less) (λ b l. o.trans k e.0 b p l) (keys_of es) h.0) in
        rw none (omega arith)
    by Equal p rest = omega arith
    by Greater p rest = omega (arith, rest)

-- another value at a key that is there
pub lookup_set : {K X : Type 0} {cmp : K → K → Ordering} (o : IsTotalOrder cmp) (es : List (K × X)) (k q : K) (v : X) → IsSome (lookup (is_at (cmp k)) es) → lookup (is_at (cmp q)) (set_value (is_at (cmp k)) es v) ≡ cond (is_at (cmp k) q) (Some v) (lookup (is_at (cmp q)) es)
lookup_set {cmp = cmp} o es k q v some = lookup-set_value (eq_by_cmp_equiv o) (is_at (cmp k)) (λ x y e. ap is_eq (o.congr k x y (equal_from (cmp k x) e))) q v es some

-- what a removed key leaves
pub lookup_removed : {K X : Type 0} {cmp : K → K → Ordering} (o : IsTotalOrder cmp) (es : List (K × X)) (k q : K) → IsOrdered cmp es → lookup (is_at (cmp q)) (remove_entry (is_at (cmp k)) es) ≡ cond (is_at (cmp k) q) None (lookup (is_at (cmp q)) es)
lookup_removed {cmp = cmp} o es k q h = lookup-remove_entry (eq_by_cmp_equiv o) (is_at (cmp k)) (λ x y e. ap is_eq (o.congr k x y (equal_from (cmp k x) e))) q es (IsDistinct-from_sorted cmp (keys_of es) h)

-- how many are counted
pub one_more : {X : Type 0} (old : Option X) (none : Bool) (n : ℕ) → is_some old ≡ not none → n ≡ (if none then 1 else 0) → n ≡ cond (is_some old) 0 1
one_more old true n e h = h ∙ ap (λ b. cond b 0 1) (sym e)
one_more old false n e h = h ∙ ap (λ b. cond b 0 1) (sym e)

pub one_less : {X : Type 0} (old : Option X) (some : Bool) (n : ℕ) → some ≡ is_some old → n ≡ (if some then 1 else 0) → n ≡ cond (is_some old) 1 0
one_less old true n e h = h ∙ ap (λ b. cond b 1 0) e
one_less old false n e h = h ∙ ap (λ b. cond b 1 0) e
