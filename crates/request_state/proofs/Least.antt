-- The Tentative request that is found first has the least name.
use Rattle.std.proofs.Common.{◌≡◌, Bool, true, false, List, [], ◌∷◌, map, Some, None, refl, sym, subst, ◌∙◌, ap, if◌then◌else◌}
use Rattle.std.specs.Prelude.{find}
use Rattle.std.specs.Option.{option_map}
use Rattle.std.specs.List.{AllByRecursion}
use Rattle.std.specs.List.Sorted.{IsStrictlySortedBy}
use Rattle.std.specs.declared.option.Option.{Option}
use Rattle.std.specs.declared.cmp.Ordering.TheVariants.{Less}
use Rattle.std.specs.Ordering.{is_lt}
use Rattle.std.proofs.lemmas.Map.Keys.{sorted_head, sorted_tail}
use Rattle.std.proofs.lemmas.Bool.{and_parts}
use Rattle.element_name.specs.Name.{Name, name_eq, name_lt}
use Rattle.element_name.specs.Named.{name_cmp}
use Rattle.element_name.proofs.NameOrder.{is_lt-name_cmp, same_name, name_lt-irrefl, name_lt-asym, name_lt-trans}
use Rattle.request_state.specs.declared.kept.Kept.{Kept}
use Rattle.request_state.specs.declared.state.State.{State}
use Rattle.request_state.specs.declared.state.State.TheVariants.{Tentative, Valid, Invalid}
use Rattle.request_state.specs.State.{is_tentative}
use Rattle.request_state.specs.Table.{name_of, is_in_order, kept_of, kept_state}
use Rattle.request_state.specs.Laws.{IsLeastOrNone}
use Rattle.request_state.proofs.FirstPlace.{less_from}
use Rattle.request_state.proofs.Finding.{IsTable, is_next, kept_found}

-- names above the greater of two are above the lesser
above_lesser : (a b : Name) (names : List Name) → name_lt a b ≡ true → AllByRecursion (λ n. name_cmp b n ≡ Less) names → AllByRecursion (λ n. name_cmp a n ≡ Less) names
above_lesser a b [] lt h = tt
above_lesser a b (n ∷ names) lt h =
    let step : name_lt b n ≡ true = sym (is_lt-name_cmp b n) ∙ ap is_lt h.0 in
    (less_from _ (is_lt-name_cmp a n ∙ name_lt-trans a b n lt step), above_lesser a b names lt h.1)

-- ascending, as a fact of all
sorted_table : (table : List Kept) → is_in_order table ≡ true → IsTable table
unfolding IsStrictlySortedBy
sorted_table [] h = tt
sorted_table (x ∷ []) h = (tt, tt)
sorted_table (x ∷ y ∷ table) h =
    let parts = and_parts (name_lt x.request.id y.request.id) (is_in_order (y ∷ table)) h in
    let rest = sorted_table (y ∷ table) parts.1 in
    ((less_from _ (is_lt-name_cmp x.request.id y.request.id ∙ parts.0), above_lesser x.request.id y.request.id (map name_of table) parts.0 rest.0), rest)

-- a request that is found among those above a name
above_state : (m n : Name) (table : List Kept) (state : State) → AllByRecursion (λ k. name_cmp m k ≡ Less) (map name_of table) → kept_state table n ≡ Some state → name_lt m n ≡ true
above_state m n [] state above h = absurd cc
above_state m n (x ∷ table) state above h = by (name_eq x.request.id n) refl h (above_state m n table state above.1)
  where
    by : (here : Bool) → name_eq x.request.id n ≡ here → option_map (λ k. k.state) (if here then Some x else kept_of table n) ≡ Some state
        → (kept_state table n ≡ Some state → name_lt m n ≡ true) → name_lt m n ≡ true
    by true e h rest = subst (λ y. name_lt m y ≡ true) (same_name x.request.id n e) (sym (is_lt-name_cmp m x.request.id) ∙ ap is_lt above.0)
    by false e h rest = rest h

tentative_state : (s : State) → is_tentative s ≡ true → s ≡ Tentative
tentative_state Tentative h = refl
tentative_state (Valid at) h = absurd cc
tentative_state (Invalid at by) h = absurd cc

is_next_of : (test : Name → Bool) (k : Kept) (m : Name) → name_eq k.request.id m ≡ true → k.state ≡ Tentative → test m ≡ true → is_next test k ≡ true
is_next_of test k m e s t =
    let tested : test k.request.id ≡ true = subst (λ n. test n ≡ true) (sym (same_name k.request.id m e)) t in
    rw (s, tested) refl

none_passes : (test : Name → Bool) (table : List Kept) (m : Name) → find (is_next test) table ≡ None → kept_state table m ≡ Some Tentative → test m ≡ false
none_passes test [] m f s = absurd cc
none_passes test (x ∷ table) m f s = by (is_next test x) refl f (name_eq x.request.id m) refl s (none_passes test table m)
  where
    by : (found : Bool) → is_next test x ≡ found → (if found then Some x else find (is_next test) table) ≡ None
        → (here : Bool) → name_eq x.request.id m ≡ here → option_map (λ k. k.state) (if here then Some x else kept_of table m) ≡ Some Tentative
        → (find (is_next test) table ≡ None → kept_state table m ≡ Some Tentative → test m ≡ false) → test m ≡ false
    by true p f here e s rest = absurd cc
    by false p f false e s rest = rest f s
    by false p f true e s rest = tested (test m) refl
      where
        tested : (t : Bool) → test m ≡ t → t ≡ false
        tested false t = refl
        tested true t =
            let tentative : x.state ≡ Tentative = cc in
            let next = is_next_of test x m e tentative t in
            absurd (cc)

none_lesser : (test : Name → Bool) (table : List Kept) (k : Kept) (m : Name) → IsTable table → find (is_next test) table ≡ Some k
    → kept_state table m ≡ Some Tentative → test m ≡ true → name_lt m k.request.id ≡ false
none_lesser test [] k m sorted f s t = absurd cc
none_lesser test (x ∷ table) k m sorted f s t =
    by (is_next test x) refl f (name_eq x.request.id m) refl s (λ g r. none_lesser test table k m (sorted_tail name_cmp x.request.id (map name_of table) sorted) g r t)
  where
    by : (found : Bool) → is_next test x ≡ found → (if found then Some x else find (is_next test) table) ≡ Some k
        → (here : Bool) → name_eq x.request.id m ≡ here → option_map (λ k. k.state) (if here then Some x else kept_of table m) ≡ Some Tentative
        → (find (is_next test) table ≡ Some k → kept_state table m ≡ Some Tentative → name_lt m k.request.id ≡ false) → name_lt m k.request.id ≡ false
    by true p f true e s rest =
        let same : x ≡ k = cc in
        subst (λ y. name_lt m y.request.id ≡ false) same (subst (λ n. name_lt n x.request.id ≡ false) (same_name x.request.id m e) (name_lt-irrefl x.request.id))
    by true p f false e s rest =
        let same : x ≡ k = cc in
        let above = above_state x.request.id m table Tentative (sorted_head name_cmp x.request.id (map name_of table) sorted) s in
        subst (λ y. name_lt m y.request.id ≡ false) same (name_lt-asym x.request.id m above)
    by false p f true e s rest =
        let tentative : x.state ≡ Tentative = cc in
        let next = is_next_of test x m e tentative t in
        absurd (cc)
    by false p f false e s rest = rest f s

found_is_next : (test : Name → Bool) (table : List Kept) (k : Kept) → find (is_next test) table ≡ Some k → is_next test k ≡ true
found_is_next test [] k f = absurd cc
found_is_next test (x ∷ table) k f = by (is_next test x) refl f (found_is_next test table k)
  where
    by : (found : Bool) → is_next test x ≡ found → (if found then Some x else find (is_next test) table) ≡ Some k
        → (find (is_next test) table ≡ Some k → is_next test k ≡ true) → is_next test k ≡ true
    by true p f rest =
        let same : x ≡ k = cc in
        subst (λ y. is_next test y ≡ true) same p
    by false p f rest = rest f

-- what the search finds is the least
pub least_is_found : (test : Name → Bool) (table : List Kept) → is_in_order table ≡ true → IsLeastOrNone test table (option_map name_of (find (is_next test) table))
least_is_found test table h = by (find (is_next test) table) refl
  where
    by : (r : Option Kept) → find (is_next test) table ≡ r → IsLeastOrNone test table (option_map name_of r)
    by None e = λ m s. none_passes test table m e s
    by (Some k) e =
        let next = and_parts (is_tentative k.state) (test k.request.id) (found_is_next test table k e) in
        let kept = kept_found (is_next test) table k (sorted_table table h) e in
        record {
          tentative = rw kept (ap (λ s. Some s) (tentative_state k.state next.0));
          passes = next.1;
          least = λ m s t. none_lesser test table k m (sorted_table table h) e s t;
        }

-- its name is that of its request
pub found_request : (test : Name → Bool) (table : List Kept) → is_in_order table ≡ true
    → IsLeastOrNone test table (option_map (λ q. q.id) (option_map (λ k. k.request) (find (is_next test) table)))
found_request test table h = subst (IsLeastOrNone test table) (same (find (is_next test) table)) (least_is_found test table h)
  where
    same : (r : Option Kept) → option_map name_of r ≡ option_map (λ q. q.id) (option_map (λ k. k.request) r)
    same None = refl
    same (Some k) = refl
