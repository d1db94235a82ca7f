-- The requests of a table, and those that count.
use Rattle.std.proofs.Common.{◌≡◌, ℕ, ◌≤◌, Bool, true, false, not, cond, List, [], ◌∷◌, length, map, None, Some, refl, sym, ap, subst, ◌∙◌, arith, if◌then◌else◌}
use Rattle.std.specs.Prelude.{filter}
use Rattle.std.specs.declared.option.Option.{Option}
use Rattle.std.specs.declared.cmp.Ordering.{Ordering}
use Rattle.std.specs.declared.cmp.Ordering.TheVariants.{Less, Equal, Greater}
use Rattle.std.specs.Ordering.{is_eq, is_lt}
use Rattle.std.specs.Option.{option_map}
use Rattle.std.specs.List.{AllByRecursion}
use Rattle.std.proofs.lemmas.Map.Keys.{sorted_head, sorted_tail}
use Rattle.element_name.specs.Name.{Name, name_eq, name_lt, are_distinct}
use Rattle.element_name.specs.Named.{name_cmp, put_named}
use Rattle.element_name.proofs.NameOrder.{name_cmp_total, is_eq-name_cmp, is_lt-name_cmp, name_eq-comm, same_name}
use Rattle.coop_request.specs.Request.{Request}
use Rattle.coop_request.specs.History.{request_of}
use Rattle.elem_show.specs.Counting.{including, except}
use Rattle.elem_show.proofs.Cells.{once-cons}
use Rattle.request_state.specs.declared.state.State.{State}
use Rattle.request_state.specs.declared.state.State.TheVariants.{Tentative, Invalid}
use Rattle.request_state.specs.declared.kept.Kept.{Kept}
use Rattle.request_state.specs.State.{is_invalid}
use Rattle.request_state.specs.Table.{name_of, kept_of, kept_request, kept_state, with_state, requests_kept, counted_of}
use Rattle.request_state.proofs.Finding.{IsTable}
use Rattle.request_state.proofs.Changes.{set_below}

-- each name of the table is greater
abbrev pub AreAbove : Name → List Kept → Type 0
AreAbove n table = AllByRecursion (λ m. name_cmp n m ≡ Less) (map name_of table)

none_above : (n : Name) (table : List Kept) → AreAbove n table → kept_of table n ≡ None
none_above n [] all = refl
none_above n (k ∷ table) all =
    ap (λ (b : Bool). if b then Some k else kept_of table n) (name_eq-comm k.request.id n ∙ sym (is_eq-name_cmp n k.request.id) ∙ ap is_eq all.0) ∙ none_above n table all.1

-- ---- its requests

pub requests_found : (table : List Kept) (n : Name) → request_of (requests_kept table) n ≡ kept_request table n
requests_found [] n = refl
requests_found (k ∷ table) n = by (name_eq k.request.id n) (requests_found table n)
  where
    by : (b : Bool) → request_of (requests_kept table) n ≡ option_map (λ (x : Kept). x.request) (kept_of table n)
        → (if b then Some k.request else request_of (requests_kept table) n) ≡ option_map (λ (x : Kept). x.request) (if b then Some k else kept_of table n)
    by true rest = refl
    by false rest = rest

pub requests_once : (table : List Kept) → IsTable table → are_distinct (map (λ (q : Request). q.id) (requests_kept table)) ≡ true
requests_once [] sorted = refl
requests_once (k ∷ table) sorted =
    once-cons k.request (requests_kept table) (requests_once table (sorted_tail name_cmp k.request.id (map name_of table) sorted))
    (requests_found table k.request.id ∙ ap (option_map (λ (x : Kept). x.request)) (none_above k.request.id table (sorted_head name_cmp k.request.id (map name_of table) sorted)))

pub requests-put : (k : Kept) (table : List Kept) → requests_kept (put_named name_of k table) ≡ including k.request (requests_kept table)
requests-put k [] = refl
requests-put k (x ∷ table) = by (name_lt k.request.id x.request.id) (requests-put k table)
  where
    by : (b : Bool) → requests_kept (put_named name_of k table) ≡ including k.request (requests_kept table)
        → requests_kept (if b then k ∷ x ∷ table else x ∷ put_named name_of k table) ≡ (if b then k.request ∷ x.request ∷ requests_kept table else x.request ∷ including k.request (requests_kept table))
    by true rest = refl
    by false rest = ap (λ (qs : List Request). x.request ∷ qs) rest

pub requests-set : (table : List Kept) (n : Name) (state : State) → requests_kept (with_state table n state) ≡ requests_kept table
requests-set [] n state = refl
requests-set (k ∷ table) n state = by (name_eq k.request.id n) (requests-set table n state)
  where
    by : (b : Bool) → requests_kept (with_state table n state) ≡ requests_kept table
        → ((if b then record { request = k.request; state = state } else k).request ∷ requests_kept (with_state table n state)) ≡ k.request ∷ requests_kept table
    by true rest = ap (λ (qs : List Request). k.request ∷ qs) rest
    by false rest = ap (λ (qs : List Request). k.request ∷ qs) rest

-- ---- those that count

pub counted_absent : (table : List Kept) (n : Name) → kept_of table n ≡ None → request_of (counted_of table) n ≡ None
counted_absent [] n absent = refl
counted_absent (k ∷ table) n absent = by (name_eq k.request.id n) refl (is_invalid k.state) absent (counted_absent table n)
  where
    by : (same : Bool) → name_eq k.request.id n ≡ same → (denied : Bool) → (if same then Some k else kept_of table n) ≡ None
        → (kept_of table n ≡ None → request_of (counted_of table) n ≡ None)
        → request_of (map (λ (x : Kept). x.request) (cond (not denied) (k ∷ filter (λ x. not (is_invalid x.state)) table) (filter (λ x. not (is_invalid x.state)) table))) n ≡ None
    by true same denied a rest = absurd cc
    by false apart true a rest = rest a
    by false apart false a rest = rw apart (rest a)

pub counted_once : (table : List Kept) → IsTable table → are_distinct (map (λ (q : Request). q.id) (counted_of table)) ≡ true
counted_once [] sorted = refl
counted_once (k ∷ table) sorted = by (is_invalid k.state) (counted_once table (sorted_tail name_cmp k.request.id (map name_of table) sorted))
  where
    by : (denied : Bool) → are_distinct (map (λ (q : Request). q.id) (counted_of table)) ≡ true
        → are_distinct (map (λ (q : Request). q.id) (map (λ (x : Kept). x.request) (cond (not denied) (k ∷ filter (λ x. not (is_invalid x.state)) table) (filter (λ x. not (is_invalid x.state)) table)))) ≡ true
    by true rest = rest
    by false rest = once-cons k.request (counted_of table) rest (counted_absent table k.request.id (none_above k.request.id table (sorted_head name_cmp k.request.id (map name_of table) sorted)))

pub few_counted : (table : List Kept) → length (counted_of table) ≤ length table
few_counted [] = omega arith
few_counted (k ∷ table) = by (is_invalid k.state) (few_counted table)
  where
    by : (denied : Bool) → length (counted_of table) ≤ length table
        → length (map (λ (x : Kept). x.request) (cond (not denied) (k ∷ filter (λ x. not (is_invalid x.state)) table) (filter (λ x. not (is_invalid x.state)) table))) ≤ length (k ∷ table)
    by true rest = omega (arith, rest)
    by false rest = omega (arith, rest)

-- a Tentative request counts
pub tentative_counts : (q : Request) (table : List Kept) → kept_of table q.id ≡ Some (record { request = q; state = Tentative }) → request_of (counted_of table) q.id ≡ Some q
tentative_counts q [] there = absurd cc
tentative_counts q (k ∷ table) there = by (name_eq k.request.id q.id) refl (is_invalid k.state) refl there (tentative_counts q table)
  where
    by : (same : Bool) → name_eq k.request.id q.id ≡ same → (denied : Bool) → is_invalid k.state ≡ denied
        → cond same (Some k) (kept_of table q.id) ≡ Some (record { request = q; state = Tentative })
        → (kept_of table q.id ≡ Some (record { request = q; state = Tentative }) → request_of (counted_of table) q.id ≡ Some q)
        → request_of (map (λ (x : Kept). x.request) (cond (not denied) (k ∷ filter (λ x. not (is_invalid x.state)) table) (filter (λ x. not (is_invalid x.state)) table))) q.id ≡ Some q
    by true same true denied there rest =
        let found : k ≡ record { request = q; state = Tentative } = cc in
        let counts : is_invalid k.state ≡ false = ap (λ x. is_invalid x.state) found in
        absurd cc
    by true same false counts there rest =
        let found : k ≡ record { request = q; state = Tentative } = cc in
        rw same (ap (λ x. Some x.request) found)
    by false apart true denied there rest = rest there
    by false apart false counts there rest = rw apart (rest there)

-- once it is Invalid, it counts no more
pub counted_without : (table : List Kept) (n : Name) (at : ℕ) (a : Option ℕ) → counted_of (with_state table n (Invalid at a)) ≡ except (counted_of table) n
counted_without [] n at a = refl
counted_without (k ∷ table) n at a = by (name_eq k.request.id n) refl (is_invalid k.state) refl (counted_without table n at a)
  where
    by : (same : Bool) → name_eq k.request.id n ≡ same → (denied : Bool) → is_invalid k.state ≡ denied
        → counted_of (with_state table n (Invalid at a)) ≡ except (counted_of table) n
        → counted_of (cond same (record { request = k.request; state = Invalid at a }) k ∷ with_state table n (Invalid at a))
        ≡ except (map (λ (x : Kept). x.request) (cond (not denied) (k ∷ filter (λ x. not (is_invalid x.state)) table) (filter (λ x. not (is_invalid x.state)) table))) n
    by true same true denied rest = rest
    by true same false counts rest = rw same rest
    by false apart true denied rest = rw denied rest
    by false apart false counts rest = rw (counts, apart) (ap (λ qs. k.request ∷ qs) rest)

-- where it is Valid then, it counts as before
pub counted_set : (n : Name) (state : State) (table : List Kept) → is_invalid state ≡ false → IsTable table → kept_state table n ≡ Some Tentative → counted_of (with_state table n state) ≡ counted_of table
counted_set n state [] counts sorted has = absurd cc
counted_set n state (k ∷ table) counts sorted has = by (name_eq k.request.id n) refl has (counted_set n state table counts (sorted_tail name_cmp k.request.id (map name_of table) sorted))
  where
    by : (b : Bool) → name_eq k.request.id n ≡ b → option_map (λ (x : Kept). x.state) (if b then Some k else kept_of table n) ≡ Some Tentative
        → (kept_state table n ≡ Some Tentative → counted_of (with_state table n state) ≡ counted_of table)
        → counted_of ((if b then record { request = k.request; state = state } else k) ∷ with_state table n state) ≡ counted_of (k ∷ table)
    by true e a rest =
        let same : k.state ≡ Tentative = cc in
        let was : is_invalid k.state ≡ false = ap is_invalid same in
        let below = sorted_head name_cmp k.request.id (map name_of table) sorted in
        let tail : with_state table n state ≡ table = subst (λ (m : Name). with_state table m state ≡ table) (same_name k.request.id n e) (set_below k.request.id state table below) in
        rw (tail, counts, was) refl
    by false e a rest = by_state (is_invalid k.state) (rest a)
      where
        by_state : (denied : Bool) → counted_of (with_state table n state) ≡ counted_of table
            → map (λ (x : Kept). x.request) (cond (not denied) (k ∷ filter (λ x. not (is_invalid x.state)) (with_state table n state)) (filter (λ x. not (is_invalid x.state)) (with_state table n state)))
            ≡ map (λ (x : Kept). x.request) (cond (not denied) (k ∷ filter (λ x. not (is_invalid x.state)) table) (filter (λ x. not (is_invalid x.state)) table))
        by_state true h = h
        by_state false h = ap (λ (qs : List Request). k.request ∷ qs) h

-- a request below all others comes first
counted_first : (q : Request) (table : List Kept) → AreAbove q.id table → including q (counted_of table) ≡ q ∷ counted_of table
counted_first q [] all = refl
counted_first q (k ∷ table) all = by (is_invalid k.state) (counted_first q table all.1)
  where
    less : name_lt q.id k.request.id ≡ true
    less = sym (is_lt-name_cmp q.id k.request.id) ∙ ap is_lt all.0

    by : (denied : Bool) → including q (counted_of table) ≡ q ∷ counted_of table
        → including q (map (λ (x : Kept). x.request) (cond (not denied) (k ∷ filter (λ x. not (is_invalid x.state)) table) (filter (λ x. not (is_invalid x.state)) table)))
        ≡ q ∷ map (λ (x : Kept). x.request) (cond (not denied) (k ∷ filter (λ x. not (is_invalid x.state)) table) (filter (λ x. not (is_invalid x.state)) table))
    by true rest = rest
    by false rest = rw less refl

compared_less : (a b : Name) → name_lt a b ≡ true → name_cmp a b ≡ Less
compared_less a b h = by (name_cmp a b) (is_lt-name_cmp a b ∙ h)
  where
    by : (r : Ordering) → is_lt r ≡ true → r ≡ Less
    by Less k = refl
    by Equal k = absurd cc
    by Greater k = absurd cc

above_less : (n m : Name) (names : List Name) → name_cmp n m ≡ Less → AllByRecursion (λ x. name_cmp m x ≡ Less) names → AllByRecursion (λ x. name_cmp n x ≡ Less) names
above_less n m [] less all = tt
above_less n m (x ∷ names) less all = (name_cmp_total.trans n m x less all.0, above_less n m names less all.1)

-- one more of them, unless its state is Invalid
pub counted-put : (k : Kept) (table : List Kept) → IsTable table → counted_of (put_named name_of k table) ≡ (if is_invalid k.state then counted_of table else including k.request (counted_of table))
counted-put k [] sorted = by (is_invalid k.state)
  where
    by : (b : Bool) → map (λ (x : Kept). x.request) (cond (not b) (k ∷ []) []) ≡ (if b then [] else k.request ∷ [])
    by true = refl
    by false = refl
counted-put k (x ∷ table) sorted = by (name_lt k.request.id x.request.id) refl (counted-put k table (sorted_tail name_cmp x.request.id (map name_of table) sorted))
  where
    below : AreAbove x.request.id table
    below = sorted_head name_cmp x.request.id (map name_of table) sorted

    first : AreAbove k.request.id (x ∷ table) → (b : Bool)
        → map (λ (y : Kept). y.request) (cond (not b) (k ∷ filter (λ y. not (is_invalid y.state)) (x ∷ table)) (filter (λ y. not (is_invalid y.state)) (x ∷ table)))
        ≡ (if b then counted_of (x ∷ table) else including k.request (counted_of (x ∷ table)))
    first above true = refl
    first above false = sym (counted_first k.request (x ∷ table) above)

    behind : (denied : Bool) → name_lt k.request.id x.request.id ≡ false → (b : Bool) → counted_of (put_named name_of k table) ≡ (if b then counted_of table else including k.request (counted_of table))
        → map (λ (y : Kept). y.request) (cond (not denied) (x ∷ filter (λ y. not (is_invalid y.state)) (put_named name_of k table)) (filter (λ y. not (is_invalid y.state)) (put_named name_of k table)))
        ≡ (if b then map (λ (y : Kept). y.request) (cond (not denied) (x ∷ filter (λ y. not (is_invalid y.state)) table) (filter (λ y. not (is_invalid y.state)) table))
        else including k.request (map (λ (y : Kept). y.request) (cond (not denied) (x ∷ filter (λ y. not (is_invalid y.state)) table) (filter (λ y. not (is_invalid y.state)) table))))
    behind true e true h = h
    behind true e false h = h
    behind false e true h = ap (λ (qs : List Request). x.request ∷ qs) h
    behind false e false h = rw e (ap (λ (qs : List Request). x.request ∷ qs) h)

    by : (b : Bool) → name_lt k.request.id x.request.id ≡ b → counted_of (put_named name_of k table) ≡ (if is_invalid k.state then counted_of table else including k.request (counted_of table))
        → counted_of (if b then k ∷ x ∷ table else x ∷ put_named name_of k table) ≡ (if is_invalid k.state then counted_of (x ∷ table) else including k.request (counted_of (x ∷ table)))
    by true e rest =
        let less = compared_less k.request.id x.request.id e in
        first (less, above_less k.request.id x.request.id (map name_of table) less below) (is_invalid k.state)
    by false e rest = behind (is_invalid x.state) e (is_invalid k.state) rest
