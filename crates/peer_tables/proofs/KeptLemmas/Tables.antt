-- A table of states in which each request of a list has its state.
use Rattle.std.proofs.Common.{rules, ◌≡◌, ◌+◌, inl, inr, Bool, true, false, not, cond, ◌&&◌, List, [], ◌∷◌, map, None, Some, refl, sym, ap, subst, ◌∙◌, arith}
use Rattle.std.specs.Prelude.{filter, count_by, option_map, option_and_then, if◌then◌else◌}
use Rattle.std.specs.declared.option.Option.{Option}
use Rattle.std.specs.List.{list_all, AllByRecursion}
use Rattle.std.proofs.lemmas.Bool.{and_from}
use Rattle.element_name.specs.Cases.{when}
use Rattle.element_name.specs.Name.{Name, name_eq, name_lt}
use Rattle.element_name.proofs.NameOrder.{name_eq-refl, name_eq-comm, name_lt-apart, same_name}
use Rattle.coop_request.specs.Request.{Request}
use Rattle.coop_request.specs.History.{request_of}
use Rattle.request_state.specs.declared.kept.Kept.{Kept}
use Rattle.request_state.specs.declared.state.State.{State}
use Rattle.request_state.specs.State.{is_invalid}
use Rattle.request_state.specs.Table.{kept_of, is_in_order, requests_kept, counted_of}
use Rattle.check_remote.specs.State.{is_granted, state_of}
use Rattle.policy_book.specs.Entry.{Entry}
use Rattle.retro_undo.proofs.Parts.{count_cons}
use Rattle.retro_undo.proofs.Found.{IsAbove, first_below, rest_in_order}
use Rattle.tomb_seq.proofs.Has.{Has}
use Rattle.elem_show.proofs.Cells.{once-cons, together-set}
use Rattle.peer_tables.proofs.SameSetLemmas.{IsOnce, AreAlike, found_has}

-- ---- what stands in a list

module _ {X : Type 0} where
  pub all_has : (test : X → Bool) (xs : List X) → ((x : X) → Has xs x → test x ≡ true) → list_all test xs ≡ true
  all_has test [] h = refl
  all_has test (x ∷ xs) h = and_from (test x) (list_all test xs) (h x (inl refl)) (all_has test xs (λ y k. h y (inr k)))

  pub filter_has : (p q : X → Bool) (xs : List X) → ((x : X) → Has xs x → p x ≡ q x) → filter p xs ≡ filter q xs
  filter_has p q [] h = refl
  filter_has p q (x ∷ xs) h =
      ap (λ b. if b then x ∷ filter p xs else filter p xs) (h x (inl refl))
      ∙ ap (λ (ys : List X). if q x then x ∷ ys else ys) (filter_has p q xs (λ y k. h y (inr k)))

  pub count_has : (p q : X → Bool) (xs : List X) → ((x : X) → Has xs x → p x ≡ q x) → count_by p xs ≡ count_by q xs
  count_has p q [] h = refl
  count_has p q (x ∷ xs) h =
      count_cons p x xs
      ∙ ap (λ b. cond b 1 0 + count_by p xs) (h x (inl refl))
      ∙ ap (λ n. cond (q x) 1 0 + n) (count_has p q xs (λ y k. h y (inr k)))
      ∙ sym (count_cons q x xs)

  pub count_none : (p : X → Bool) (xs : List X) (x : X) → count_by p xs ≡ 0 → Has xs x → p x ≡ false
  count_none p [] x h there = absurd there
  count_none p (y ∷ ys) x h there = by (p y) refl (sym (count_cons p y ys) ∙ h) there (count_none p ys x)
    where
      by : (b : Bool) → p y ≡ b → cond b 1 0 + count_by p ys ≡ 0 → Has (y ∷ ys) x → (count_by p ys ≡ 0 → Has ys x → p x ≡ false) → p x ≡ false
      by true e n k rest = absurd (omega arith)
      by false e n (inl same) rest = subst (λ (z : X). p z ≡ false) same e
      by false e n (inr k) rest = rest (omega (arith, n)) k

  pub all_at : (P : X → Type 0) (xs : List X) (x : X) → AllByRecursion P xs → Has xs x → P x
  all_at P [] x all h = absurd h
  all_at P (y ∷ ys) x all (inl p) = subst P p all.0
  all_at P (y ∷ ys) x all (inr h) = all_at P ys x all.1 h

-- the granted requests are those that aren't Invalid
pub granted_valid : (names : List Name) (L : List Entry) (q : Request) → is_granted names L q ≡ not (is_invalid (state_of names L q))
granted_valid names L q = search rules

-- ---- alike lists of requests have as many that pass a test

pub count_alike : (test : Request → Bool) (xs ys : List Request) → IsOnce xs → IsOnce ys → AreAlike xs ys → count_by test xs ≡ count_by test ys
count_alike test xs ys once_x once_y alike =
    together-set (count_by test) (λ q n. cond (test q) 1 0 + n) (count_cons test) (λ q r n apart. omega arith) xs ys once_x once_y alike

-- ---- tables in order

none_above : (n : Name) (table : List Kept) → AllByRecursion (IsAbove n) table → kept_of table n ≡ None
none_above n [] all = refl
none_above n (k ∷ table) all =
    ap (λ b. if b then Some k else kept_of table n) (name_eq-comm k.request.id n ∙ name_lt-apart n k.request.id all.0) ∙ none_above n table all.1

kept_found : (table : List Kept) (k : Kept) → is_in_order table ≡ true → Has table k → kept_of table k.request.id ≡ Some k
kept_found [] k order h = absurd h
kept_found (x ∷ table) k order (inl p) = subst (λ (y : Kept). kept_of (x ∷ table) y.request.id ≡ Some y) p (rw (name_eq-refl x.request.id) refl)
kept_found (x ∷ table) k order (inr h) =
    let above : name_lt x.request.id k.request.id ≡ true = all_at (IsAbove x.request.id) table k (first_below x table order) h in
    let apart : name_eq x.request.id k.request.id ≡ false = name_lt-apart x.request.id k.request.id above in
    rw apart (kept_found table k (rest_in_order x table order) h)

-- what counts of a request
abbrev pub counts_by : Kept → Option Request
counts_by k = when (not (is_invalid k.state)) k.request

pub counted_found : (table : List Kept) (n : Name) → is_in_order table ≡ true → request_of (counted_of table) n ≡ option_and_then counts_by (kept_of table n)
counted_found [] n order = refl
counted_found (k ∷ table) n order = by (name_eq k.request.id n) refl (is_invalid k.state) refl (counted_found table n (rest_in_order k table order))
  where
    by : (same : Bool) → name_eq k.request.id n ≡ same → (denied : Bool) → is_invalid k.state ≡ denied
        → request_of (counted_of table) n ≡ option_and_then counts_by (kept_of table n)
        → request_of (map (λ (x : Kept). x.request) (if not denied then k ∷ filter (λ x. not (is_invalid x.state)) table else filter (λ x. not (is_invalid x.state)) table)) n
        ≡ option_and_then counts_by (if same then Some k else kept_of table n)
    by true same true denied rest =
        let none : kept_of table n ≡ None = subst (λ (m : Name). kept_of table m ≡ None) (same_name k.request.id n same) (none_above k.request.id table (first_below k table order)) in
        rw denied (rest ∙ ap (option_and_then counts_by) none)
    by true same false counts rest = rw (counts, same) refl
    by false apart true denied rest = rest
    by false apart false counts rest = rw apart rest

pub counted_once : (table : List Kept) → is_in_order table ≡ true → IsOnce (counted_of table)
counted_once [] order = refl
counted_once (k ∷ table) order = by (is_invalid k.state) (counted_once table (rest_in_order k table order))
  where
    by : (denied : Bool) → IsOnce (counted_of table)
        → IsOnce (map (λ (x : Kept). x.request) (if not denied then k ∷ filter (λ x. not (is_invalid x.state)) table else filter (λ x. not (is_invalid x.state)) table))
    by true rest = rest
    by false rest =
        once-cons k.request (counted_of table) rest
        (counted_found table k.request.id (rest_in_order k table order) ∙ ap (option_and_then counts_by) (none_above k.request.id table (first_below k table order)))

-- its requests are found as they are kept
requests_found : (table : List Kept) (n : Name) → request_of (requests_kept table) n ≡ option_map (λ k. k.request) (kept_of table n)
requests_found [] n = refl
requests_found (k ∷ table) n = by (name_eq k.request.id n) (requests_found table n)
  where
    by : (b : Bool) → request_of (requests_kept table) n ≡ option_map (λ (x : Kept). x.request) (kept_of table n)
        → (if b then Some k.request else request_of (requests_kept table) n) ≡ option_map (λ (x : Kept). x.request) (if b then Some k else kept_of table n)
    by true rest = refl
    by false rest = rest

pub requests_once : (table : List Kept) → is_in_order table ≡ true → IsOnce (requests_kept table)
requests_once [] order = refl
requests_once (k ∷ table) order =
    once-cons k.request (requests_kept table) (requests_once table (rest_in_order k table order))
    (requests_found table k.request.id ∙ ap (option_map (λ (x : Kept). x.request)) (none_above k.request.id table (first_below k table order)))

pub count_requests : (test : Kept → Bool) (other : Request → Bool) (table : List Kept) → ((k : Kept) → Has table k → test k ≡ other k.request)
    → count_by test table ≡ count_by other (requests_kept table)
count_requests test other [] h = refl
count_requests test other (k ∷ table) h =
    count_cons test k table
    ∙ ap (λ b. cond b 1 0 + count_by test table) (h k (inl refl))
    ∙ ap (λ n. cond (other k.request) 1 0 + n) (count_requests test other table (λ x there. h x (inr there)))
    ∙ sym (count_cons other k.request (requests_kept table))

-- ---- a table of the requests R with the states f

-- a request with its state
abbrev pub kept_by : (Request → State) → Request → Kept
kept_by f q = record { request = q; state = f q }

-- the table has these requests, each with its state
abbrev pub IsBy : (Request → State) → List Request → List Kept → Type 0
IsBy f R table = (n : Name) → kept_of table n ≡ option_map (kept_by f) (request_of R n)

-- what it has of a request
pub record Stands (f : Request → State) (R : List Request) (k : Kept) : Type 0 where
  pub found : request_of R k.request.id ≡ Some k.request
  pub state : k.state ≡ f k.request

pub stands : (f : Request → State) (R : List Request) (table : List Kept) (k : Kept) → is_in_order table ≡ true → IsBy f R table → Has table k → Stands f R k
stands f R table k order is h = by (request_of R k.request.id) refl (sym (is k.request.id) ∙ kept_found table k order h)
  where
    by : (o : Option Request) → request_of R k.request.id ≡ o → option_map (kept_by f) o ≡ Some k → Stands f R k
    by None e g = absurd cc
    by (Some q) e g =
        let same : kept_by f q ≡ k = cc in
        let own : q ≡ k.request = ap (λ (x : Kept). x.request) same in
        record { found = e ∙ ap (λ (r : Request). Some r) own; state = sym (ap (λ (x : Kept). x.state) same) ∙ ap f own }

pub requests_alike : (f : Request → State) (R : List Request) (table : List Kept) → IsBy f R table → AreAlike (requests_kept table) R
requests_alike f R table is n = requests_found table n ∙ ap (option_map (λ (k : Kept). k.request)) (is n) ∙ each (request_of R n)
  where
    each : (o : Option Request) → option_map (λ (k : Kept). k.request) (option_map (kept_by f) o) ≡ o
    each None = refl
    each (Some q) = refl

-- ---- a change of states

module _ (h : Kept → Kept) (same : (k : Kept) → (h k).request ≡ k.request) where
  kept_mapped : (table : List Kept) (n : Name) → kept_of (map h table) n ≡ option_map h (kept_of table n)
  kept_mapped [] n = refl
  kept_mapped (k ∷ table) n =
      ap (λ (q : Request). if name_eq q.id n then Some (h k) else kept_of (map h table) n) (same k) ∙ by (name_eq k.request.id n) (kept_mapped table n)
    where
      by : (b : Bool) → kept_of (map h table) n ≡ option_map h (kept_of table n)
          → (if b then Some (h k) else kept_of (map h table) n) ≡ option_map h (if b then Some k else kept_of table n)
      by true rest = refl
      by false rest = rest

  pub order_mapped : (table : List Kept) → is_in_order (map h table) ≡ is_in_order table
  order_mapped [] = refl
  order_mapped (x ∷ []) = refl
  order_mapped (x ∷ y ∷ table) =
      ap (λ (q : Request). name_lt q.id (h y).request.id && is_in_order (h y ∷ map h table)) (same x)
      ∙ ap (λ (q : Request). name_lt x.request.id q.id && is_in_order (h y ∷ map h table)) (same y)
      ∙ ap (λ b. name_lt x.request.id y.request.id && b) (order_mapped (y ∷ table))

  pub by_mapped : (f g : Request → State) (R : List Request) (table : List Kept) → IsBy f R table
      → ((q : Request) → Has R q → h (kept_by f q) ≡ kept_by g q) → IsBy g R (map h table)
  by_mapped f g R table is agree n = kept_mapped table n ∙ ap (option_map h) (is n) ∙ each (request_of R n) refl
    where
      each : (o : Option Request) → request_of R n ≡ o → option_map h (option_map (kept_by f) o) ≡ option_map (kept_by g) o
      each None e = refl
      each (Some q) e = ap (λ (k : Kept). Some k) (agree q (found_has R n q e))

pub by_same : (f g : Request → State) (R : List Request) (table : List Kept) → IsBy f R table → ((q : Request) → Has R q → f q ≡ g q) → IsBy g R table
by_same f g R table is agree n = is n ∙ each (request_of R n) refl
  where
    each : (o : Option Request) → request_of R n ≡ o → option_map (kept_by f) o ≡ option_map (kept_by g) o
    each None e = refl
    each (Some q) e = ap (λ (s : State). Some (record { request = q; state = s })) (agree q (found_has R n q e))
