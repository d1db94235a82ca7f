-- A walk along Tentative requests.
use Rattle.std.proofs.Common.{◌≡◌, ℕ, ◌+◌, ◌<◌, ◌≤◌, ⊎_elim, Bool, true, false, cond, ◌&&◌, ◌||◌, List, [], ◌∷◌, length, None, Some, refl, sym, ap, subst, ◌∙◌, arith}
use Rattle.std.specs.Prelude.{find, count_by, slice_get, take, ◌++◌, ◌==◌}
use Rattle.std.specs.Int.{from_bool}
use Rattle.std.specs.declared.option.Option.{Option}
use Rattle.std.specs.Option.{option_map}
use Rattle.std.specs.List.{list_any, AllByRecursion}
use Rattle.std.proofs.lemmas.Bool.Decides.{nat_tests}
use Rattle.std.proofs.lemmas.List.{take_more}
use Rattle.std.proofs.lemmas.Option.{slice_get_within, get_or_from_slice_get}
use Rattle.std.proofs.Math.Seq.{take-length}
use Rattle.std.proofs.lemmas.Bool.{and_parts}
use Rattle.element_name.specs.Name.{Name, start, name_eq, name_lt, has_name}
use Rattle.element_name.proofs.NameOrder.{name_eq-refl, name_eq-comm, name_lt-irrefl, name_lt-apart, name_lt-asym, name_lt-trans}
use Rattle.coop_request.specs.Request.{Request, user_of, element_of}
use Rattle.policy_book.specs.Policy.{Policy}
use Rattle.policy_book.specs.Lists.{has_number}
use Rattle.policy_book.specs.declared.reach.Reach.{Reach}
use Rattle.policy_book.specs.Reach.{is_reached}
use Rattle.auth_match.specs.declared.verdict.Verdict.{Verdict}
use Rattle.auth_match.specs.Requests.{request_verdict}
use Rattle.request_state.specs.declared.state.State.{State}
use Rattle.request_state.specs.declared.state.State.TheVariants.{Tentative, Valid, Invalid}
use Rattle.request_state.specs.declared.kept.Kept.{Kept}
use Rattle.request_state.specs.State.{is_tentative}
use Rattle.request_state.specs.Table.{kept_of, with_state, is_in_order}
use Rattle.retro_undo.specs.Undo.{state_after_verdict, kept_after, states_after, is_denied, is_undone, undone_count, have_elements, are_reached, states_after_in, undone_in}
use Rattle.retro_undo.specs.Part.{is_named, is_in, is_above, is_next, next_of}
use Rattle.retro_undo.specs.declared.walk.Whose.{Whose}
use Rattle.retro_undo.specs.declared.walk.Whose.TheVariants.{One}
use Rattle.retro_undo.proofs.Parts.{all_by, each_by, within_reach, count_cons, states_same, undone_same, states_twice, undone_twice, states_of_none, undone_of_none, IsSameFor}
use Rattle.retro_undo.proofs.Undoing.{settled}
use Rattle.retro_undo.proofs.Found.{IsAbove, IsAt, found_at, kept_at, at_passes, none_found, all_above_start}

-- how many Tentative requests have a name above this one
abbrev pub waiting_count : Name → List Kept → ℕ
waiting_count above table = count_by (λ k. is_tentative k.state && name_lt above k.request.id) table

-- 1 where it holds
abbrev pub one_if : Bool → ℕ
one_if b = cond b 1 0

-- as code counts it
pub one_counted : (judged holds : Bool) (n : ℕ) → n ≡ from_bool judged → judged ≡ holds → n ≡ one_if holds
one_counted judged holds n counted same = counted ∙ by judged ∙ ap one_if same
  where
    by : (b : Bool) → from_bool b ≡ one_if b
    by true = refl
    by false = refl

-- what is kept and Tentative, by its request
pub tentative_is : (k : Kept) → is_tentative k.state ≡ true → k ≡ record { request = k.request; state = Tentative }
tentative_is k t = ap (λ s. record { request = k.request; state = s }) (by k.state t)
  where
    by : (s : State) → is_tentative s ≡ true → s ≡ Tentative
    by Tentative t = refl
    by (Valid at) t = absurd cc
    by (Invalid at a) t = absurd cc

-- the request that is found stands in the table, and is Tentative
pub next_at : (table : List Kept) (whose : Whose) (above : Name) (q : Request) → is_in_order table ≡ true → next_of table whose above ≡ Some q
    → IsAt (is_next whose above) (record { request = q; state = Tentative }) table
next_at table whose above q order found = by (find (is_next whose above) table) refl found
  where
    by : (x : Option Kept) → find (is_next whose above) table ≡ x → option_map (λ k. k.request) x ≡ Some q → IsAt (is_next whose above) (record { request = q; state = Tentative }) table
    by None e found = absurd cc
    by (Some k) e found =
        let at = found_at (is_next whose above) k table order e in
        let waits = (and_parts (is_tentative k.state) (is_above whose above k.request) (at_passes (is_next whose above) k table at)).0 in
        let same : k.request ≡ q = cc in
        subst (λ x. IsAt (is_next whose above) x table) (tentative_is k waits ∙ ap (λ r. record { request = r; state = Tentative }) same) at

pub next_kept : (table : List Kept) (whose : Whose) (above : Name) (q : Request) → is_in_order table ≡ true → next_of table whose above ≡ Some q
    → kept_of table q.id ≡ Some (record { request = q; state = Tentative })
next_kept table whose above q order found = kept_at (is_next whose above) (record { request = q; state = Tentative }) table (next_at table whose above q order found)

-- where there is none, no more are undone
module _ (names : List Name) (p : Policy) (version : ℕ) where
  not_next : (whose : Whose) (above : Name) (k : Kept) → is_next whose above k ≡ false → IsSameFor names p version (is_above whose above) (λ q. false) k
  not_next whose above k fails = by (is_tentative k.state) (is_above whose above k.request) (is_denied (request_verdict names p k.request)) fails
    where
      by : (t a d : Bool) → (t && a) ≡ false → (a && (t && d)) ≡ (false && (t && d))
      by true true d e = absurd cc
      by true false d e = refl
      by false true d e = refl
      by false false d e = refl

  none_differ : (table : List Kept) (whose : Whose) (above : Name) → next_of table whose above ≡ None → AllByRecursion (IsSameFor names p version (is_above whose above) (λ q. false)) table
  none_differ table whose above none =
      all_by (λ k. is_next whose above k ≡ false) (IsSameFor names p version (is_above whose above) (λ q. false)) (not_next whose above) table
      (none_found (is_next whose above) table (unmapped (find (is_next whose above) table) none))
    where
      unmapped : (x : Option Kept) → option_map (λ k. k.request) x ≡ None → x ≡ None
      unmapped None e = refl
      unmapped (Some k) e = absurd cc

  pub states_at_end : (table : List Kept) (whose : Whose) (above : Name) → next_of table whose above ≡ None → states_after_in (is_above whose above) names p version table ≡ table
  states_at_end table whose above none = states_same names p version (is_above whose above) (λ q. false) table (none_differ table whose above none) ∙ states_of_none names p version table

  pub undone_at_end : (table : List Kept) (whose : Whose) (above : Name) → next_of table whose above ≡ None → undone_in (is_above whose above) names p table ≡ 0
  undone_at_end table whose above none = undone_same names p version (is_above whose above) (λ q. false) table (none_differ table whose above none) ∙ undone_of_none names p version table

  -- at the start all of theirs are above
  from_start : (table : List Kept) (whose : Whose) → kept_of table start ≡ None → AllByRecursion (IsSameFor names p version (is_in whose) (is_above whose start)) table
  from_start table whose absent = all_by (IsAbove start) (IsSameFor names p version (is_in whose) (is_above whose start)) (λ k above. by k (is_in whose k.request) (name_lt start k.request.id) above) table (all_above_start table absent)
    where
      by : (k : Kept) (a b : Bool) → b ≡ true → (a && is_undone names p k) ≡ ((a && b) && is_undone names p k)
      by k true true e = refl
      by k false true e = refl
      by k a false e = absurd cc

  pub states_at_start : (table : List Kept) (whose : Whose) → kept_of table start ≡ None → states_after_in (is_in whose) names p version table ≡ states_after_in (is_above whose start) names p version table
  states_at_start table whose absent = states_same names p version (is_in whose) (is_above whose start) table (from_start table whose absent)

  pub undone_at_start : (table : List Kept) (whose : Whose) → kept_of table start ≡ None → undone_in (is_in whose) names p table ≡ undone_in (is_above whose start) names p table
  undone_at_start table whose absent = undone_same names p version (is_in whose) (is_above whose start) table (from_start table whose absent)

  -- ---- one step

  module _ (whose : Whose) (above : Name) (q : Request) where
    abbrev waits : Kept
    waits = record { request = q; state = Tentative }

    -- the one that is found, and those above it
    abbrev onward : Request → Bool
    onward r = is_named q.id r || is_above whose q.id r

    front_same : (k : Kept) → is_next whose above k ≡ false → name_lt k.request.id q.id ≡ true → IsSameFor names p version (is_above whose above) onward k
    front_same k fails low =
        not_next whose above k fails
        ∙ sym (ap (λ b. (b || (is_in whose k.request && name_lt q.id k.request.id)) && is_undone names p k) (name_lt-apart k.request.id q.id low)
        ∙ ap (λ b. (is_in whose k.request && b) && is_undone names p k) (name_lt-asym k.request.id q.id low)
        ∙ by (is_in whose k.request) (is_undone names p k))
      where
        by : (a u : Bool) → ((a && false) && u) ≡ false
        by true u = refl
        by false u = refl

    behind_same : name_lt above q.id ≡ true → (k : Kept) → name_lt q.id k.request.id ≡ true → IsSameFor names p version (is_above whose above) onward k
    behind_same from k high =
        ap (λ b. (is_in whose k.request && b) && is_undone names p k) (name_lt-trans above q.id k.request.id from high)
        ∙ sym (ap (λ b. (b || (is_in whose k.request && name_lt q.id k.request.id)) && is_undone names p k) (name_eq-comm k.request.id q.id ∙ name_lt-apart q.id k.request.id high)
        ∙ ap (λ b. (is_in whose k.request && b) && is_undone names p k) high)

    here_same : is_next whose above waits ≡ true → IsSameFor names p version (is_above whose above) onward waits
    here_same passes =
        ap (λ b. b && is_undone names p waits) passes
        ∙ sym (ap (λ b. (b || is_above whose q.id q) && is_undone names p waits) (name_eq-refl q.id))

    low_enough : is_next whose above waits ≡ true → name_lt above q.id ≡ true
    low_enough passes = (and_parts (is_in whose q) (name_lt above q.id) passes).1

    step_same : (table : List Kept) → IsAt (is_next whose above) waits table → AllByRecursion (IsSameFor names p version (is_above whose above) onward) table
    step_same [] at = absurd at
    step_same (x ∷ table) at =
        ⊎_elim
        (λ (h : (x ≡ waits) × (is_next whose above waits ≡ true) × AllByRecursion (IsAbove q.id) table). (
          subst (IsSameFor names p version (is_above whose above) onward) (sym h.0) (here_same h.1),
          all_by (IsAbove q.id) (IsSameFor names p version (is_above whose above) onward) (behind_same (low_enough h.1)) table h.2,
        ))
        (λ (l : (is_next whose above x ≡ false) × (name_lt x.request.id q.id ≡ true) × IsAt (is_next whose above) waits table).
        (front_same x l.0 l.1, step_same table l.2))
        at

    -- the one that is found is undone exactly where it is denied
    named_undone : (table : List Kept) → IsAt (is_next whose above) waits table → undone_in (is_named q.id) names p table ≡ one_if (is_denied (request_verdict names p q))
    named_undone [] at = absurd at
    named_undone (x ∷ table) at =
        ⊎_elim
        (λ (h : (x ≡ waits) × (is_next whose above waits ≡ true) × AllByRecursion (IsAbove q.id) table).
        let one = count_cons (λ k. name_eq k.request.id q.id && is_undone names p k) x table in
        let here : one_if (name_eq x.request.id q.id && is_undone names p x) ≡ one_if (is_denied (request_verdict names p q)) =
        ap (λ (k : Kept). one_if (name_eq k.request.id q.id && is_undone names p k)) h.0
        ∙ ap (λ b. one_if (b && is_undone names p waits)) (name_eq-refl q.id) in
        let none = none_named table h.2 in
        omega (arith, one, here, none))
        (λ (l : (is_next whose above x ≡ false) × (name_lt x.request.id q.id ≡ true) × IsAt (is_next whose above) waits table).
        count_cons (λ k. name_eq k.request.id q.id && is_undone names p k) x table
        ∙ ap (λ b. one_if (b && is_undone names p x) + undone_in (is_named q.id) names p table) (name_lt-apart x.request.id q.id l.1)
        ∙ ap (λ n. 0 + n) (named_undone table l.2)
        ∙ no_more (one_if (is_denied (request_verdict names p q))))
        at
      where
        no_more : (n : ℕ) → 0 + n ≡ n
        no_more n = omega arith

        none_named : (rows : List Kept) → AllByRecursion (IsAbove q.id) rows → undone_in (is_named q.id) names p rows ≡ 0
        none_named [] all = refl
        none_named (x ∷ rows) all =
            count_cons (λ k. name_eq k.request.id q.id && is_undone names p k) x rows
            ∙ ap (λ b. one_if (b && is_undone names p x) + undone_in (is_named q.id) names p rows) (name_eq-comm x.request.id q.id ∙ name_lt-apart q.id x.request.id all.0)
            ∙ ap (λ n. 0 + n) (none_named rows all.1)

    pub states_step : (table : List Kept) → is_in_order table ≡ true → next_of table whose above ≡ Some q
        → states_after_in (is_above whose above) names p version table ≡ states_after_in (is_above whose q.id) names p version (states_after_in (is_named q.id) names p version table)
    states_step table order found =
        states_same names p version (is_above whose above) onward table (step_same table (next_at table whose above q order found))
        ∙ sym (states_twice names p version (is_above whose q.id) (is_named q.id) table)

    pub undone_step : (table : List Kept) → is_in_order table ≡ true → next_of table whose above ≡ Some q
        → undone_in (is_above whose above) names p table
        ≡ undone_in (is_above whose q.id) names p (states_after_in (is_named q.id) names p version table) + one_if (is_denied (request_verdict names p q))
    undone_step table order found =
        let at = next_at table whose above q order found in
        undone_same names p version (is_above whose above) onward table (step_same table at)
        ∙ sym (undone_twice names p version (is_above whose q.id) (is_named q.id) table)
        ∙ ap (λ n. undone_in (is_above whose q.id) names p (states_after_in (is_named q.id) names p version table) + n) (named_undone table at)

    -- ---- fewer wait above it

    abbrev judged : Kept → Kept
    judged k = cond (name_eq k.request.id q.id) (kept_after names p version k) k

    apart_judged : (k : Kept) → name_eq k.request.id q.id ≡ false → judged k ≡ k
    apart_judged k apart = ap (λ b. cond b (kept_after names p version k) k) apart

    waiting_behind : name_lt above q.id ≡ true → (table : List Kept) → AllByRecursion (IsAbove q.id) table
        → waiting_count q.id (states_after_in (is_named q.id) names p version table) ≤ waiting_count above table
    waiting_behind from [] all = omega arith
    waiting_behind from (x ∷ table) all =
        let same = apart_judged x (name_eq-comm x.request.id q.id ∙ name_lt-apart q.id x.request.id all.0) in
        let first = count_cons (λ k. is_tentative k.state && name_lt q.id k.request.id) (judged x) (states_after_in (is_named q.id) names p version table) in
        let second = count_cons (λ k. is_tentative k.state && name_lt above k.request.id) x table in
        let here : one_if (is_tentative (judged x).state && name_lt q.id (judged x).request.id) ≡ one_if (is_tentative x.state && name_lt above x.request.id) =
        ap (λ (k : Kept). one_if (is_tentative k.state && name_lt q.id k.request.id)) same
        ∙ ap (λ b. one_if (is_tentative x.state && b)) (all.0 ∙ sym (name_lt-trans above q.id x.request.id from all.0)) in
        let rest = waiting_behind from table all.1 in
        omega (arith, first, second, here, rest)

    waiting_fewer : (table : List Kept) → IsAt (is_next whose above) waits table → waiting_count q.id (states_after_in (is_named q.id) names p version table) < waiting_count above table
    waiting_fewer [] at = absurd at
    waiting_fewer (x ∷ table) at =
        let first = count_cons (λ k. is_tentative k.state && name_lt q.id k.request.id) (judged x) (states_after_in (is_named q.id) names p version table) in
        let second = count_cons (λ k. is_tentative k.state && name_lt above k.request.id) x table in
        ⊎_elim
        (λ (h : (x ≡ waits) × (is_next whose above waits ≡ true) × AllByRecursion (IsAbove q.id) table).
        let mine : one_if (is_tentative x.state && name_lt above x.request.id) ≡ 1 =
        ap (λ (k : Kept). one_if (is_tentative k.state && name_lt above k.request.id)) h.0 ∙ ap (λ b. one_if b) (low_enough h.1) in
        let gone : one_if (is_tentative (judged x).state && name_lt q.id (judged x).request.id) ≡ 0 =
        ap (λ (k : Kept). one_if (is_tentative (judged k).state && name_lt q.id (judged k).request.id)) h.0 ∙ gone_by (name_eq q.id q.id) in
        let rest = waiting_behind (low_enough h.1) table h.2 in
        omega (arith, first, second, mine, gone, rest))
        (λ (l : (is_next whose above x ≡ false) × (name_lt x.request.id q.id ≡ true) × IsAt (is_next whose above) waits table).
        let none : one_if (is_tentative (judged x).state && name_lt q.id (judged x).request.id) ≡ 0 =
        ap (λ (k : Kept). one_if (is_tentative k.state && name_lt q.id k.request.id)) (apart_judged x (name_lt-apart x.request.id q.id l.1))
        ∙ ap (λ b. one_if (is_tentative x.state && b)) (name_lt-asym x.request.id q.id l.1) ∙ zero_by (is_tentative x.state) in
        let rest = waiting_fewer table l.2 in
        omega (arith, first, second, none, rest))
        at
      where
        zero_by : (b : Bool) → one_if (b && false) ≡ 0
        zero_by true = refl
        zero_by false = refl

        gone_by : (b : Bool) → one_if (is_tentative (cond b (kept_after names p version waits) waits).state && name_lt q.id (cond b (kept_after names p version waits) waits).request.id) ≡ 0
        gone_by true = ap (λ b. one_if (is_tentative (kept_after names p version waits).state && b)) (name_lt-irrefl q.id) ∙ zero_by (is_tentative (kept_after names p version waits).state)
        gone_by false = ap (λ b. one_if (true && b)) (name_lt-irrefl q.id)

    pub waiting_step : (table : List Kept) → is_in_order table ≡ true → next_of table whose above ≡ Some q
        → waiting_count q.id (states_after_in (is_named q.id) names p version table) < waiting_count above table
    waiting_step table order found = waiting_fewer table (next_at table whose above q order found)

-- the element of what is kept is one of the names
pub kept_element : (names : List Name) (q : Request) (table : List Kept) → have_elements names table ≡ true → kept_of table q.id ≡ Some (record { request = q; state = Tentative }) → has_name names (element_of q) ≡ true
kept_element names q [] h there = absurd cc
kept_element names q (k ∷ table) h there = by (name_eq k.request.id q.id) there (kept_element names q table (and_parts (has_name names (element_of k.request)) (have_elements names table) h).1)
  where
    by : (b : Bool) → cond b (Some k) (kept_of table q.id) ≡ Some (record { request = q; state = Tentative })
        → (kept_of table q.id ≡ Some (record { request = q; state = Tentative }) → has_name names (element_of q) ≡ true) → has_name names (element_of q) ≡ true
    by true found rest =
        let same : k ≡ record { request = q; state = Tentative } = cc in
        subst (λ x. has_name names (element_of x.request) ≡ true) same (and_parts (has_name names (element_of k.request)) (have_elements names table) h).0
    by false found rest = rest found

-- ---- the listed users, one after another

any_more : (test : ℕ → Bool) (xs : List ℕ) (y : ℕ) → list_any test (xs ++ y ∷ []) ≡ (list_any test xs || test y)
any_more test [] y = by (test y)
  where
    by : (b : Bool) → (b || false) ≡ b
    by true = refl
    by false = refl
any_more test (x ∷ xs) y = ap (λ b. test x || b) (any_more test xs y) ∙ by (test x)
  where
    by : (a : Bool) → (a || (list_any test xs || test y)) ≡ ((a || list_any test xs) || test y)
    by true = refl
    by false = refl

eq-comm : (a b : ℕ) → (a == b) ≡ (b == a)
eq-comm a b = grind (arith, nat_tests)

-- the requests of the first users of the list
abbrev pub is_of_first : List ℕ → ℕ → Request → Bool
is_of_first users i q = has_number (take i users) (user_of q)

of_more : (users : List ℕ) (i u : ℕ) → slice_get users i ≡ Some u → (q : Request) → (is_of_first users i q || is_in (One u) q) ≡ is_of_first users (i + 1) q
of_more users i u at q =
    let more : take (i + 1) users ≡ take i users ++ u ∷ [] = take_more users i u (slice_get_within users i u at) ∙ ap (λ d. take i users ++ d ∷ []) (get_or_from_slice_get users i u u at) in
    sym (ap (λ us. has_number us (user_of q)) more
    ∙ any_more (λ m. m == user_of q) (take i users) u
    ∙ ap (λ b. has_number (take i users) (user_of q) || b) (eq-comm u (user_of q)))

module _ (names : List Name) (p : Policy) (version : ℕ) where
  part_same : (a b : Request → Bool) → ((q : Request) → a q ≡ b q) → (table : List Kept) → AllByRecursion (IsSameFor names p version a b) table
  part_same a b same table = each_by (IsSameFor names p version a b) (λ k. ap (λ t. t && is_undone names p k) (same k.request)) table

  pub states_more : (users : List ℕ) (i u : ℕ) (table now new : List Kept) → slice_get users i ≡ Some u → now ≡ states_after_in (is_of_first users i) names p version table
      → new ≡ states_after_in (is_in (One u)) names p version now → new ≡ states_after_in (is_of_first users (i + 1)) names p version table
  states_more users i u table now new at before step =
      let more = λ (q : Request). is_of_first users i q || is_in (One u) q in
      step ∙ ap (λ t. states_after_in (is_in (One u)) names p version t) before
      ∙ states_twice names p version (is_in (One u)) (is_of_first users i) table
      ∙ states_same names p version more (is_of_first users (i + 1)) table (part_same more (is_of_first users (i + 1)) (of_more users i u at) table)

  pub undone_more : (users : List ℕ) (i u : ℕ) (table now : List Kept) → slice_get users i ≡ Some u → now ≡ states_after_in (is_of_first users i) names p version table
      → undone_in (is_of_first users i) names p table + undone_in (is_in (One u)) names p now ≡ undone_in (is_of_first users (i + 1)) names p table
  undone_more users i u table now at before =
      let more = λ (q : Request). is_of_first users i q || is_in (One u) q in
      let twice = undone_twice names p version (is_in (One u)) (is_of_first users i) table in
      let same = undone_same names p version more (is_of_first users (i + 1)) table (part_same more (is_of_first users (i + 1)) (of_more users i u at) table) in
      let this = ap (λ t. undone_in (is_in (One u)) names p t) before in
      omega (arith, twice, same, this)

  pub states_of_all : (users : List ℕ) (table : List Kept) → states_after_in (is_of_first users (length users)) names p version table ≡ states_after_in (λ q. has_number users (user_of q)) names p version table
  states_of_all users table = ap (λ us. states_after_in (λ q. has_number us (user_of q)) names p version table) (take-length users)

  pub undone_of_all : (users : List ℕ) (table : List Kept) → undone_in (is_of_first users (length users)) names p table ≡ undone_in (λ q. has_number users (user_of q)) names p table
  undone_of_all users table = ap (λ us. undone_in (λ q. has_number us (user_of q)) names p table) (take-length users)

  -- ---- those within the reach

  pub states_reached : (reach this : Reach) (table : List Kept) → reach ≡ this → are_reached reach names p table ≡ true
      → states_after_in (λ q. is_reached this (user_of q)) names p version table ≡ states_after names p version table
  states_reached reach this table is h =
      states_same names p version (λ q. is_reached this (user_of q)) (λ q. true) table
      (within_reach names p version this table (subst (λ r. are_reached r names p table ≡ true) is h))

  pub undone_reached : (reach this : Reach) (table : List Kept) → reach ≡ this → are_reached reach names p table ≡ true
      → undone_in (λ q. is_reached this (user_of q)) names p table ≡ undone_count names p table
  undone_reached reach this table is h =
      undone_same names p version (λ q. is_reached this (user_of q)) (λ q. true) table
      (within_reach names p version this table (subst (λ r. are_reached r names p table ≡ true) is h))

  -- ---- as a walk has it

  module _ (whose : Whose) (above : Name) (q : Request) (table : List Kept) (order : is_in_order table ≡ true) (found : next_of table whose above ≡ Some q) where
    module _ (next : Name) (w : Verdict) (new : List Kept) (is : next ≡ q.id) (judged : w ≡ request_verdict names p q)
        (set : new ≡ with_state table next (state_after_verdict Tentative version w)) where
      pub walk_judged : new ≡ states_after_in (is_named q.id) names p version table
      walk_judged = settled names p version q next w table new order (next_kept table whose above q order found) is judged set

      pub walk_smaller : waiting_count next new < waiting_count above table
      walk_smaller =
          let fewer = waiting_step names p version whose above q table order found in
          let same : waiting_count next new ≡ waiting_count q.id (states_after_in (is_named q.id) names p version table) = ap (λ n. waiting_count n new) is ∙ ap (waiting_count q.id) walk_judged in
          omega (arith, fewer, same)

      pub walk_states : states_after_in (is_above whose above) names p version table ≡ states_after_in (is_above whose next) names p version new
      walk_states =
          states_step names p version whose above q table order found
          ∙ sym (ap (λ t. states_after_in (is_above whose q.id) names p version t) walk_judged)
          ∙ sym (ap (λ n. states_after_in (is_above whose n) names p version new) is)

    pub walk_count : (next : Name) (w : Verdict) (new : List Kept) (undone : Bool) (count : ℕ) → next ≡ q.id → w ≡ request_verdict names p q
        → new ≡ with_state table next (state_after_verdict Tentative version w) → count ≡ from_bool undone → undone ≡ is_denied w
        → undone_in (is_above whose above) names p table ≡ undone_in (is_above whose next) names p new + count
    walk_count next w new undone count is judged set counted denied =
        let step = undone_step names p version whose above q table order found in
        let same : undone_in (is_above whose next) names p new ≡ undone_in (is_above whose q.id) names p (states_after_in (is_named q.id) names p version table) =
        ap (λ n. undone_in (is_above whose n) names p new) is ∙ ap (undone_in (is_above whose q.id) names p) (walk_judged next w new is judged set) in
        let one = one_counted undone (is_denied (request_verdict names p q)) count counted (denied ∙ ap is_denied judged) in
        omega (arith, step, same, one)
