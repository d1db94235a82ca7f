-- The list of the Tentative requests within a reach.
use Rattle.std.proofs.Common.{◌≡◌, ℕ, ⊎_elim, Bool, true, false, ◌&&◌, ◌||◌, List, [], ◌∷◌, None, Some, refl, sym, ap, subst, ◌∙◌, filter, map}
use Rattle.std.specs.Prelude.{find, nat_eq, option_map, if◌then◌else◌}
use Rattle.std.specs.declared.option.Option.{Option}
use Rattle.std.specs.List.{AllByRecursion}
use Rattle.std.proofs.lemmas.Bool.{and_parts, or_left, or_right, eq-eqb, eqb-true}
use Rattle.std.proofs.lemmas.List.Folds.{list_any-append}
use Rattle.element_name.specs.Name.{Name, start, name_eq, name_lt, has_name}
use Rattle.element_name.proofs.CaseLemmas.{option_map-None}
use Rattle.element_name.proofs.NameOrder.{name_eq-refl, name_lt-irrefl, name_lt-asym, name_lt-trans}
use Rattle.coop_request.specs.Request.{Request, user_of}
use Rattle.policy_book.specs.declared.reach.Reach.{Reach}
use Rattle.policy_book.specs.declared.reach.Reach.TheVariants.{Nobody, Users, Everyone}
use Rattle.policy_book.specs.Lists.{has_number}
use Rattle.policy_book.specs.Reach.{is_reached}
use Rattle.request_state.specs.declared.kept.Kept.{Kept}
use Rattle.request_state.specs.State.{is_tentative}
use Rattle.request_state.specs.Table.{kept_of, is_in_order}
use Rattle.retro_undo.specs.declared.walk.Whose.{Whose}
use Rattle.retro_undo.specs.declared.walk.Whose.TheVariants.{All, One}
use Rattle.retro_undo.specs.Part.{is_in, is_next, next_of}
use Rattle.retro_undo.specs.Listed.{taken_above, taken_of_users, taken_within}
use Rattle.retro_undo.proofs.Parts.{all_by, all_both}
use Rattle.retro_undo.proofs.Found.{IsAbove, IsAt, found_at, none_found, all_above_start}

-- ---- the walk along one line

abbrev those_above : Whose → Name → List Kept → List Kept
those_above whose above table = filter (is_next whose above) table

not_above : (whose : Whose) (a : Name) (k : Kept) → name_lt a k.request.id ≡ false → is_next whose a k ≡ false
not_above whose a k off = ap (λ t. is_tentative k.state && (is_in whose k.request && t)) off ∙ by (is_tentative k.state) (is_in whose k.request)
  where
    by : (t s : Bool) → (t && (s && false)) ≡ false
    by true true = refl
    by true false = refl
    by false s = refl

is_above : (whose : Whose) (a : Name) (k : Kept) → is_next whose a k ≡ true → name_lt a k.request.id ≡ true
is_above whose a k h =
    (and_parts (is_in whose k.request) (name_lt a k.request.id)
    (and_parts (is_tentative k.state) (is_in whose k.request && name_lt a k.request.id) h).1).1

-- behind the one that is found, the same are above either name
behind : (whose : Whose) (above : Name) (k : Kept) → name_lt above k.request.id ≡ true → (table : List Kept) → AllByRecursion (IsAbove k.request.id) table
    → those_above whose above table ≡ those_above whose k.request.id table
behind whose above k low [] all = refl
behind whose above k low (x ∷ table) all =
    ap (λ b. if b then x ∷ those_above whose above table else those_above whose above table)
    (ap (λ t. is_tentative x.state && (is_in whose x.request && t)) (name_lt-trans above k.request.id x.request.id low all.0 ∙ sym all.0))
    ∙ ap (λ (xs : List Kept). if is_next whose k.request.id x then x ∷ xs else xs) (behind whose above k low table all.1)

-- the one that is found is the first, and the others are above it
first_above : (whose : Whose) (above : Name) (k : Kept) (table : List Kept) → IsAt (is_next whose above) k table
    → those_above whose above table ≡ k ∷ those_above whose k.request.id table
first_above whose above k [] at = absurd at
first_above whose above k (x ∷ table) at =
    ⊎_elim
    (λ (h : (x ≡ k) × (is_next whose above k ≡ true) × AllByRecursion (IsAbove k.request.id) table).
    let own = not_above whose k.request.id k (name_lt-irrefl k.request.id) in
    let rest = behind whose above k (is_above whose above k h.1) table h.2 in
    subst (λ (y : Kept). those_above whose above (y ∷ table) ≡ k ∷ those_above whose k.request.id (y ∷ table)) (sym h.0)
    (rw (h.1, own) (ap (λ (xs : List Kept). k ∷ xs) rest)))
    (λ (l : (is_next whose above x ≡ false) × (name_lt x.request.id k.request.id ≡ true) × IsAt (is_next whose above) k table).
    let off = not_above whose k.request.id x (name_lt-asym x.request.id k.request.id l.1) in
    rw (l.0, off) (first_above whose above k table l.2))
    at

none_left : (test : Kept → Bool) (table : List Kept) → AllByRecursion (λ k. test k ≡ false) table → filter test table ≡ []
none_left test [] all = refl
none_left test (k ∷ table) all = rw all.0 (none_left test table all.1)

module _ (take : Request → Name) where
  pub taken_step : (whose : Whose) (above : Name) (q : Request) (table : List Kept) → is_in_order table ≡ true → next_of table whose above ≡ Some q
      → taken_above take whose above table ≡ take q ∷ taken_above take whose q.id table
  taken_step whose above q table order found = by (find (is_next whose above) table) refl found
    where
      by : (x : Option Kept) → find (is_next whose above) table ≡ x → option_map (λ k. k.request) x ≡ Some q
          → taken_above take whose above table ≡ take q ∷ taken_above take whose q.id table
      by None e g = absurd cc
      by (Some k) e g =
          let same : k.request ≡ q = cc in
          let first = first_above whose above k table (found_at (is_next whose above) k table order e) in
          ap (λ (ks : List Kept). map (λ (x : Kept). take x.request) ks) first
          ∙ ap (λ (r : Request). take r ∷ taken_above take whose r.id table) same

  pub taken_end : (whose : Whose) (above : Name) (table : List Kept) → next_of table whose above ≡ None → taken_above take whose above table ≡ []
  taken_end whose above table none =
      ap (λ (ks : List Kept). map (λ (x : Kept). take x.request) ks)
      (none_left (is_next whose above) table (none_found (is_next whose above) table (option_map-None (λ k. k.request) (find (is_next whose above) table) none)))

  -- ---- what is within the reach is listed

  -- where it passes a test, it is taken
  abbrev IsTaken : List Kept → Kept → Type 0
  IsTaken table k = (test : Kept → Bool) → test k ≡ true → has_name (map (λ x. take x.request) (filter test table)) (take k.request) ≡ true

  each_taken : (table : List Kept) → AllByRecursion (IsTaken table) table
  each_taken [] = tt
  each_taken (k ∷ table) = (
    (λ test passes. rw passes
        (or_left (name_eq (take k.request) (take k.request)) (has_name (map (λ (x : Kept). take x.request) (filter test table)) (take k.request)) (name_eq-refl (take k.request)))),
    all_by (IsTaken table) (IsTaken (k ∷ table)) (λ x there test passes. by x test (test k) (there test passes)) table (each_taken table),
  )
    where
      by : (x : Kept) (test : Kept → Bool) (b : Bool) → has_name (map (λ (y : Kept). take y.request) (filter test table)) (take x.request) ≡ true
          → has_name (map (λ (y : Kept). take y.request) (if b then k ∷ filter test table else filter test table)) (take x.request) ≡ true
      by x test true rest = or_right (name_eq (take x.request) (take k.request)) (has_name (map (λ (y : Kept). take y.request) (filter test table)) (take x.request)) rest
      by x test false rest = rest

  module _ (table : List Kept) (k : Kept) (taken : IsTaken table k) (waits : is_tentative k.state ≡ true) (high : name_lt start k.request.id ≡ true) where
    of_users : (users : List ℕ) → has_number users (user_of k.request) ≡ true → has_name (taken_of_users take users table) (take k.request) ≡ true
    of_users [] h = absurd cc
    of_users (u ∷ users) h =
        list_any-append (name_eq (take k.request)) (taken_above take (One u) start table) (taken_of_users take users table)
        ∙ by (nat_eq u (user_of k.request)) refl h (of_users users)
      where
        by : (b : Bool) → nat_eq u (user_of k.request) ≡ b → (b || has_number users (user_of k.request)) ≡ true
            → (has_number users (user_of k.request) ≡ true → has_name (taken_of_users take users table) (take k.request) ≡ true)
            → (has_name (taken_above take (One u) start table) (take k.request) || has_name (taken_of_users take users table) (take k.request)) ≡ true
        by true own g rest =
            let mine : nat_eq (user_of k.request) u ≡ true = eq-eqb (user_of k.request) u (sym (eqb-true u (user_of k.request) own)) in
            or_left (has_name (taken_above take (One u) start table) (take k.request)) (has_name (taken_of_users take users table) (take k.request))
            (taken (is_next (One u) start) (rw (waits, mine, high) refl))
        by false other g rest =
            or_right (has_name (taken_above take (One u) start table) (take k.request)) (has_name (taken_of_users take users table) (take k.request)) (rest g)

    of_reach : (reach : Reach) → is_reached reach (user_of k.request) ≡ true → has_name (taken_within take reach table) (take k.request) ≡ true
    of_reach Nobody h = absurd cc
    of_reach (Users users) h = of_users users h
    of_reach Everyone h = taken (is_next All start) (rw (waits, high) refl)

  -- a Tentative request of a user within the reach is listed
  abbrev pub IsListedIn : Reach → List Kept → Kept → Type 0
  IsListedIn reach table k = is_tentative k.state ≡ true → is_reached reach (user_of k.request) ≡ true → has_name (taken_within take reach table) (take k.request) ≡ true

  pub each_listed : (reach : Reach) (table : List Kept) → kept_of table start ≡ None → AllByRecursion (IsListedIn reach table) table
  each_listed reach table absent =
      all_by (λ k. IsAbove start k × IsTaken table k) (IsListedIn reach table) (λ k both waits within. of_reach table k both.1 waits both.0 reach within) table
      (all_both (IsAbove start) (IsTaken table) table (all_above_start table absent) (each_taken table))
