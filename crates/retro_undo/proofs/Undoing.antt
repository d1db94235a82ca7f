-- One request that is undone.
use Rattle.std.proofs.Common.{◌≡◌, ℕ, Bool, true, false, cond, List, [], ◌∷◌, None, Some, refl, sym, ap, subst, ◌∙◌}
use Rattle.std.specs.declared.option.Option.{Option}
use Rattle.std.specs.Option.{option_map}
use Rattle.std.specs.List.{AllByRecursion}
use Rattle.element_name.specs.Name.{Name, name_eq}
use Rattle.element_name.proofs.NameOrder.{same_name}
use Rattle.coop_request.specs.Request.{Request}
use Rattle.policy_book.specs.Policy.{Policy}
use Rattle.auth_match.specs.declared.verdict.Verdict.{Verdict}
use Rattle.auth_match.specs.Requests.{request_verdict}
use Rattle.request_state.specs.declared.state.State.{State}
use Rattle.request_state.specs.declared.state.State.TheVariants.{Tentative}
use Rattle.request_state.specs.declared.kept.Kept.{Kept}
use Rattle.request_state.specs.Table.{kept_of, kept_request, kept_state, with_state, is_in_order}
use Rattle.retro_undo.specs.Undo.{state_after_verdict, kept_after, states_after_in}
use Rattle.retro_undo.specs.Part.{is_named}
use Rattle.retro_undo.proofs.Found.{found_at, alone, at_passes, request_named}

-- ---- the request of a name

-- what is kept of a request that is found, whose state is Tentative
pub found_tentative : (table : List Kept) (n : Name) (q : Request) → kept_request table n ≡ Some q → kept_state table n ≡ Some Tentative
    → kept_of table q.id ≡ Some (record { request = q; state = Tentative })
found_tentative table n q found waits = ap (kept_of table) (request_named table n q found) ∙ by (kept_of table n) found waits
  where
    by : (x : Option Kept) → option_map (λ (k : Kept). k.request) x ≡ Some q → option_map (λ (k : Kept). k.state) x ≡ Some Tentative → x ≡ Some (record { request = q; state = Tentative })
    by None f w = absurd cc
    by (Some k) f w =
        let request : k.request ≡ q = cc in
        let state : k.state ≡ Tentative = cc in
        ap Some (ap (λ r. record { request = r; state = k.state }) request ∙ ap (λ s. record { request = q; state = s }) state)

-- none of another state is without a request
pub kept_is_found : (table : List Kept) (n : Name) → kept_request table n ≡ None → kept_state table n ≡ Some Tentative → ⊥
kept_is_found table n none waits = by (kept_of table n) none waits
  where
    by : (x : Option Kept) → option_map (λ (k : Kept). k.request) x ≡ None → option_map (λ (k : Kept). k.state) x ≡ Some Tentative → ⊥
    by None e w = absurd cc
    by (Some k) e w = absurd cc

-- ---- the states

-- a Tentative request that is set to Tentative is as before
module _ (k : Kept) (n : Name) (state : k.state ≡ Tentative) where
  again_here : (x : Kept) → (name_eq x.request.id n ≡ true → x ≡ k) → (b : Bool) → name_eq x.request.id n ≡ b → cond b (record { request = x.request; state = Tentative }) x ≡ x
  again_here x is true e = ap (λ s. record { request = x.request; state = s }) (sym (ap (λ (y : Kept). y.state) (is e) ∙ state))
  again_here x is false e = refl

  again_each : (rows : List Kept) → AllByRecursion (λ x. name_eq x.request.id n ≡ true → x ≡ k) rows → with_state rows n Tentative ≡ rows
  again_each [] all = refl
  again_each (x ∷ rows) all =
      ap (λ y. y ∷ with_state rows n Tentative) (again_here x all.0 (name_eq x.request.id n) refl)
      ∙ ap (λ ys. x ∷ ys) (again_each rows all.1)

pub tentative_again : (table : List Kept) (n : Name) → is_in_order table ≡ true → kept_state table n ≡ Some Tentative → with_state table n Tentative ≡ table
tentative_again table n order waits = by (kept_of table n) refl waits
  where
    by : (x : Option Kept) → kept_of table n ≡ x → option_map (λ (k : Kept). k.state) x ≡ Some Tentative → with_state table n Tentative ≡ table
    by None e w = absurd cc
    by (Some k) e w =
        let at = found_at (λ x. name_eq x.request.id n) k table order e in
        let named : k.request.id ≡ n = same_name k.request.id n (at_passes (λ x. name_eq x.request.id n) k table at) in
        let state : k.state ≡ Tentative = cc in
        again_each k n state table
        (subst (λ (m : Name). AllByRecursion (λ x. name_eq x.request.id m ≡ true → x ≡ k) table) named (alone (λ x. name_eq x.request.id n) k table at))

-- a Tentative request gets the state after the verdict on it
module _ (names : List Name) (p : Policy) (version : ℕ) (q : Request) where
  abbrev waiting : Kept
  waiting = record { request = q; state = Tentative }

  abbrev after : State
  after = state_after_verdict Tentative version (request_verdict names p q)

  judged_here : (x : Kept) → (name_eq x.request.id q.id ≡ true → x ≡ waiting) → (b : Bool) → name_eq x.request.id q.id ≡ b
      → cond b (kept_after names p version x) x ≡ cond b (record { request = x.request; state = after }) x
  judged_here x is true e =
      ap (kept_after names p version) (is e)
      ∙ sym (ap (λ (y : Kept). record { request = y.request; state = after }) (is e))
  judged_here x is false e = refl

  judged_each : (rows : List Kept) → AllByRecursion (λ x. name_eq x.request.id q.id ≡ true → x ≡ waiting) rows
      → states_after_in (is_named q.id) names p version rows ≡ with_state rows q.id after
  judged_each [] all = refl
  judged_each (x ∷ rows) all =
      ap (λ y. y ∷ states_after_in (is_named q.id) names p version rows) (judged_here x all.0 (name_eq x.request.id q.id) refl)
      ∙ ap (λ ys. cond (name_eq x.request.id q.id) (record { request = x.request; state = after }) x ∷ ys) (judged_each rows all.1)

  judged_named : (table : List Kept) → is_in_order table ≡ true → kept_of table q.id ≡ Some waiting
      → states_after_in (is_named q.id) names p version table ≡ with_state table q.id after
  judged_named table order there = judged_each table (alone (λ k. name_eq k.request.id q.id) waiting table (found_at (λ k. name_eq k.request.id q.id) waiting table order there))

-- so what is set by the verdict is what is kept after the request was judged
pub settled : (names : List Name) (p : Policy) (version : ℕ) (q : Request) (n : Name) (w : Verdict) (table new : List Kept) → is_in_order table ≡ true
    → kept_of table q.id ≡ Some (record { request = q; state = Tentative }) → n ≡ q.id → w ≡ request_verdict names p q
    → new ≡ with_state table n (state_after_verdict Tentative version w) → new ≡ states_after_in (is_named q.id) names p version table
settled names p version q n w table new order there is judged set =
    set
    ∙ ap (λ m. with_state table m (state_after_verdict Tentative version w)) is
    ∙ ap (λ x. with_state table q.id (state_after_verdict Tentative version x)) judged
    ∙ sym (judged_named names p version q table order there)
