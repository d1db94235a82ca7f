-- One verdict that is carried out.
use Rattle.std.proofs.Common.{◌≡◌, ℕ, ◌+◌, Bool, true, false, cond, ◌&&◌, List, [], ◌∷◌, Some, refl, sym, ap, ◌∙◌, arith}
use Rattle.std.specs.declared.option.Option.{Option}
use Rattle.std.specs.Option.{option_map, option_map_or}
use Rattle.std.specs.List.{AllByRecursion}
use Rattle.element_name.specs.Name.{Name, name_eq}
use Rattle.element_name.proofs.NameOrder.{same_name, name_eq-comm, name_lt-apart}
use Rattle.policy_book.specs.Policy.{Policy}
use Rattle.auth_match.specs.declared.verdict.Verdict.{Verdict}
use Rattle.auth_match.specs.declared.verdict.Verdict.TheVariants.{Granted, Denied}
use Rattle.auth_match.specs.Requests.{request_verdict}
use Rattle.request_state.specs.declared.state.State.{State}
use Rattle.request_state.specs.declared.state.State.TheVariants.{Tentative, Valid, Invalid}
use Rattle.request_state.specs.declared.kept.Kept.{Kept}
use Rattle.request_state.specs.State.{is_tentative}
use Rattle.request_state.specs.Table.{kept_of, with_state, is_in_order}
use Rattle.retro_undo.specs.Undo.{state_after_verdict, kept_after, is_denied, is_undone, states_after_in, undone_in}
use Rattle.retro_undo.specs.Part.{is_named}
use Rattle.retro_undo.proofs.Parts.{all_by, count_cons}
use Rattle.retro_undo.proofs.Found.{IsAbove, first_below, rest_in_order}
use Rattle.retro_undo.proofs.Steps.{one_if, tentative_is}
use Rattle.par_sweep.specs.declared.judging.Judgement.{Judgement}
use Rattle.par_sweep.specs.Judged.{verdict_on, judgement_on, is_tentative_named, with_verdict}
use Rattle.par_sweep.proofs.Named.{maps_same, map_keeps, IsKeptAs, kept_named}

-- the state of one after a verdict
abbrev pub after_verdict : ℕ → Verdict → Kept → Kept
after_verdict version w k = record { request = k.request; state = state_after_verdict k.state version w }

granted_stays : (s : State) (version : ℕ) → state_after_verdict s version Granted ≡ s
granted_stays Tentative version = refl
granted_stays (Valid at) version = refl
granted_stays (Invalid at a) version = refl

settled_stays : (s : State) (version : ℕ) (w : Verdict) → is_tentative s ≡ false → state_after_verdict s version w ≡ s
settled_stays Tentative version w h = absurd cc
settled_stays (Valid at) version w h = refl
settled_stays (Invalid at a) version w h = refl

module _ (version : ℕ) (j : Judgement) (table : List Kept) where
  -- a grant changes nothing
  pub carried_granted : j.verdict ≡ Granted → table ≡ with_verdict version j table
  carried_granted granted = sym (each table)
    where
      here : (k : Kept) (b : Bool) → cond b (after_verdict version j.verdict k) k ≡ k
      here k true = ap (λ w. after_verdict version w k) granted ∙ ap (λ s. record { request = k.request; state = s }) (granted_stays k.state version)
      here k false = refl

      each : (rows : List Kept) → with_verdict version j rows ≡ rows
      each [] = refl
      each (k ∷ rows) = ap (λ x. x ∷ with_verdict version j rows) (here k (name_eq k.request.id j.id)) ∙ ap (λ rest. k ∷ rest) (each rows)

  -- nor does a verdict on what isn't Tentative
  pub carried_settled : is_in_order table ≡ true → is_tentative_named table j.id ≡ false → table ≡ with_verdict version j table
  carried_settled order none =
      sym (map_keeps (λ k. cond (name_eq k.request.id j.id) (after_verdict version j.verdict k) k) table
      (all_by (IsKeptAs j.id table) (λ k. cond (name_eq k.request.id j.id) (after_verdict version j.verdict k) k ≡ k) (λ k kept. here k (name_eq k.request.id j.id) kept) table (kept_named j.id table order)))
    where
      here : (k : Kept) (b : Bool) → (b ≡ true → kept_of table j.id ≡ Some k) → cond b (after_verdict version j.verdict k) k ≡ k
      here k true kept =
          let settled : is_tentative k.state ≡ false = ap (λ x. option_map_or (λ (y : Kept). is_tentative y.state) x false) (sym (kept refl)) ∙ none in
          ap (λ s. record { request = k.request; state = s }) (settled_stays k.state version j.verdict settled)
      here k false kept = refl

  -- a denial makes a Tentative request Invalid
  pub carried_denied : (a : Option ℕ) → is_in_order table ≡ true → is_tentative_named table j.id ≡ true → j.verdict ≡ Denied a
      → with_state table j.id (Invalid version a) ≡ with_verdict version j table
  carried_denied a order waits denied =
      maps_same (λ k. cond (name_eq k.request.id j.id) (record { request = k.request; state = Invalid version a }) k) (λ k. cond (name_eq k.request.id j.id) (after_verdict version j.verdict k) k) table
      (all_by (IsKeptAs j.id table)
      (λ k. cond (name_eq k.request.id j.id) (record { request = k.request; state = Invalid version a }) k ≡ cond (name_eq k.request.id j.id) (after_verdict version j.verdict k) k)
      (λ k kept. here k (name_eq k.request.id j.id) kept) table (kept_named j.id table order))
    where
      here : (k : Kept) (b : Bool) → (b ≡ true → kept_of table j.id ≡ Some k)
          → cond b (record { request = k.request; state = Invalid version a }) k ≡ cond b (after_verdict version j.verdict k) k
      here k true kept =
          let passes : is_tentative k.state ≡ true = ap (λ x. option_map_or (λ (y : Kept). is_tentative y.state) x false) (sym (kept refl)) ∙ waits in
          let tentative : k.state ≡ Tentative = ap (λ (x : Kept). x.state) (tentative_is k passes) in
          sym (ap (λ w. after_verdict version w k) denied
          ∙ ap (λ s. record { request = k.request; state = state_after_verdict s version (Denied a) }) tentative)
      here k false kept = refl

-- ---- as it is judged there and then

module _ (names : List Name) (p : Policy) (version : ℕ) (n : Name) where
  pub carried_as_judged : (table : List Kept) → is_in_order table ≡ true → with_verdict version (judgement_on names p table n) table ≡ states_after_in (is_named n) names p version table
  carried_as_judged table order =
      maps_same (λ k. cond (name_eq k.request.id n) (after_verdict version (verdict_on names p table n) k) k) (λ k. cond (name_eq k.request.id n) (kept_after names p version k) k) table
      (all_by (IsKeptAs n table) (λ k. cond (name_eq k.request.id n) (after_verdict version (verdict_on names p table n) k) k ≡ cond (name_eq k.request.id n) (kept_after names p version k) k)
      (λ k kept. here k (name_eq k.request.id n) kept) table (kept_named n table order))
    where
      here : (k : Kept) (b : Bool) → (b ≡ true → kept_of table n ≡ Some k)
          → cond b (after_verdict version (verdict_on names p table n) k) k ≡ cond b (kept_after names p version k) k
      here k true kept =
          let verdict : verdict_on names p table n ≡ request_verdict names p k.request =
          ap (λ x. option_map_or (request_verdict names p) (option_map (λ (y : Kept). y.request) x) Granted) (kept refl) in
          ap (λ w. after_verdict version w k) verdict
      here k false kept = refl

  none_named : (m : Name) (rows : List Kept) → m ≡ n → AllByRecursion (IsAbove m) rows → undone_in (is_named n) names p rows ≡ 0
  none_named m [] same all = refl
  none_named m (x ∷ rows) same all =
      let apart : name_eq x.request.id n ≡ false = ap (name_eq x.request.id) (sym same) ∙ name_eq-comm x.request.id m ∙ name_lt-apart m x.request.id all.0 in
      count_cons (λ k. name_eq k.request.id n && is_undone names p k) x rows
      ∙ ap (λ b. one_if (b && is_undone names p x) + undone_in (is_named n) names p rows) apart
      ∙ ap (λ c. 0 + c) (none_named m rows same all.1)

  no_more : (c : ℕ) → c + 0 ≡ c
  no_more c = omega arith

  no_less : (c : ℕ) → 0 + c ≡ c
  no_less c = omega arith

  -- one is undone where it is Tentative and denied
  pub carried_count : (table : List Kept) → is_in_order table ≡ true
      → undone_in (is_named n) names p table ≡ one_if (is_tentative_named table n && is_denied (verdict_on names p table n))
  carried_count [] order = refl
  carried_count (k ∷ table) order =
      count_cons (λ x. name_eq x.request.id n && is_undone names p x) k table
      ∙ by (name_eq k.request.id n) refl (carried_count table (rest_in_order k table order))
    where
      by : (b : Bool) → name_eq k.request.id n ≡ b → undone_in (is_named n) names p table ≡ one_if (is_tentative_named table n && is_denied (verdict_on names p table n))
          → one_if (b && is_undone names p k) + undone_in (is_named n) names p table
          ≡ one_if (option_map_or (λ x. is_tentative x.state) (cond b (Some k) (kept_of table n)) false
          && is_denied (option_map_or (request_verdict names p) (option_map (λ x. x.request) (cond b (Some k) (kept_of table n))) Granted))
      by true same rest = ap (λ c. one_if (is_undone names p k) + c) (none_named k.request.id table (same_name k.request.id n same) (first_below k table order)) ∙ no_more (one_if (is_undone names p k))
      by false apart rest = no_less (undone_in (is_named n) names p table) ∙ rest
