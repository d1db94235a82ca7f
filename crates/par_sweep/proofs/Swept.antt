-- Verdicts that were taken early, carried out one after another.
use Rattle.std.proofs.Common.{◌≡◌, ℕ, ◌+◌, ◌<◌, Bool, true, false, cond, ◌&&◌, ◌||◌, List, [], ◌∷◌, length, map, take, get_or, None, Some, refl, sym, ap, ◌∙◌, arith}
use Rattle.std.specs.Option.{option_map, option_map_or}
use Rattle.std.specs.List.{AllByRecursion}
use Rattle.std.proofs.Math.Seq.{take-length}
use Rattle.std.proofs.lemmas.List.{take_more, get_or-map, length-map}
use Rattle.std.proofs.lemmas.List.Folds.{list_any-append}
use Rattle.element_name.specs.Name.{Name, start, name_eq, name_lt, has_name}
use Rattle.coop_request.specs.Request.{Request, user_of}
use Rattle.policy_book.specs.Policy.{Policy}
use Rattle.policy_book.specs.declared.reach.Reach.{Reach}
use Rattle.policy_book.specs.Reach.{is_reached}
use Rattle.auth_match.specs.declared.verdict.Verdict.TheVariants.{Granted}
use Rattle.auth_match.specs.Requests.{request_verdict}
use Rattle.request_state.specs.declared.kept.Kept.{Kept}
use Rattle.request_state.specs.State.{is_tentative}
use Rattle.request_state.specs.Table.{name_of, kept_of, kept_request, is_in_order}
use Rattle.retro_undo.specs.Undo.{kept_after, is_denied, is_undone, are_reached, states_after_in, undone_in}
use Rattle.retro_undo.specs.Part.{is_named}
use Rattle.retro_undo.specs.Sweep.{every_request}
use Rattle.retro_undo.proofs.Parts.{all_by, all_both, each_by, kept_in, IsSameFor, within_reach, states_same, undone_same, states_twice, undone_twice}
use Rattle.retro_undo.proofs.Steps.{one_if}
use Rattle.par_sweep.specs.declared.judging.Judgement.{Judgement}
use Rattle.par_sweep.specs.Judged.{verdict_on, judgement_on, is_tentative_named, with_verdict}
use Rattle.retro_undo.specs.Listed.{taken_within}
use Rattle.retro_undo.proofs.Within.{IsListedIn, each_listed}
use Rattle.par_sweep.proofs.Carried.{carried_as_judged, carried_count}

-- the names of the requests within a reach
abbrev pub names_within : Reach → List Kept → List Name
names_within reach table = taken_within (λ (q : Request). q.id) reach table

-- the requests of the names
abbrev pub is_among : List Name → Request → Bool
is_among ids q = has_name ids q.id

-- ---- what doesn't change

-- the order is that of the names
ascends : List Name → Bool
ascends [] = true
ascends (n ∷ []) = true
ascends (n ∷ m ∷ rest) = name_lt n m && ascends (m ∷ rest)

order_of_names : (table : List Kept) → is_in_order table ≡ ascends (map name_of table)
unfolding ascends
order_of_names [] = refl
order_of_names (k ∷ []) = refl
order_of_names (k ∷ x ∷ table) = ap (λ b. name_lt k.request.id x.request.id && b) (order_of_names (x ∷ table))

module _ (names : List Name) (p : Policy) (version : ℕ) (part : Request → Bool) where
  names_after : (table : List Kept) → map name_of (states_after_in part names p version table) ≡ map name_of table
  names_after [] = refl
  names_after (k ∷ table) = ap (λ n. n ∷ map name_of (states_after_in part names p version table)) (by (part k.request)) ∙ ap (λ ns. k.request.id ∷ ns) (names_after table)
    where
      by : (b : Bool) → (kept_in names p version b k).request.id ≡ k.request.id
      by true = refl
      by false = refl

  pub order_after : (table : List Kept) → is_in_order (states_after_in part names p version table) ≡ is_in_order table
  order_after table = order_of_names (states_after_in part names p version table) ∙ ap ascends (names_after table) ∙ sym (order_of_names table)

  requests_after : (table : List Kept) (n : Name) → kept_request (states_after_in part names p version table) n ≡ kept_request table n
  requests_after [] n = refl
  requests_after (k ∷ table) n = by (part k.request) (requests_after table n)
    where
      one : (k' : Kept) (b : Bool) → k'.request ≡ k.request → kept_request (states_after_in part names p version table) n ≡ kept_request table n
          → option_map (λ (x : Kept). x.request) (cond b (Some k') (kept_of (states_after_in part names p version table) n)) ≡ option_map (λ (x : Kept). x.request) (cond b (Some k) (kept_of table n))
      one k' true same rest = ap Some same
      one k' false same rest = rest

      by : (b : Bool) → kept_request (states_after_in part names p version table) n ≡ kept_request table n → option_map (λ (x : Kept). x.request)
          (cond (name_eq (kept_in names p version b k).request.id n) (Some (kept_in names p version b k)) (kept_of (states_after_in part names p version table) n)) ≡ kept_request (k ∷ table) n
      by true rest = one (kept_after names p version k) (name_eq k.request.id n) refl rest
      by false rest = one k (name_eq k.request.id n) refl rest

  pub verdict_after : (table : List Kept) (n : Name) → verdict_on names p (states_after_in part names p version table) n ≡ verdict_on names p table n
  verdict_after table n = ap (λ x. option_map_or (request_verdict names p) x Granted) (requests_after table n)

  pub carried_early : (table : List Kept) (n : Name) → is_in_order table ≡ true
      → with_verdict version (judgement_on names p table n) (states_after_in part names p version table)
      ≡ states_after_in (is_named n) names p version (states_after_in part names p version table)
  carried_early table n order =
      ap (λ w. with_verdict version (record { id = n; verdict = w }) (states_after_in part names p version table)) (sym (verdict_after table n))
      ∙ carried_as_judged names p version n (states_after_in part names p version table) (order_after table ∙ order)

-- ---- one more that is carried out

module _ (names : List Name) (p : Policy) (version : ℕ) (ids : List Name) (table : List Kept) where
  among_more : (i : ℕ) → i < length ids → (q : Request) → (is_among (take i ids) q || is_named (get_or ids i start) q) ≡ is_among (take (i + 1) ids) q
  among_more i lt q =
      sym (ap (λ ns. is_among ns q) (take_more ids i start lt)
      ∙ list_any-append (name_eq q.id) (take i ids) (get_or ids i start ∷ [])
      ∙ ap (λ b. is_among (take i ids) q || b) (by (name_eq q.id (get_or ids i start))))
    where
      by : (b : Bool) → (b || false) ≡ b
      by true = refl
      by false = refl

  all_more : (i : ℕ) → i < length ids
      → AllByRecursion (IsSameFor names p version (λ q. is_among (take i ids) q || is_named (get_or ids i start) q) (is_among (take (i + 1) ids))) table
  all_more i lt =
      each_by (IsSameFor names p version (λ q. is_among (take i ids) q || is_named (get_or ids i start) q) (is_among (take (i + 1) ids)))
      (λ k. ap (λ b. b && is_undone names p k) (among_more i lt k.request)) table

  states_more : (i : ℕ) (j : Judgement) (states new : List Kept) → i < length ids → j ≡ judgement_on names p table (get_or ids i start) → is_in_order table ≡ true
      → states ≡ states_after_in (is_among (take i ids)) names p version table → new ≡ with_verdict version j states
      → new ≡ states_after_in (is_among (take (i + 1) ids)) names p version table
  states_more i j states new lt judged order before carried =
      let n = get_or ids i start in
      carried ∙ ap (λ x. with_verdict version x states) judged
      ∙ ap (λ t. with_verdict version (judgement_on names p table n) t) before
      ∙ carried_early names p version (is_among (take i ids)) table n order
      ∙ states_twice names p version (is_named n) (is_among (take i ids)) table
      ∙ states_same names p version (λ q. is_among (take i ids) q || is_named n q) (is_among (take (i + 1) ids)) table (all_more i lt)

  undone_more : (i : ℕ) (j : Judgement) (states : List Kept) → i < length ids → j ≡ judgement_on names p table (get_or ids i start) → is_in_order table ≡ true
      → states ≡ states_after_in (is_among (take i ids)) names p version table
      → undone_in (is_among (take (i + 1) ids)) names p table ≡ undone_in (is_among (take i ids)) names p table + one_if (is_tentative_named states j.id && is_denied j.verdict)
  undone_more i j states lt judged order before =
      let n = get_or ids i start in
      let after = states_after_in (is_among (take i ids)) names p version table in
      let twice = undone_twice names p version (is_named n) (is_among (take i ids)) table in
      let same = undone_same names p version (λ q. is_among (take i ids) q || is_named n q) (is_among (take (i + 1) ids)) table (all_more i lt) in
      let one : undone_in (is_named n) names p after ≡ one_if (is_tentative_named states j.id && is_denied j.verdict) =
      carried_count names p version n after (order_after names p version (is_among (take i ids)) table ∙ order)
      ∙ ap (λ w. one_if (is_tentative_named after n && is_denied w)) (verdict_after names p version (is_among (take i ids)) table n)
      ∙ ap (λ t. one_if (is_tentative_named t n && is_denied (verdict_on names p table n))) (sym before)
      ∙ ap (λ (x : Judgement). one_if (is_tentative_named states x.id && is_denied x.verdict)) (sym judged) in
      omega (arith, twice, same, one)

  -- the judgement at a place is that on the name there
  judged_at : (js : List Judgement) (i : ℕ) (d j : Judgement) → js ≡ map (judgement_on names p table) ids → i < length js → get_or js i d ≡ j
      → (i < length ids) × (j ≡ judgement_on names p table (get_or ids i start))
  judged_at js i d j are lt at =
      let long : length js ≡ length ids = ap length are ∙ length-map ids (judgement_on names p table) in
      let within : i < length ids = omega arith in
      (within, sym at ∙ ap (λ xs. get_or xs i d) are ∙ get_or-map (judgement_on names p table) ids i start d within)

  -- so by one judgement more its name is carried out
  module _ (js : List Judgement) (i : ℕ) (d j : Judgement) (states : List Kept) (are : js ≡ map (judgement_on names p table) ids) (lt : i < length js) (at : get_or js i d ≡ j)
      (order : is_in_order table ≡ true) (before : states ≡ states_after_in (is_among (take i ids)) names p version table) where
    here : (i < length ids) × (j ≡ judgement_on names p table (get_or ids i start))
    here = judged_at js i d j are lt at

    pub states_next : (new : List Kept) → new ≡ with_verdict version j states → new ≡ states_after_in (is_among (take (i + 1) ids)) names p version table
    states_next new carried = states_more i j states new here.0 here.1 order before carried

    pub undone_next : undone_in (is_among (take (i + 1) ids)) names p table ≡ undone_in (is_among (take i ids)) names p table + one_if (is_tentative_named states j.id && is_denied j.verdict)
    undone_next = undone_more i j states here.0 here.1 order before

-- ---- those within the reach are all that are undone

module _ (names : List Name) (p : Policy) (version : ℕ) (reach : Reach) (table : List Kept) where
  abbrev IsListed : Kept → Type 0
  IsListed k = IsListedIn (λ (q : Request). q.id) reach table k

  all_reached : kept_of table start ≡ None → are_reached reach names p table ≡ true → AllByRecursion (IsSameFor names p version (is_among (names_within reach table)) every_request) table
  all_reached absent h =
      all_by
      (λ k. IsSameFor names p version (λ q. is_reached reach (user_of q)) (λ q. true) k × IsListed k)
      (IsSameFor names p version (is_among (names_within reach table)) every_request)
      (λ k both. by (is_tentative k.state) (is_denied (request_verdict names p k.request)) (is_reached reach (user_of k.request)) (has_name (names_within reach table) k.request.id) both.0 both.1)
      table
      (all_both (IsSameFor names p version (λ q. is_reached reach (user_of q)) (λ q. true)) IsListed
      table (within_reach names p version reach table h) (each_listed (λ (q : Request). q.id) reach table absent))
    where
      none : (h : Bool) → (h && false) ≡ false
      none true = refl
      none false = refl

      by : (t d r h : Bool) → (r && (t && d)) ≡ (true && (t && d)) → (t ≡ true → r ≡ true → h ≡ true) → (h && (t && d)) ≡ (true && (t && d))
      by true true true h same listed = ap (λ b. b && true) (listed refl refl)
      by true true false h same listed = absurd cc
      by true false r h same listed = none h
      by false d r h same listed = none h

  pub states_swept : (i : ℕ) → i ≡ length (names_within reach table) → kept_of table start ≡ None → are_reached reach names p table ≡ true
      → states_after_in (is_among (take i (names_within reach table))) names p version table ≡ states_after_in every_request names p version table
  states_swept i end absent h =
      ap (λ n. states_after_in (is_among (take n (names_within reach table))) names p version table) end
      ∙ ap (λ ns. states_after_in (is_among ns) names p version table) (take-length (names_within reach table))
      ∙ states_same names p version (is_among (names_within reach table)) every_request table (all_reached absent h)

  pub undone_swept : (i : ℕ) → i ≡ length (names_within reach table) → kept_of table start ≡ None → are_reached reach names p table ≡ true
      → undone_in (is_among (take i (names_within reach table))) names p table ≡ undone_in every_request names p table
  undone_swept i end absent h =
      ap (λ n. undone_in (is_among (take n (names_within reach table))) names p table) end
      ∙ ap (λ ns. undone_in (is_among ns) names p table) (take-length (names_within reach table))
      ∙ undone_same names p version (is_among (names_within reach table)) every_request table (all_reached absent h)
