-- Sweeps of parts of the requests, put together.
use Rattle.std.proofs.Common.{◌≡◌, ℕ, suc, ◌+◌, ◌≤◌, Bool, true, false, not, cond, ◌&&◌, ◌||◌, List, [], ◌∷◌, length, refl, sym, ap, ◌∙◌, arith}
use Rattle.std.specs.Prelude.{count_by}
use Rattle.std.specs.List.{AllByRecursion}
use Rattle.std.proofs.lemmas.List.Sums.{sum_by-cons, count_by-le-length}
use Rattle.element_name.specs.Name.{Name, has_name}
use Rattle.coop_request.specs.Request.{Request, user_of, element_of}
use Rattle.policy_book.specs.Policy.{Policy}
use Rattle.policy_book.specs.declared.reach.Reach.{Reach}
use Rattle.policy_book.specs.Reach.{is_reached}
use Rattle.auth_match.specs.declared.verdict.Verdict.{Verdict}
use Rattle.auth_match.specs.declared.verdict.Verdict.TheVariants.{Granted, Denied}
use Rattle.auth_match.specs.Requests.{request_verdict}
use Rattle.request_state.specs.declared.state.State.{State}
use Rattle.request_state.specs.declared.state.State.TheVariants.{Tentative, Valid, Invalid}
use Rattle.request_state.specs.declared.kept.Kept.{Kept}
use Rattle.request_state.specs.State.{is_tentative}
use Rattle.retro_undo.specs.Undo.{state_after_verdict, kept_after, is_denied, is_undone, have_elements, are_reached, states_after_in, undone_in}

-- ---- of one state

stays_by : (s : State) (version : ℕ) (w : Verdict) → (is_tentative s && is_denied w) ≡ false → state_after_verdict s version w ≡ s
stays_by Tentative version Granted h = refl
stays_by Tentative version (Denied a) h = absurd cc
stays_by (Valid at) version w h = refl
stays_by (Invalid at a) version w h = refl

again_by : (s : State) (version : ℕ) (w : Verdict) → state_after_verdict (state_after_verdict s version w) version w ≡ state_after_verdict s version w
again_by Tentative version Granted = refl
again_by Tentative version (Denied a) = refl
again_by (Valid at) version w = refl
again_by (Invalid at a) version w = refl

done_by : (s : State) (version : ℕ) (w : Verdict) → (is_tentative (state_after_verdict s version w) && is_denied w) ≡ false
done_by Tentative version Granted = refl
done_by Tentative version (Denied a) = refl
done_by (Valid at) version w = refl
done_by (Invalid at a) version w = refl

pub count_cons : {X : Type 0} (test : X → Bool) (x : X) (xs : List X) → count_by test (x ∷ xs) ≡ cond (test x) 1 0 + count_by test xs
count_cons test x xs = sum_by-cons (λ y. cond (test y) 1 0) x xs

pub all_by : {X : Type 0} (P Q : X → Type 0) → ((x : X) → P x → Q x) → (xs : List X) → AllByRecursion P xs → AllByRecursion Q xs
all_by P Q weaker [] all = tt
all_by P Q weaker (x ∷ xs) all = (weaker x all.0, all_by P Q weaker xs all.1)

pub all_both : {X : Type 0} (P Q : X → Type 0) (xs : List X) → AllByRecursion P xs → AllByRecursion Q xs → AllByRecursion (λ x. P x × Q x) xs
all_both P Q [] a b = tt
all_both P Q (x ∷ xs) a b = ((a.0, b.0), all_both P Q xs a.1 b.1)

pub each_by : {X : Type 0} (P : X → Type 0) → ((x : X) → P x) → (xs : List X) → AllByRecursion P xs
each_by P every [] = tt
each_by P every (x ∷ xs) = (every x, each_by P every xs)

module _ (names : List Name) (p : Policy) (version : ℕ) where
  pub stays : (k : Kept) → is_undone names p k ≡ false → kept_after names p version k ≡ k
  stays k h = ap (λ s. record { request = k.request; state = s }) (stays_by k.state version (request_verdict names p k.request) h)

  again : (k : Kept) → kept_after names p version (kept_after names p version k) ≡ kept_after names p version k
  again k = ap (λ s. record { request = k.request; state = s }) (again_by k.state version (request_verdict names p k.request))

  pub done : (k : Kept) → is_undone names p (kept_after names p version k) ≡ false
  done k = done_by k.state version (request_verdict names p k.request)

  -- what is kept of a request that may be of the part
  abbrev pub kept_in : Bool → Kept → Kept
  kept_in b k = cond b (kept_after names p version k) k

  -- ---- parts in which the same requests are undone

  abbrev pub IsSameFor : (Request → Bool) → (Request → Bool) → Kept → Type 0
  IsSameFor a b k = (a k.request && is_undone names p k) ≡ (b k.request && is_undone names p k)

  kept_same : (k : Kept) (x y u : Bool) → is_undone names p k ≡ u → (x && u) ≡ (y && u) → kept_in x k ≡ kept_in y k
  kept_same k true true u is same = refl
  kept_same k false false u is same = refl
  kept_same k true false false is same = stays k is
  kept_same k false true false is same = sym (stays k is)
  kept_same k true false true is same = absurd cc
  kept_same k false true true is same = absurd cc

  pub states_same : (a b : Request → Bool) (table : List Kept) → AllByRecursion (IsSameFor a b) table → states_after_in a names p version table ≡ states_after_in b names p version table
  states_same a b [] all = refl
  states_same a b (k ∷ table) all =
      ap (λ x. x ∷ states_after_in a names p version table) (kept_same k (a k.request) (b k.request) (is_undone names p k) refl all.0)
      ∙ ap (λ rest. kept_in (b k.request) k ∷ rest) (states_same a b table all.1)

  pub undone_same : (a b : Request → Bool) (table : List Kept) → AllByRecursion (IsSameFor a b) table → undone_in a names p table ≡ undone_in b names p table
  undone_same a b [] all = refl
  undone_same a b (k ∷ table) all =
      count_cons (λ x. a x.request && is_undone names p x) k table
      ∙ ap (λ t. cond t 1 0 + undone_in a names p table) all.0
      ∙ ap (λ n. cond (b k.request && is_undone names p k) 1 0 + n) (undone_same a b table all.1)
      ∙ sym (count_cons (λ x. b x.request && is_undone names p x) k table)

  -- ---- the empty part

  pub states_of_none : (table : List Kept) → states_after_in (λ q. false) names p version table ≡ table
  states_of_none [] = refl
  states_of_none (k ∷ table) = ap (λ rest. k ∷ rest) (states_of_none table)

  pub undone_of_none : (table : List Kept) → undone_in (λ q. false) names p table ≡ 0
  undone_of_none [] = refl
  undone_of_none (k ∷ table) = count_cons (λ (x : Kept). false) k table ∙ ap (λ n. 0 + n) (undone_of_none table)

  -- ---- one part after another

  twice : (a : Request → Bool) (k : Kept) (x : Bool) → cond (a (kept_in x k).request) (kept_after names p version (kept_in x k)) (kept_in x k) ≡ kept_in (x || a k.request) k
  twice a k true = by (a k.request)
    where
      by : (y : Bool) → cond y (kept_after names p version (kept_after names p version k)) (kept_after names p version k) ≡ kept_after names p version k
      by true = again k
      by false = refl
  twice a k false = refl

  pub states_twice : (a b : Request → Bool) (table : List Kept)
      → states_after_in a names p version (states_after_in b names p version table) ≡ states_after_in (λ q. b q || a q) names p version table
  states_twice a b [] = refl
  states_twice a b (k ∷ table) =
      ap (λ x. x ∷ states_after_in a names p version (states_after_in b names p version table)) (twice a k (b k.request))
      ∙ ap (λ rest. kept_in (b k.request || a k.request) k ∷ rest) (states_twice a b table)

  undone_once : (a : Request → Bool) (k : Kept) (x : Bool)
      → cond (a (kept_in x k).request && is_undone names p (kept_in x k)) 1 0 + cond (x && is_undone names p k) 1 0 ≡ cond ((x || a k.request) && is_undone names p k) 1 0
  undone_once a k true = by (a k.request) (is_undone names p (kept_after names p version k)) (done k)
    where
      by : (y u : Bool) → u ≡ false → cond (y && u) 1 0 + cond (is_undone names p k) 1 0 ≡ cond (is_undone names p k) 1 0
      by true u none = ap (λ t. cond t 1 0 + cond (is_undone names p k) 1 0) none ∙ omega arith
      by false u none = omega arith
  undone_once a k false = omega arith

  pub undone_twice : (a b : Request → Bool) (table : List Kept)
      → undone_in a names p (states_after_in b names p version table) + undone_in b names p table ≡ undone_in (λ q. b q || a q) names p table
  undone_twice a b [] = refl
  undone_twice a b (k ∷ table) =
      let first = count_cons (λ x. a x.request && is_undone names p x) (kept_in (b k.request) k) (states_after_in b names p version table) in
      let second = count_cons (λ x. b x.request && is_undone names p x) k table in
      let both = count_cons (λ x. (b x.request || a x.request) && is_undone names p x) k table in
      let here = undone_once a k (b k.request) in
      let rest = undone_twice a b table in
      omega (arith, first, second, both, here, rest)

  -- ---- what a sweep keeps

  pub elements_after : (part : Request → Bool) (table : List Kept) → have_elements names (states_after_in part names p version table) ≡ have_elements names table
  elements_after part [] = refl
  elements_after part (k ∷ table) = by (part k.request) (elements_after part table)
    where
      by : (b : Bool) → have_elements names (states_after_in part names p version table) ≡ have_elements names table
          → (has_name names (element_of (kept_in b k).request) && have_elements names (states_after_in part names p version table)) ≡ (has_name names (element_of k.request) && have_elements names table)
      by true rest = ap (λ r. has_name names (element_of k.request) && r) rest
      by false rest = ap (λ r. has_name names (element_of k.request) && r) rest

  pub length_after : (part : Request → Bool) (table : List Kept) → length (states_after_in part names p version table) ≡ length table
  length_after part [] = refl
  length_after part (k ∷ table) = ap (λ n. suc n) (length_after part table)

  pub few_undone : (part : Request → Bool) (table : List Kept) → undone_in part names p table ≤ length table
  few_undone part table = count_by-le-length (λ k. part k.request && is_undone names p k) table

  -- ---- those within the reach are all that are undone

  reached_same : (r : Reach) (k : Kept) (u x : Bool) → (not u || x) ≡ true → (x && u) ≡ (true && u)
  reached_same r k true true h = refl
  reached_same r k true false h = absurd cc
  reached_same r k false true h = refl
  reached_same r k false false h = refl

  both_true : (a b : Bool) → (a && b) ≡ true → (a ≡ true) × (b ≡ true)
  both_true true b e = (refl, e)
  both_true false b e = absurd cc

  pub within_reach : (reach : Reach) (table : List Kept) → are_reached reach names p table ≡ true → AllByRecursion (IsSameFor (λ q. is_reached reach (user_of q)) (λ q. true)) table
  within_reach reach [] h = tt
  within_reach reach (k ∷ table) h =
      let parts = both_true (not (is_undone names p k) || is_reached reach (user_of k.request)) (are_reached reach names p table) h in
      (reached_same reach k (is_undone names p k) (is_reached reach (user_of k.request)) parts.0, within_reach reach table parts.1)
