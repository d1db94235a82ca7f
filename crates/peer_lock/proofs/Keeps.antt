-- Each step keeps the rule.
use Rattle.std.proofs.Common.{◌≡◌, ℕ, zero, suc, ◌+◌, ◌%◌, ◌^◌, ◌<◌, ◌≤◌, ◌≢◌, ◌⊎◌, max, Bool, true, false, true≢false, List, [], ◌∷◌, ◌++◌, length, map, get_or, set, sym, refl, ap, ◌∙◌, subst, inl, inr, ⊎_elim, arith, cond, eqb, eq-eqb, ne_eqb, lt-ltb, le-ltb, length-append, append_assoc, append-nil}
use mathlib.Core.Logic.{dite}
use native.Mathlib.Decide.{ℕ_discrete, dec_le}
use mathlib.Core.Option.{Option, none, some, some-injective, some-ne-none}
use lib.ListN.{get_elem?}
use lib.Seq.{set-get_or}
use prog.Atomic.{either}
use Rattle.atomic_table.specs.Table.{State, opening, Act, keeps, takes, gives, Valid, carried_after, stepped, step, Allows, Splits, Joins, Final, Seen}
use Rattle.atomic_table.proofs.Lists.{at_set, at_snoc, set_else, exchanged}
use Rattle.peer_lock.specs.Run.{Recorded, recorded, steps_by, StartsWith}
use Rattle.peer_lock.specs.Rule.{total, times, HasNumber, Knows, AllKnown, IsLonger, Fits, spent, newcomer, Sits, hands, IsOneRun, turned_away, taking, looking, counting, freeing, longer, united, dealt, Seated, grabbed, looked, counted, freed}
use Rattle.peer_lock.specs.Moves.{CanCount, CanFree}
use Rattle.peer_step.specs.declared.step.Step.{Step}
use Rattle.peer_lock.specs.declared.limits.TheConstants.{MAX_RUN, MAX_PASSES}
use Rattle.peer_lock.specs.declared.call.Call.{Call}
use Rattle.peer_lock.specs.declared.view.Old.{Old}
use Rattle.peer_lock.specs.declared.view.View.{View}
use Rattle.peer_lock.proofs.Lists.{total-append, total-set, term_le, terms_le, times-append, times_le_length, below_yes, below_no, is_below, at_most_one, below_more, steps-append, steps_other, no_back, begins, same_length, some_term, sole_term}

abbrev St : Type 0
St = State Recorded View

abbrev table : List ℕ → List (Option Recorded) → List View → St
table ws hs vs = record { words = ws; homes = hs; views = vs }

off : false ≡ true → ⊥
off e = true≢false (sym e)

no_hand : (v : View) → v.hand ≡ false → hands v ≡ 0
no_hand v e = ap (λ b. cond {A = ℕ} b 1 0) e

one_hand : (v : View) → v.hand ≡ true → hands v ≡ 1
one_hand v e = ap (λ b. cond {A = ℕ} b 1 0) e

-- a view with a number, with the gate, or with a count of passes is not spent
pub live_fits : (origin : ℕ) (run : List Call) (v : View) → 0 < length v.numbers → Sits origin run v → Fits run v × (v.origin ≡ origin)
live_fits origin run v live sits = ⊎_elim (λ (e : v ≡ spent). absurd (omega (arith, ap (λ (u : View). length u.numbers) e))) (λ (t : Fits run v × (v.origin ≡ origin)). t) sits

hand_fits : (origin : ℕ) (run : List Call) (v : View) → v.hand ≡ true → Sits origin run v → Fits run v × (v.origin ≡ origin)
hand_fits origin run v has sits = ⊎_elim (λ (e : v ≡ spent). absurd (off (sym (ap (λ (u : View). u.hand) e) ∙ has))) (λ (t : Fits run v × (v.origin ≡ origin)). t) sits

made_fits : (origin : ℕ) (run : List Call) (v : View) → 0 < v.made → Sits origin run v → Fits run v × (v.origin ≡ origin)
made_fits origin run v some-made sits = ⊎_elim (λ (e : v ≡ spent). absurd (omega (arith, ap (λ (u : View). u.made) e))) (λ (t : Fits run v × (v.origin ≡ origin)). t) sits

-- a step after which one view is another, with the same numbers
moved : (origin : ℕ) (s : St) (k : IsOneRun origin s) (id : ℕ) (v w : View) (gate : ℕ) (run : List Call) (ws : List ℕ) (hs : List (Option Recorded))
    → get_elem? s.views id ≡ some v → w.numbers ≡ v.numbers → w.made ≡ v.made
    → ws ≡ gate ∷ length run ∷ [] → length run ≤ MAX_RUN → gate ≤ 1 → gate + hands v ≡ k.gate + hands w
    → (gate ≡ 0 → hs ≡ some (recorded origin run) ∷ []) → (gate ≡ 1 → hs ≡ none ∷ [])
    → ((j : ℕ) (u : View) → j ≢ id → get_elem? s.views j ≡ some u → Sits origin run u)
    → Sits origin run w
    → ((x : ℕ) → k.most ≤ x → steps_by x run ≡ [])
    → IsOneRun origin (table ws hs (set s.views id w))
moved origin s k id v w gate run ws hs at numbers made words short bit gates home out others mine callers = record {
  gate = gate;
  run = run;
  most = k.most;
  words = words;
  short = short;
  bit = bit;
  gates = omega (arith, total-set hands s.views id v w at, k.gates);
  home = home;
  out = out;
  fits = λ j u e. ⊎_elim (λ (t : (j ≡ id) × (w ≡ u)). subst (Sits origin run) t.1 mine) (λ (t : (j ≢ id) × (get_elem? s.views j ≡ some u)). others j u t.0 t.1) (at_set s.views id j w u e);
  once = λ x. omega (arith, total-set (λ (u : View). times x u.numbers) s.views id v w at, ap (times x) numbers, k.once x);
  weights = omega (arith, total-set (λ (u : View). length u.numbers) s.views id v w at, ap (λ (l : List ℕ). length l) numbers, k.weights);
  chief = omega (arith, total-set (λ (u : View). u.made) s.views id v w at, k.chief);
  chiefs = λ j u e. ⊎_elim (λ (t : (j ≡ id) × (w ≡ u)). subst (λ (m : ℕ). (m ≡ 0) ⊎ (m ≡ k.most)) (sym made ∙ ap (λ (y : View). y.made) t.1) (k.chiefs id v at)) (λ (t : (j ≢ id) × (get_elem? s.views j ≡ some u)). k.chiefs j u t.1) (at_set s.views id j w u e);
  few = k.few;
  callers = callers;
}

pub grabs : (origin slots id : ℕ) (v : View) → 0 < length v.numbers → v.hand ≡ false
    → Allows (IsOneRun origin) slots id (v, []) 0 (λ n. either (eqb n 0) 1 n) (grabbed (step slots 0 0 1 none) (v, []))
grabs origin slots id v live free s k wide at small =
    let found : ℕ = get_or s.words 0 0 in
    let is : found ≡ k.gate = ap (λ (ws : List ℕ). get_or ws 0 0) k.words in
    let fit = live_fits origin k.run v live (k.fits id v at) in
    let F : ℕ → Type 0 = λ m. (w : View) × (a : Act Recorded) × Valid s.homes [] a × IsOneRun origin (stepped s 0 m id [] w a) × grabbed (step slots 0 0 1 none) (v, []) found (w, carried_after [] a) in
    let hit : found ≡ 0 → F 1 = λ e.
    let none-has : k.gate ≡ 0 = sym is ∙ e in
    let w = taking v k.run in
    let fits : Fits k.run w = record { knows = fit.0.knows; floor = fit.0.floor; high = fit.0.high; named = fit.0.named; olds = fit.0.olds; held = λ _. inl (refl, (fit.0.knows.0, fit.0.knows.1)) } in (
      w,
      takes 0 (recorded origin k.run),
      ap (λ (hs : List (Option Recorded)). get_elem? hs 0) (k.home none-has),
      moved origin s k id v w 1 k.run (set s.words 0 1) (set s.homes 0 none) at refl refl (ap (λ (ws : List ℕ). set ws 0 1) k.words) k.short (omega arith) (omega (arith, no_hand v free)) (λ z. absurd (omega arith)) (λ _. ap (λ (hs : List (Option Recorded)). set hs 0 none) (k.home none-has)) (λ j u _ there. k.fits j u there) (inr (fits, fit.1)) k.callers,
      ((λ _. (k.run, fit.0, k.short, λ i. (w, (0, recorded (sym fit.1 i) k.run) ∷ []))), (λ ne. absurd (ne e))),
    ) in
    let miss : found ≢ 0 → F found = λ ne.
    let w = turned_away v in
    let fits : Fits k.run w = record { knows = fit.0.knows; floor = fit.0.floor; high = fit.0.high; named = fit.0.named; olds = fit.0.olds; held = fit.0.held } in (
      w,
      keeps,
      tt,
      moved origin s k id v w k.gate k.run (set s.words 0 found) s.homes at refl refl (set-get_or s.words 0 0 ∙ k.words) k.short k.bit refl k.home k.out (λ j u _ there. k.fits j u there) (inr (fits, fit.1)) k.callers,
      ((λ e. absurd (ne e)), (λ _. refl)),
    ) in
    exchanged found 0 1 F hit miss

pub looks : (origin slots id : ℕ) (v : View) (c : List (ℕ × Recorded)) → 0 < length v.numbers
    → Allows (IsOneRun origin) slots id (v, c) 1 (λ n. n) (looked (step slots 1 0 0 none) (v, c))
looks origin slots id v c live s k wide at small =
    let found : ℕ = get_or s.words 1 0 in
    let is : found ≡ length k.run = ap (λ (ws : List ℕ). get_or ws 1 0) k.words in
    let fit = live_fits origin k.run v live (k.fits id v at) in
    let w = looking v found in
    let long : length v.seen ≤ found = omega (arith, ap (λ (r : List Call). length r) fit.0.knows.1, length-append v.seen fit.0.knows.0) in
    let fits : Fits k.run w = record { knows = fit.0.knows; floor = long; high = omega arith; named = fit.0.named; olds = tt; held = fit.0.held } in
    let mine = term_le (λ (u : View). length u.numbers) s.views id v at in (
      w,
      keeps,
      tt,
      moved origin s k id v w k.gate k.run (set s.words 1 found) s.homes at refl refl (set-get_or s.words 1 0 ∙ k.words) k.short k.bit refl k.home k.out (λ j u _ there. k.fits j u there) (inr (fits, fit.1)) k.callers,
      (k.run, fit.0, omega (arith, k.weights, k.few), k.short, is, refl),
    )

pub frees : (origin slots id : ℕ) (v : View) (h : Recorded) → v.hand ≡ true → h.site ≡ v.origin
    → ((h.run ≡ v.base) × (length v.seen ≤ length v.base)) ⊎ ((h.run ≡ v.seen) × (length v.base ≤ length v.seen))
    → Allows (IsOneRun origin) slots id (v, (0, h) ∷ []) 0 (λ _. 0) (λ _. freed (step slots 0 0 0 none) (v, (0, h) ∷ []) 0)
frees origin slots id v h has site last s k wide at small =
    let fit = hand_fits origin k.run v has (k.fits id v at) in
    let mine = term_le hands s.views id v at in
    let taken : k.gate ≡ 1 = omega (arith, k.gates, k.bit, one_hand v has) in
    let w = freeing v in
    let fits : Fits k.run w = record { knows = fit.0.knows; floor = fit.0.floor; high = fit.0.high; named = fit.0.named; olds = fit.0.olds; held = λ f. absurd (off f) } in
    let same : h.run ≡ k.run = same_run k.run v h (fit.0.held has) last in
    let whole : h ≡ recorded origin k.run = λ i. recorded ((site ∙ fit.1) i) (same i) in (
      w,
      gives,
      tt,
      moved origin s k id v w 0 k.run (set s.words 0 0) (set s.homes 0 (some h)) at refl refl (ap (λ (ws : List ℕ). set ws 0 0) k.words) k.short (omega arith) (omega (arith, one_hand v has)) (λ _. ap (λ (hs : List (Option Recorded)). set hs 0 (some h)) (k.out taken) ∙ ap (λ (t : Recorded). some t ∷ []) whole) (λ z. absurd (omega arith)) (λ j u _ there. k.fits j u there) (inr (fits, fit.1)) k.callers,
      refl,
    )
  where
    shorter : (xs ys : List Call) → StartsWith ys xs → length ys ≤ length xs → ys ≡ xs
    shorter xs ys begun short = let none-more : begun.0 ≡ [] = same_length xs begun.0 (omega (arith, ap (λ (l : List Call). length l) begun.1)) in begun.1 ∙ ap (λ (c : List Call). xs ++ c) none-more ∙ append-nil xs

    same_run : (run : List Call) (v : View) (h : Recorded) → IsLonger run v.base v.seen → ((h.run ≡ v.base) × (length v.seen ≤ length v.base)) ⊎ ((h.run ≡ v.seen) × (length v.base ≤ length v.seen)) → h.run ≡ run
    same_run run v h held last = ⊎_elim
        (λ (l : (h.run ≡ v.base) × (length v.seen ≤ length v.base)). ⊎_elim
        (λ (t : (run ≡ v.base) × StartsWith v.base v.seen). l.0 ∙ sym t.0)
        (λ (t : (run ≡ v.seen) × StartsWith v.seen v.base). l.0 ∙ sym (shorter v.base v.seen t.1 l.1) ∙ sym t.0)
        held)
        (λ (l : (h.run ≡ v.seen) × (length v.base ≤ length v.seen)). ⊎_elim
        (λ (t : (run ≡ v.base) × StartsWith v.base v.seen). l.0 ∙ sym (shorter v.seen v.base t.1 l.1) ∙ sym t.0)
        (λ (t : (run ≡ v.seen) × StartsWith v.seen v.base). l.0 ∙ sym t.0)
        held)
        last

-- the run grows by a step of a number that is none of these
knows_more : (run seen : List Call) (numbers : List ℕ) (e : Call) → ¬ (HasNumber numbers e.caller) → Knows run seen numbers → Knows (run ++ e ∷ []) seen numbers
knows_more run seen numbers e other k = (
  k.0 ++ e ∷ [],
  ap (λ (r : List Call). r ++ e ∷ []) k.1 ∙ append_assoc seen k.0 (e ∷ []),
  λ n has. steps-append n k.0 (e ∷ []) ∙ ap (λ (l : List Step). l ++ steps_by n (e ∷ [])) (k.2 n has) ∙ steps_other n e (λ same. other (subst (HasNumber numbers) (sym same) has)),
)

all_more : (run : List Call) (numbers : List ℕ) (olds : List Old) (e : Call) → ¬ (HasNumber numbers e.caller) → AllKnown run numbers olds → AllKnown (run ++ e ∷ []) numbers olds
all_more run numbers [] e other a = tt
all_more run numbers (o ∷ os) e other a = ((knows_more run o.seen o.numbers e (λ has. other (a.0.1 e.caller has)) a.0.0, a.0.1), all_more run numbers os e other a.1)

pub counts : (origin slots id : ℕ) (v : View) (h : Recorded) (e : Call) → v.hand ≡ true → h.run ≡ v.base ++ e ∷ [] → e.caller ≡ v.number
    → length v.seen ≤ length v.base → v.olds ≡ [] → length v.base < MAX_RUN
    → Allows (IsOneRun origin) slots id (v, (0, h) ∷ []) 1 (λ n. (n + 1) % 2 ^ 64) (counted (step slots 1 1 0 none) (v, (0, h) ∷ []))
counts origin slots id v h e has grown by begun calm room s k wide at small =
    let fit = hand_fits origin k.run v has (k.fits id v at) in
    let mine = term_le hands s.views id v at in
    let taken : k.gate ≡ 1 = omega (arith, k.gates, k.bit, one_hand v has) in
    let same : k.run ≡ v.base = based k.run v begun (fit.0.held has) in
    let next : List Call = k.run ++ e ∷ [] in
    let is : h.run ≡ next = grown ∙ ap (λ (r : List Call). r ++ e ∷ []) (sym same) in
    let longer-by : length next ≡ length k.run + 1 = length-append k.run (e ∷ []) in
    let room' : length k.run < MAX_RUN = omega (arith, ap (λ (r : List Call). length r) same) in
    let found : ℕ = get_or s.words 1 0 in
    let found-is : found ≡ length k.run = ap (λ (ws : List ℕ). get_or ws 1 0) k.words in
    let up : (found + 1) % 2 ^ 64 ≡ length next = omega arith in
    let w = counting v h.run in
    let mine-has : HasNumber v.numbers e.caller = subst (HasNumber v.numbers) (sym by) fit.0.named in
    let fits : Fits next w = record {
      knows = ([], sym is ∙ sym (append-nil h.run), λ n _. refl);
      floor = omega arith;
      high = omega (arith, ap (λ (r : List Call). length r) is);
      named = fit.0.named;
      olds = subst (AllKnown next v.numbers) (sym calm) tt;
      held = λ _. inr (sym is, (e ∷ [], grown));
    } in
    let others : (j : ℕ) (u : View) → j ≢ id → get_elem? s.views j ≡ some u → Sits origin next u = λ j u apart there.
    ⊎_elim (λ (gone : u ≡ spent). inl gone)
    (λ (t : Fits k.run u × (u.origin ≡ origin)).
    let not-theirs : ¬ (HasNumber u.numbers e.caller) = λ theirs. absurd (omega (arith, terms_le (λ (y : View). times e.caller y.numbers) s.views id j v u apart at there, k.once e.caller, at_most_one e.caller k.most)) in
    let no-gate : u.hand ≡ true → ⊥ = λ also. absurd (omega (arith, terms_le hands s.views id j v u apart at there, k.gates, k.bit, one_hand v has, one_hand u also)) in
    inr (
      record {
        knows = knows_more k.run u.seen u.numbers e not-theirs t.0.knows;
        floor = t.0.floor;
        high = omega (arith, t.0.high);
        named = t.0.named;
        olds = all_more k.run u.numbers u.olds e not-theirs t.0.olds;
        held = λ also. absurd (no-gate also);
      },
      t.1,
    ))
    (k.fits j u there) in
    let below : e.caller < k.most = is_below e.caller k.most (omega (arith, term_le (λ (y : View). times e.caller y.numbers) s.views id v at, k.once e.caller)) in (
      w,
      keeps,
      tt,
      moved origin s k id v w k.gate next (set s.words 1 ((found + 1) % 2 ^ 64)) s.homes at refl refl
          (ap (λ (ws : List ℕ). set ws 1 ((found + 1) % 2 ^ 64)) k.words ∙ ap (λ (n : ℕ). k.gate ∷ n ∷ []) up) (omega arith) k.bit refl (λ z. absurd (omega arith)) k.out others (inr (fits, fit.1))
          (λ x high. steps-append x k.run (e ∷ []) ∙ ap (λ (l : List Step). l ++ steps_by x (e ∷ [])) (k.callers x high) ∙ steps_other x e (λ same. absurd (omega arith))),
      (found-is ∙ ap (λ (r : List Call). length r) same, refl),
    )
  where
    based : (run : List Call) (v : View) → length v.seen ≤ length v.base → IsLonger run v.base v.seen → run ≡ v.base
    based run v short held = ⊎_elim
        (λ (t : (run ≡ v.base) × StartsWith v.base v.seen). t.0)
        (λ (t : (run ≡ v.seen) × StartsWith v.seen v.base).
        let none-more : t.1.0 ≡ [] = same_length v.base t.1.0 (omega (arith, ap (λ (l : List Call). length l) t.1.1)) in
        t.0 ∙ t.1.1 ∙ ap (λ (c : List Call). v.base ++ c) none-more ∙ append-nil v.base)
        held

-- the rule holds of a new table
pub opens : (origin : ℕ) (slots : List Recorded) → slots ≡ recorded origin [] ∷ [] → IsOneRun origin (opening (0 ∷ 0 ∷ []) slots (newcomer 0 1 origin))
opens origin slots is = record {
  gate = 0;
  run = [];
  most = 1;
  words = refl;
  short = omega arith;
  bit = omega arith;
  gates = refl;
  home = λ _. ap (λ (l : List Recorded). map some l) is;
  out = λ one. absurd (omega arith);
  fits = sole;
  once = λ x. omega (arith, below_more x 0, below_no x 0 (omega arith));
  weights = refl;
  chief = refl;
  chiefs = chief_alone;
  few = omega arith;
  callers = λ x high. refl;
}
  where
    first : View
    first = newcomer 0 1 origin

    sole : (i : ℕ) (v : View) → get_elem? (first ∷ []) i ≡ some v → Sits origin [] v
    sole zero v e =
        subst (Sits origin []) (some-injective first v e)
        (inr (record { knows = ([], refl, λ n has. refl); floor = omega arith; high = omega arith; named = omega arith; olds = tt; held = λ f. absurd (off f) }, refl))
    sole (suc i) v e = absurd (some-ne-none v (sym e))

    chief_alone : (i : ℕ) (v : View) → get_elem? (first ∷ []) i ≡ some v → (v.made ≡ 0) ⊎ (v.made ≡ 1)
    chief_alone zero v e = inr (ap (λ (u : View). u.made) (sym (some-injective first v e)))
    chief_alone (suc i) v e = absurd (some-ne-none v (sym e))

pub splits : (origin id : ℕ) (v : View) → 0 < v.made → v.made < MAX_PASSES → Splits (IsOneRun origin) id v (dealt v) (newcomer v.made 0 v.origin)
splits origin id v some-made room s k at =
    let fit = made_fits origin k.run v some-made (k.fits id v at) in
    let all : v.made ≡ k.most = ⊎_elim (λ (z : v.made ≡ 0). absurd (omega arith)) (λ (m : v.made ≡ k.most). m) (k.chiefs id v at) in
    let w = dealt v in
    let n = newcomer v.made 0 v.origin in
    let views : List View = set s.views id w in
    let dealt-fits : Fits k.run w = record { knows = fit.0.knows; floor = fit.0.floor; high = fit.0.high; named = fit.0.named; olds = fit.0.olds; held = fit.0.held } in
    let new-fits : Fits k.run n = record {
      knows = (k.run, refl, λ x has. k.callers x (omega (arith, only v.made x has)));
      floor = omega arith;
      high = omega arith;
      named = own v.made;
      olds = tt;
      held = λ f. absurd (off f);
    } in
    record {
      gate = k.gate;
      run = k.run;
      most = k.most + 1;
      words = k.words;
      short = k.short;
      bit = k.bit;
      gates = omega (arith, total-append hands views (n ∷ []), total-set hands s.views id v w at, k.gates);
      home = k.home;
      out = k.out;
      fits = λ j u e. ⊎_elim
          (λ (before : get_elem? views j ≡ some u). ⊎_elim
          (λ (t : (j ≡ id) × (w ≡ u)). subst (Sits origin k.run) t.1 (inr (dealt-fits, fit.1)))
          (λ (t : (j ≢ id) × (get_elem? s.views j ≡ some u)). k.fits j u t.1)
          (at_set s.views id j w u before))
          (λ (new : n ≡ u). subst (Sits origin k.run) new (inr (new-fits, fit.1)))
          (at_snoc views n u j e);
      once = λ x. omega (arith, total-append (λ (u : View). times x u.numbers) views (n ∷ []), total-set (λ (u : View). times x u.numbers) s.views id v w at, k.once x, below_more x k.most, ap (λ (m : ℕ). times x (m ∷ [])) all);
      weights = omega (arith, total-append (λ (u : View). length u.numbers) views (n ∷ []), total-set (λ (u : View). length u.numbers) s.views id v w at, k.weights);
      chief = omega (arith, total-append (λ (u : View). u.made) views (n ∷ []), total-set (λ (u : View). u.made) s.views id v w at, k.chief);
      chiefs = λ j u e. ⊎_elim
          (λ (before : get_elem? views j ≡ some u). ⊎_elim
          (λ (t : (j ≡ id) × (w ≡ u)). inr (ap (λ (y : View). y.made) (sym t.1) ∙ ap (λ (m : ℕ). m + 1) all))
          (λ (t : (j ≢ id) × (get_elem? s.views j ≡ some u)). ⊎_elim (λ (z : u.made ≡ 0). inl z) (λ (m : u.made ≡ k.most). absurd (omega (arith, terms_le (λ (y : View). y.made) s.views id j v u t.0 at t.1, k.chief))) (k.chiefs j u t.1))
          (at_set s.views id j w u before))
          (λ (new : n ≡ u). inl (ap (λ (y : View). y.made) (sym new)))
          (at_snoc views n u j e);
      few = omega arith;
      callers = λ x high. k.callers x (omega arith);
    }
  where
    own : (m : ℕ) → 0 < times m (m ∷ [])
    own m = omega (arith, ap (λ b. cond {A = ℕ} b 1 0) (eq-eqb m m refl))

    only : (m x : ℕ) → 0 < times x (m ∷ []) → m ≡ x
    only m x has = dite (ℕ_discrete m x) (λ e. e) (λ d. absurd (omega (arith, ap (λ b. cond {A = ℕ} b 1 0) (ne_eqb m x d))))

-- a fact of the longer of two runs
pub at_longer : (xs ys : List Call) (P : List Call → Type 0) → (length xs < length ys → P ys) → (length ys ≤ length xs → P xs) → P (longer xs ys)
at_longer xs ys P second first = dite (dec_le (length ys) (length xs))
    (λ le. subst (λ (b : Bool). P (cond b ys xs)) (sym (le-ltb (length xs) (length ys) le)) (first le))
    (λ no. let lt : length xs < length ys = omega arith in subst (λ (b : Bool). P (cond b ys xs)) (sym (lt-ltb (length xs) (length ys) lt)) (second lt))

-- where the run that was seen last is longer, it has no step of these numbers past the shorter one
still : (run a b : List Call) (numbers : List ℕ) → Knows run a numbers → (kb : StartsWith run b) → length a ≤ length b → (n : ℕ) → HasNumber numbers n → steps_by n kb.0 ≡ []
still run a b numbers ka kb le n has =
    let t = begins a b ka.0 kb.0 (sym ka.1 ∙ kb.1) le in
    no_back (steps_by n t.0) (steps_by n kb.0) (sym (steps-append n t.0 kb.0) ∙ ap (steps_by n) (sym t.2) ∙ ka.2 n has)

pub knows_longer : (run a b : List Call) (na nb : List ℕ) → Knows run a na → Knows run b nb → Knows run (longer a b) (na ++ nb)
knows_longer run a b na nb ka kb = at_longer a b (λ (l : List Call). Knows run l (na ++ nb))
    (λ lt. (kb.0, kb.1, λ n has. either-has n has (λ h. still run a b na ka (kb.0, kb.1) (omega arith) n h) (λ h. kb.2 n h)))
    (λ le. (ka.0, ka.1, λ n has. either-has n has (λ h. ka.2 n h) (λ h. still run b a nb kb (ka.0, ka.1) le n h)))
  where
    either-has : (n : ℕ) → HasNumber (na ++ nb) n → {P : Type 0} → (HasNumber na n → P) → (HasNumber nb n → P) → P
    either-has n has f g = dite (dec_le 1 (times n na)) (λ y. f (omega arith)) (λ no. g (omega (arith, times-append n na nb)))

pub joins : (origin id other : ℕ) (v w : View) → 0 < length v.numbers → 0 < length w.numbers → v.hand ≡ false → w.hand ≡ false
    → Joins (IsOneRun origin) id v other w (united v w) spent
joins origin id other v w v-live w-live v-free w-free s k at apart there =
    let b = united v w in
    let mid : List View = set s.views id b in
    let last : List View = set mid other spent in
    let theirs : get_elem? s.views other ≡ some w = sym (set_else s.views id other b apart) ∙ there in
    let fv = live_fits origin k.run v v-live (k.fits id v at) in
    let fw = live_fits origin k.run w w-live (k.fits other w theirs) in
    let shape : (f : View → ℕ) → f b ≡ f v + f w → f spent ≡ 0 → total f last ≡ total f s.views = λ f sum zero. omega (arith, total-set f s.views id v b at, total-set f mid other w spent there) in
    let top : (max v.made w.made ≡ v.made + w.made) × ((max v.made w.made ≡ 0) ⊎ (max v.made w.made ≡ k.most)) = tops v.made w.made k.most (k.chiefs id v at) (k.chiefs other w theirs) (omega (arith, terms_le (λ (y : View). y.made) s.views id other v w apart at theirs, k.chief)) in
    let fits : Fits k.run b = record {
      knows = knows_longer k.run v.seen w.seen v.numbers w.numbers fv.0.knows fw.0.knows;
      floor = at_longer v.seen w.seen (λ (l : List Call). length l ≤ max v.floor w.floor) (λ _. omega (arith, fw.0.floor)) (λ _. omega (arith, fv.0.floor));
      high = omega (arith, fv.0.high, fw.0.high);
      named = omega (arith, times-append v.number v.numbers w.numbers, fv.0.named);
      olds = (((fv.0.knows, λ n has. omega (arith, times-append n v.numbers w.numbers)), ((fw.0.knows, λ n has. omega (arith, times-append n v.numbers w.numbers)), tt)));
      held = λ has. absurd (off (sym v-free ∙ has));
    } in
    record {
      gate = k.gate;
      run = k.run;
      most = k.most;
      words = k.words;
      short = k.short;
      bit = k.bit;
      gates = shape hands (omega (arith, no_hand w w-free)) refl ∙ k.gates;
      home = k.home;
      out = k.out;
      fits = λ j u e. ⊎_elim
          (λ (t : (j ≡ other) × (spent ≡ u)). inl (sym t.1))
          (λ (t : (j ≢ other) × (get_elem? mid j ≡ some u)). ⊎_elim
          (λ (r : (j ≡ id) × (b ≡ u)). subst (Sits origin k.run) r.1 (inr (fits, fv.1)))
          (λ (r : (j ≢ id) × (get_elem? s.views j ≡ some u)). k.fits j u r.1)
          (at_set s.views id j b u t.1))
          (at_set mid other j spent u e);
      once = λ x. shape (λ (u : View). times x u.numbers) (times-append x v.numbers w.numbers) refl ∙ k.once x;
      weights = shape (λ (u : View). length u.numbers) (length-append v.numbers w.numbers) refl ∙ k.weights;
      chief = shape (λ (u : View). u.made) top.0 refl ∙ k.chief;
      chiefs = λ j u e. ⊎_elim
          (λ (t : (j ≡ other) × (spent ≡ u)). inl (ap (λ (y : View). y.made) (sym t.1)))
          (λ (t : (j ≢ other) × (get_elem? mid j ≡ some u)). ⊎_elim
          (λ (r : (j ≡ id) × (b ≡ u)). subst (λ (m : ℕ). (m ≡ 0) ⊎ (m ≡ k.most)) (ap (λ (y : View). y.made) r.1) top.1)
          (λ (r : (j ≢ id) × (get_elem? s.views j ≡ some u)). k.chiefs j u r.1)
          (at_set s.views id j b u t.1))
          (at_set mid other j spent u e);
      few = k.few;
      callers = k.callers;
    }
  where
    tops : (m n most : ℕ) → (m ≡ 0) ⊎ (m ≡ most) → (n ≡ 0) ⊎ (n ≡ most) → m + n ≤ most → (max m n ≡ m + n) × ((max m n ≡ 0) ⊎ (max m n ≡ most))
    tops m n most a b le = ⊎_elim
        (λ (x : m ≡ 0). ⊎_elim (λ (y : n ≡ 0). (omega arith, inl (omega arith))) (λ (y : n ≡ most). (omega arith, inr (omega arith))) b)
        (λ (x : m ≡ most). ⊎_elim (λ (y : n ≡ 0). (omega arith, inr (omega arith))) (λ (y : n ≡ most). (omega arith, inr (omega arith))) b)
        a

-- what a pass that has every number finds at the end
pub closes : (origin id : ℕ) (v : View) (ws : List ℕ) (xs : List Recorded) → 0 < length v.numbers → v.hand ≡ false → length v.numbers ≡ v.made
    → Final (Seen (IsOneRun origin) id v) ws xs
    → (h : Recorded) × (get_elem? xs 0 ≡ some h) × (h.site ≡ v.origin) × Fits h.run v
    × ((n : ℕ) → n < v.made → HasNumber v.numbers n) × ((n : ℕ) → v.made ≤ n → steps_by n h.run ≡ []) × (length h.run ≤ MAX_RUN)
closes origin id v ws xs live free whole final =
    let s = final.0 in
    let k = final.1.0 in
    let at = final.1.1 in
    let fit = live_fits origin k.run v live (k.fits id v at) in
    let all : v.made ≡ k.most = ⊎_elim (λ (z : v.made ≡ 0). absurd (omega arith)) (λ (m : v.made ≡ k.most). m) (k.chiefs id v at) in
    let others : (j : ℕ) (u : View) → j ≢ id → get_elem? s.views j ≡ some u → length u.numbers ≡ 0 = λ j u apart there. omega (arith, terms_le (λ (y : View). length y.numbers) s.views id j v u apart at there, k.weights) in
    let open-gate : k.gate ≡ 0 = dite (dec_le 1 k.gate)
    (λ taken.
    let t = some_term hands s.views (omega (arith, k.gates)) in
    absurd (nobody origin k.run id v s.views (others) free t.0 t.1 t.2 t.3 (k.fits t.0 t.1 t.2) at))
    (λ no. omega arith) in
    let h = recorded origin k.run in (
      h,
      final.4 0 h (ap (λ (hs : List (Option Recorded)). get_elem? hs 0) (k.home open-gate)),
      sym fit.1,
      fit.0,
      (λ n below. omega (
        arith,
        sole_term (λ (y : View). times n y.numbers) s.views id v at (λ j u apart there. omega (arith, times_le_length n u.numbers, others j u apart there)),
        k.once n,
        below_yes n k.most (omega arith),
      )),
      (λ n high. k.callers n (omega arith)),
      k.short,
    )
  where
    nobody : (origin : ℕ) (run : List Call) (id : ℕ) (v : View) (views : List View) → ((j : ℕ) (u : View) → j ≢ id → get_elem? views j ≡ some u → length u.numbers ≡ 0) → v.hand ≡ false
        → (j : ℕ) (u : View) → get_elem? views j ≡ some u → 0 < hands u → Sits origin run u → get_elem? views id ≡ some v → ⊥
    nobody origin run id v views others free j u there has sits at = dite (ℕ_discrete j id)
        (λ e. let same : u ≡ v = some-injective u v (sym there ∙ ap (λ (i : ℕ). get_elem? views i) e ∙ at) in absurd (omega (arith, ap hands same, no_hand v free)))
        (λ d. ⊎_elim (λ (gone : u ≡ spent). absurd (omega (arith, ap hands gone)))
        (λ (t : Fits run u × (u.origin ≡ origin)). absurd (omega (arith, t.0.named, times_le_length u.number u.numbers, others j u d there)))
        sits)

-- the moves, at a seat that is known by equations
pub grabs_at : (origin slots id : ℕ) (m : Seated) → m.1 ≡ [] → 0 < length m.0.numbers → m.0.hand ≡ false
    → Allows (IsOneRun origin) slots id m 0 (λ n. either (eqb n 0) 1 n) (grabbed (step slots 0 0 1 none) m)
grabs_at origin slots id m bare live free = subst (λ (c : List (ℕ × Recorded)). Allows (IsOneRun origin) slots id (m.0, c) 0 (λ n. either (eqb n 0) 1 n) (grabbed (step slots 0 0 1 none) (m.0, c))) (sym bare) (grabs origin slots id m.0 live free)

pub looks_at : (origin slots id : ℕ) (m : Seated) → 0 < length m.0.numbers → Allows (IsOneRun origin) slots id m 1 (λ n. n) (looked (step slots 1 0 0 none) m)
looks_at origin slots id m live = looks origin slots id m.0 m.1 live

pub counts_at : (origin slots id : ℕ) (m : Seated) → CanCount m → Allows (IsOneRun origin) slots id m 1 (λ n. (n + 1) % 2 ^ 64) (counted (step slots 1 1 0 none) m)
counts_at origin slots id m can =
    subst (λ (c : List (ℕ × Recorded)). Allows (IsOneRun origin) slots id (m.0, c) 1 (λ n. (n + 1) % 2 ^ 64) (counted (step slots 1 1 0 none) (m.0, c))) (sym can.slot)
    (counts origin slots id m.0 can.h can.e can.has can.grown can.by can.begun can.calm can.room)

pub frees_at : (origin slots id : ℕ) (m : Seated) → CanFree m → Allows (IsOneRun origin) slots id m 0 (λ _. 0) (λ _. freed (step slots 0 0 0 none) m 0)
frees_at origin slots id m can =
    subst (λ (c : List (ℕ × Recorded)). Allows (IsOneRun origin) slots id (m.0, c) 0 (λ _. 0) (λ _. freed (step slots 0 0 0 none) (m.0, c) 0)) (sym can.slot)
    (frees origin slots id m.0 can.h can.has can.site can.last)
