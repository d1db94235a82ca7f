-- Lists of ascending pages that begin one another.
use Rattle.std.proofs.Common.{◌≡◌, ℕ, ◌<◌, ◌≤◌, List, [], ◌∷◌, ◌++◌, Bool, sym, ap, ◌∙◌, subst, arith, append_assoc, append-nil, le_refl, lt-ltb, le-ltb}
use Rattle.std.specs.Prelude.{if◌then◌else◌}
use mathlib.Core.List.{IsPrefix}
use mathlib.Core.Logic.{dite}
use native.Mathlib.Decide.{dec_le}
use Rattle.peer_lock.specs.declared.call.Call.{Call}
use Rattle.screen_read.specs.Pages.{PageText, IsAscending, IsNewest, AllBegin}
use Rattle.screen_read.specs.Screen.{IsPageOf, ArePagesOf}
use Rattle.form_watch.specs.Workers.{told_page}

pub prefix_trans : (xs ys zs : List PageText) → IsPrefix xs ys → IsPrefix ys zs → IsPrefix xs zs
prefix_trans xs ys zs p q = (p.0 ++ q.0, sym (append_assoc xs p.0 q.0) ∙ ap (λ (l : List PageText). l ++ q.0) p.1 ∙ q.1)

-- what was told last begins the pages
pub last_begins : (ls : List (List PageText)) (l pages : List PageText) → AllBegin (ls ++ l ∷ []) pages → IsPrefix l pages
last_begins [] l pages a = a.0
last_begins (x ∷ xs) l pages a = last_begins xs l pages a.1

-- ---- what holds of each page

abbrev pub Each : (PageText → Type 0) → List PageText → Type 0
Each P [] = Unit {0}
Each P (p ∷ ps) = P p × Each P ps

module _ (P : PageText → Type 0) where
  each_front : (xs ys : List PageText) → Each P (xs ++ ys) → Each P xs
  each_front [] ys h = tt
  each_front (x ∷ xs) ys h = (h.0, each_front xs ys h.1)

  each_last : (xs : List PageText) (p : PageText) → Each P (xs ++ p ∷ []) → P p
  each_last [] p h = h.0
  each_last (x ∷ xs) p h = each_last xs p h.1

  each_both : (xs ys : List PageText) → Each P xs → Each P ys → Each P (xs ++ ys)
  each_both [] ys h g = g
  each_both (x ∷ xs) ys h g = (h.0, each_both xs ys h.1 g)

  -- the newest of the pages that begin others
  pub each_newest : (all xs : List PageText) (p : PageText) → Each P all → IsPrefix xs all → IsNewest xs p → P p
  each_newest all xs p h begins last =
      each_last last.0 p (subst (Each P) last.1 (each_front xs begins.0 (subst (Each P) (sym begins.1) h)))

-- ---- steps that ascend

-- the last of ascending pages has the most steps
last_most : (xs : List PageText) (q : PageText) → IsAscending (xs ++ q ∷ []) → Each (λ (p : PageText). p.steps ≤ q.steps) (xs ++ q ∷ [])
last_most [] q up = (le_refl q.steps, tt)
last_most (x ∷ []) q up = (omega (arith, up.0), (le_refl q.steps, tt))
last_most (x ∷ y ∷ ys) q up = let rest = last_most (y ∷ ys) q up.1 in (omega (arith, up.0, rest.0), rest)

pub newest_most : (pages : List PageText) (q : PageText) → IsAscending pages → IsNewest pages q → Each (λ (p : PageText). p.steps ≤ q.steps) pages
newest_most pages q up last = subst (Each (λ (p : PageText). p.steps ≤ q.steps)) (sym last.1) (last_most last.0 q (subst IsAscending last.1 up))

ascending_front : (xs ys : List PageText) → IsAscending (xs ++ ys) → IsAscending xs
ascending_front [] ys up = tt
ascending_front (x ∷ []) ys up = tt
ascending_front (x ∷ y ∷ zs) ys up = (up.0, ascending_front (y ∷ zs) ys up.1)

more_behind : (n : ℕ) (x : PageText) (rest : List PageText) → n ≤ x.steps → IsAscending (x ∷ rest) → Each (λ (p : PageText). n < p.steps) rest
more_behind n x [] le up = tt
more_behind n x (y ∷ ys) le up = (omega (arith, le, up.0), more_behind n y ys (omega (arith, le, up.0)) up.1)

-- what stands behind the last page has more steps
more_past : (xs : List PageText) (q : PageText) (rest : List PageText) → IsAscending ((xs ++ q ∷ []) ++ rest) → Each (λ (p : PageText). q.steps < p.steps) rest
more_past [] q rest up = more_behind q.steps q rest (le_refl q.steps) up
more_past (x ∷ []) q rest up = more_behind q.steps q rest (le_refl q.steps) up.1
more_past (x ∷ y ∷ ys) q rest up = more_past (y ∷ ys) q rest up.1

-- ---- pages that are bounded by the last one that was told

pub within_told : (q p : PageText) → p.steps ≤ q.steps → told_page q p ≡ p
within_told q p le = ap (λ (b : Bool). if b then q else p) (le-ltb q.steps p.steps le)

pub past_told : (q p : PageText) → q.steps < p.steps → told_page q p ≡ q
past_told q p lt = ap (λ (b : Bool). if b then q else p) (lt-ltb q.steps p.steps lt)

abbrev steps : PageText → ℕ
steps p = p.steps

pub told_rises : (q p r : PageText) → p.steps ≤ r.steps → (told_page q p).steps ≤ (told_page q r).steps
told_rises q p r le =
    dite (dec_le r.steps q.steps)
    (λ here. omega (arith, ap steps (within_told q p (omega (arith, le, here))), ap steps (within_told q r here)))
    (λ past. dite (dec_le p.steps q.steps)
    (λ here. omega (arith, ap steps (within_told q p here), ap steps (past_told q r (omega arith))))
    (λ both. omega (arith, ap steps (past_told q p (omega arith)), ap steps (past_told q r (omega arith)))))

module _ (site : ℕ) (run : List Call) (q : PageText) where
  abbrev pub IsOfRun : PageText → Type 0
  IsOfRun p = IsPageOf site run (told_page q p)

  of_told : (ps : List PageText) → ArePagesOf site run ps → Each (λ (p : PageText). p.steps ≤ q.steps) ps → Each IsOfRun ps
  of_told [] of le = tt
  of_told (p ∷ ps) of le = (subst (IsPageOf site run) (sym (within_told q p le.0)) of.0, of_told ps of.1 le.1)

  of_past : (ps : List PageText) → IsPageOf site run q → Each (λ (p : PageText). q.steps < p.steps) ps → Each IsOfRun ps
  of_past [] is lt = tt
  of_past (p ∷ ps) is lt = (subst (IsPageOf site run) (sym (past_told q p lt.0)) is, of_past ps is lt.1)

  each_page : (ps : List PageText) → ArePagesOf site run ps → Each (IsPageOf site run) ps
  each_page [] of = tt
  each_page (p ∷ ps) of = (of.0, each_page ps of.1)

  -- each page of a list that begins with what was told
  pub all_of_run : (told all : List PageText) → IsNewest told q → ArePagesOf site run told → IsAscending all → IsPrefix told all → Each IsOfRun all
  all_of_run told all last of up begins =
      let rest : List PageText = begins.0 in
      let whole : IsAscending (told ++ rest) = subst IsAscending (sym begins.1) up in
      let newest : IsPageOf site run q = each_newest (IsPageOf site run) told told q (each_page told of) ([], append-nil told) last in
      let past : Each (λ (p : PageText). q.steps < p.steps) rest = more_past last.0 q rest (subst (λ (l : List PageText). IsAscending (l ++ rest)) last.1 whole) in
      subst (Each IsOfRun) begins.1
      (each_both IsOfRun told rest (of_told told of (newest_most told q (ascending_front told rest whole) last)) (of_past rest newest past))
