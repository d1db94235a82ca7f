-- Each step keeps the rule of what a screen shows.
use Rattle.std.proofs.Common.{◌≡◌, ◌≢◌, ℕ, List, [], ◌∷◌, ◌++◌, fold, set, sym, refl, ap, ◌∙◌, subst, ⊎_elim}
use mathlib.Core.Option.{some, some-ne-none}
use lib.ListN.{get_elem?}
use Rattle.left_right.specs.Register.{Admits, TurnsAt, Forks, Merges}
use Rattle.atomic_table.proofs.Lists.{at_set, at_snoc}
use Rattle.logbook.specs.Pages.{Book}
use Rattle.screen_read.specs.Ends.{BoardPages}
use Rattle.screen_read.specs.Rule.{IsOnBoard, AreOnBoard, SeesBoard}

abbrev Views : Type 0
Views = List (List BoardPages)

abbrev pub rule : BoardPages → Views → Type 0
rule x = AreOnBoard x.table

-- another view is put in the place of one
set_on : (b : Book) (views : Views) (seat : ℕ) (w : List BoardPages) → AreOnBoard b views → IsOnBoard b w → AreOnBoard b (set views seat w)
set_on b views seat w h on j u e = ⊎_elim (λ (t : (j ≡ seat) × (w ≡ u)). subst (IsOnBoard b) t.1 on) (λ (t : (j ≢ seat) × (get_elem? views j ≡ some u)). h j u t.1) (at_set views seat j w u e)

more_on : (b : Book) (views : Views) (w : List BoardPages) → AreOnBoard b views → IsOnBoard b w → AreOnBoard b (views ++ w ∷ [])
more_on b views w h on j u e = ⊎_elim (h j u) (λ (same : w ≡ u). subst (IsOnBoard b) same on) (at_snoc views w u j e)

-- a board with nothing seen
pub starts : (x : BoardPages) → rule x ([] ∷ [])
starts x j u e = more_on x.table [] [] (λ i v none. absurd_at i v none) tt j u e
  where
    absurd_at : (i : ℕ) (v : List BoardPages) → get_elem? {A = List BoardPages} [] i ≡ some v → IsOnBoard x.table v
    absurd_at i v none = absurd (some-ne-none v (sym none))

pub admits : Admits rule []
admits x views h = more_on x.table views [] h tt

pub sees : (seat : ℕ) (v : List BoardPages) (x y : BoardPages) → y.table ≡ x.table → TurnsAt rule seat v x y SeesBoard
sees seat v x y same views h at = (y ∷ [], set_on y.table views seat (y ∷ []) (subst (λ (b : Book). AreOnBoard b views) (sym same) h) (refl, tt), (h seat v at, refl))

pub forks : (seat : ℕ) (v : List BoardPages) → Forks rule seat v v v
forks seat v x views h at = more_on x.table (set views seat v) v (set_on x.table views seat v h (h seat v at)) (h seat v at)

pub merges : (seat : ℕ) (v : List BoardPages) (other : ℕ) (w : List BoardPages) → Merges rule seat v other w w []
merges seat v other w x views h at apart there =
    let on : IsOnBoard x.table w = ⊎_elim (λ (t : (other ≡ seat) × (w ≡ w)). absurd (apart t.0)) (λ (t : (other ≢ seat) × (get_elem? views other ≡ some w)). h other w t.1) (at_set views seat other w w there) in
    set_on x.table (set views seat w) other [] (set_on x.table views seat w h on) tt

-- what is shown after these operations is the last one
pub last_shown : (s x : BoardPages) (before : List BoardPages) → fold (λ (a b : BoardPages). b) s (before ++ x ∷ []) ≡ x
last_shown s x [] = refl
last_shown s x (y ∷ before) = last_shown y x before

-- the writer shows the last of these operations, which is of the board
pub shows : (seat : ℕ) (v : List BoardPages) (x y o : BoardPages) (before pending : List BoardPages) → y ≡ fold (λ (a b : BoardPages). b) x pending → pending ≡ before ++ o ∷ [] → o.table ≡ x.table
    → TurnsAt rule seat v x y SeesBoard
shows seat v x y o before pending is all of = sees seat v x y (ap (λ (s : BoardPages). s.table) (is ∙ (ap (fold (λ (a b : BoardPages). b) x) all ∙ last_shown x o before)) ∙ of)
