-- The rule of what a screen shows. It speaks of lists of pages alone.
use Rattle.std.specs.Prelude.{◌≡◌, ℕ, List, [], ◌∷◌}
use mathlib.Core.Option.{some}
use lib.ListN.{get_elem?}
use Rattle.logbook.specs.Pages.{Book}
use Rattle.screen_read.specs.Ends.{BoardPages}

-- all that was seen is of the board
abbrev pub IsOnBoard : Book → List BoardPages → Type 0
IsOnBoard b [] = Unit {0}
IsOnBoard b (s ∷ ss) = (s.table ≡ b) × IsOnBoard b ss

-- each view is of the board
abbrev pub AreOnBoard : Book → List (List BoardPages) → Type 0
AreOnBoard b views = (i : ℕ) (v : List BoardPages) → get_elem? views i ≡ some v → IsOnBoard b v

-- what is shown is of the board of the view, and is seen then
abbrev pub SeesBoard : List BoardPages → BoardPages → BoardPages → List BoardPages → Type 0
SeesBoard v x y w = IsOnBoard x.table v × (w ≡ y ∷ [])

-- something of this board was seen
abbrev pub IsSeenOf : Book → List BoardPages → Type 0
IsSeenOf b v = (s : BoardPages) × (v ≡ s ∷ []) × (s.table ≡ b)
