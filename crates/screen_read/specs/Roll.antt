-- The rule of a roll, and what a step that adds a page tells.
use Rattle.std.specs.Prelude.{ℕ, ◌≡◌, ◌==◌, true, List, [], ◌∷◌, ◌++◌, length, MatchBool}
use mathlib.Core.List.{IsPrefix}
use Rattle.logbook.specs.Pages.{Cell, Step, View, Book, Named}
use Rattle.screen_read.specs.Pages.{PageText, IsAscending}

-- the first word is how many pages there are. A book has two words, of which this one leaves the second at 0
pub record IsRoll (cells : List Cell) (pages : List PageText) : Type 0 where
  pub words : cells ≡ (length pages, true) ∷ (0, true) ∷ []

-- the word of a roll
abbrev pub book_head : Book → Named
book_head b = record { tracked = true; key = 0; book = b }

-- the page was added to all that had been seen; or the roll was longer
abbrev pub Adds : Step PageText → View PageText ℕ → ℕ → View PageText ℕ → Type 0
Adds s v found w = MatchBool (found == s.old) (w.0 ≡ v.0 ++ s.ask ∷ []) (IsPrefix v.0 w.0)
