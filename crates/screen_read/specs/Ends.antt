-- What contracts see of the ends of a board.
use Rattle.std.specs.Prelude.{◌≡◌, List, [], ◌∷◌, ◌++◌, Result, Ok, Err}
use mathlib.Core.List.{IsPrefix}
use Rattle.logbook.specs.Pages.{Book}
use Rattle.screen_read.specs.Pages.{PageText, IsAscending, IsNewest, AllBegin}

-- the name of a board, and the pages that were published on it
pub record BoardPages : Type 0 where
  pub table : Book
  pub pages : List PageText

abbrev pub board_pages : Book → List PageText → BoardPages
board_pages table pages = record { table = table; pages = pages }

-- the name of a board, the pages that a reader has seen, and the lists that it was told since its last read that gave a page
pub record ReaderPages : Type 0 where
  pub table : Book
  pub pages : List PageText
  pub told : List (List PageText)

abbrev pub reader_pages : Book → List PageText → List (List PageText) → ReaderPages
reader_pages table pages told = record { table = table; pages = pages; told = told }

-- the reader was told this list too
abbrev pub told_also : ReaderPages → List PageText → ReaderPages
told_also r pages = record r { told = r.told ++ pages ∷ [] }

-- a read gave the newest of the pages that the reader has seen then: they begin with those that it had seen, and with each
-- list that it was told
pub record ReadsNewest (r : ReaderPages) (page : PageText) (s : ReaderPages) : Type 0 where
  pub table : s.table ≡ r.table
  pub newest : IsNewest s.pages page
  pub seen : IsPrefix r.pages s.pages
  pub told : AllBegin r.told s.pages
  pub told_none : s.told ≡ []
  pub ascending : IsAscending s.pages

-- a read, which changes nothing where it fails
abbrev pub ReadsPage : {E : Type 0} → ReaderPages → Result PageText E → ReaderPages → Type 0
ReadsPage r (Ok page) s = ReadsNewest r page s
ReadsPage r (Err e) s = s ≡ r
