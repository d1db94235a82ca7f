-- What is read beside a run, and how it is written.
use Rattle.std.specs.Prelude.{◌≡◌, ℕ, ◌≤◌, List, [], ◌∷◌, length, take, decimal, codes}
use Rattle.std.specs.List.{All, concat}
use Rattle.line_spelling.specs.Line.{line_of}
use Rattle.line_spelling.specs.Values.{spaced}
use Rattle.line_spelling.specs.Answers.{shown_words}
use Rattle.peer_lock.specs.declared.call.Call.{Call}
use Rattle.screen_read.specs.Pages.{PageText}
use Rattle.screen_read.specs.Screen.{page_after}

-- the line of a page: how many steps it has, and its text
abbrev pub page_line : PageText → List ℕ
page_line p = line_of (spaced (codes "read" ∷ decimal p.steps ∷ shown_words (concat p.text)))

-- the line of a read that saw so many first steps of a run of a site's peer: their number, and the text after them
abbrev pub page_line_after : ℕ → List Call → ℕ → List ℕ
page_line_after site run n = page_line (page_after site (take n run))

-- no number is less than the one before it
abbrev pub NeverFalls : List ℕ → Type 0
NeverFalls [] = Unit {0}
NeverFalls (n ∷ []) = Unit {0}
NeverFalls (n ∷ m ∷ ms) = (n ≤ m) × NeverFalls (m ∷ ms)

-- so many reads, by how many first steps of the run each saw
pub record AreReads (reads : ℕ) (run : List Call) (seen : List ℕ) : Type 0 where
  pub many : length seen ≡ reads
  pub rising : NeverFalls seen
  pub within : All (λ n. n ≤ length run) seen
