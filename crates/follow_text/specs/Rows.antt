-- Rows, which tell what changed in a text by its bytes and by its letters.
use Rattle.std.specs.Prelude.{◌≡◌, ℕ, ◌+◌, ◌≤◌, List, Option, ◌++◌, length, take, drop, fold, MatchOption}
use Rattle.follow_text.specs.declared.text_row.TextRow.{TextRow}
use Rattle.follow_text.specs.Letters.{letter_count}

-- a text with another one in place of so many bytes from a place on
abbrev pub replaced : List ℕ → ℕ → ℕ → List ℕ → List ℕ
replaced bytes at out put = take at bytes ++ (put ++ drop (at + out) bytes)

-- a text with a row in it
abbrev pub with_row : List ℕ → TextRow → List ℕ
with_row bytes row = replaced bytes row.at row.out row.put.items

-- a text with rows in it, one after another
abbrev pub with_rows : List ℕ → List TextRow → List ℕ
with_rows bytes rows = fold with_row bytes rows

-- the row is within the text, and says how many letters stand in front of its place and are taken out
pub record IsRowOf (bytes : List ℕ) (row : TextRow) : Type 0 where
  pub within : row.at + row.out ≤ length bytes
  pub before : row.letters_before ≡ letter_count (take row.at bytes)
  pub letters : row.letters_out ≡ letter_count (take row.out (drop row.at bytes))

-- a row of the text makes the other of it
pub record Makes (old new : List ℕ) (row : TextRow) : Type 0 where
  pub row_of : IsRowOf old row
  pub made : with_row old row ≡ new

-- the row that makes one text of the other; none where they are the same
abbrev pub IsDifference : List ℕ → List ℕ → Option TextRow → Type 0
IsDifference old new found = MatchOption found (old ≡ new) (Makes old new)
