-- The words of a line, and choices by a word.
use Rattle.std.specs.Prelude.{ℕ, Bool, true, false, not, ◌&&◌, List, [], ◌∷◌, map, Option, Some, None, length, ◌==◌, nat_le, if◌then◌else◌}
use Rattle.std.specs.Borrow.{Bor}
use Rattle.std.specs.Str.{bytes_eq, is_utf8}
use Rattle.std.specs.List.{slice_split, list_any}
use Rattle.element_name.specs.Cases.{◌>>=◌}
use Rattle.line_spelling.specs.declared.line.TheConstants.{MAX_LINE}
use Rattle.line_spelling.specs.declared.signs.TheConstants.{LINE_END, SPACE}

-- text without a line end, of at most 1,024 bytes
abbrev pub is_line : List ℕ → Bool
is_line bytes = (nat_le (length bytes) MAX_LINE && not (list_any (λ b. b == LINE_END) bytes)) && is_utf8 bytes

-- the parts between the separators: where two of these stand together a part is empty
abbrev pub parts : ℕ → List ℕ → List (List ℕ)
parts separator bytes = slice_split (λ b. b == separator) bytes

-- the words of a line, each after exactly one space
abbrev pub words : List ℕ → List (List ℕ)
words line = parts SPACE line

-- what stands beside the word in the table, or the other where the word stands in no row
abbrev pub beside : {A : Type 0} → List ℕ → List (List ℕ × A) → A → A
beside word [] other = other
beside word (row ∷ rows) other = if bytes_eq word row.0 then row.1 else beside word rows other

abbrev pub are_none : List (List ℕ) → Bool
are_none [] = true
are_none (word ∷ words) = false

-- one word, and this one
abbrev pub is_alone : List ℕ → List (List ℕ) → Bool
is_alone word (w ∷ []) = bytes_eq w word
is_alone word words = false

-- a word, where it is the only one
abbrev pub lone_word : List (List ℕ) → Option (List ℕ)
lone_word (a ∷ []) = Some a
lone_word words = None

-- two words, where there are no others
abbrev pub both_words : List (List ℕ) → Option (List ℕ × List ℕ)
both_words (a ∷ b ∷ []) = Some (a, b)
both_words words = None

-- what is read of one word, where it is the only one
abbrev pub one_word : {A : Type 0} → (List ℕ → Option A) → List (List ℕ) → Option A
one_word read words = lone_word words >>= read

-- what is read of two words, each in its way, where there are no others
abbrev pub two_words : {A B : Type 0} → (List ℕ → Option A) → (List ℕ → Option B) → List (List ℕ) → Option (A × B)
two_words read other words = do
  ws ← both_words words
  x ← read ws.0
  y ← other ws.1
  Some (x, y)

-- the bytes of words that are lent
abbrev pub bytes_of : List (Bor (List ℕ)) → List (List ℕ)
bytes_of words = map (λ w. w.now) words

-- the values, if each is there
abbrev pub each_some : {A : Type 0} → List (Option A) → Option (List A)
each_some [] = Some []
each_some (x ∷ xs) = x >>= λ y. each_some xs >>= λ ys. Some (y ∷ ys)
