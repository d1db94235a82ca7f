-- The lines that a program writes.
use Rattle.std.specs.Prelude.{ℕ, ◌+◌, Bool, true, false, not, ◌&&◌, ◌==◌, List, [], ◌∷◌, Option, Some, None, take, drop, length, position, option_map, unwrap_or, codes, nat_le, if◌then◌else◌}
use Rattle.std.specs.Str.{is_utf8}
use Rattle.element_name.specs.Cases.{when, given, first_of, ◌>>=◌}
use Rattle.line_spelling.specs.declared.signs.TheConstants.{LINE_END, SPACE, BACKSLASH, LINE_END_LETTER}
use Rattle.line_read.specs.Words.{beside}
use Rattle.line_read.specs.Numbers.{read_number, read_wide}
use Rattle.line_read.specs.Step.{step_line}
use Rattle.follow_talk.specs.declared.input_row.InputRow.{InputRow}
use Rattle.follow_talk.specs.declared.input_row.InputRow.TheVariants.{Make, Replace, Whole, Rules, Seen}
use Rattle.follow_talk.specs.declared.input_row.TheConstants.{MAX_ROW, MOST_ROWS}

-- the place of the first space
abbrev pub first_space : List ℕ → Option ℕ
first_space line = position (λ b. b == SPACE) line

-- what stands in front of it, and all where there is none
abbrev pub first_word : List ℕ → List ℕ
first_word line = take (unwrap_or (first_space line) (length line)) line

-- what stands behind it
abbrev pub behind_word : List ℕ → Option (List ℕ)
behind_word line = option_map (λ at. drop (at + 1) line) (first_space line)

-- ---- texts

-- the byte that a letter behind a `\` spells: `\n` is a line end, `\\` a backslash
abbrev pub spelled_byte : ℕ → Option ℕ
spelled_byte letter = first_of (when (letter == LINE_END_LETTER) LINE_END ∷ when (letter == BACKSLASH) BACKSLASH ∷ [])

-- what a letter spells, behind a `\` or not, in front of what follows; a `\` itself spells nothing yet
abbrev pub letter_before : Bool → ℕ → Option (List ℕ) → Option (List ℕ)
letter_before true letter rest = do
  byte ← spelled_byte letter
  bytes ← rest
  Some (byte ∷ bytes)
letter_before false letter rest = if letter == BACKSLASH then rest else (rest >>= λ bytes. Some (letter ∷ bytes))

-- the bytes that letters spell, behind a `\` or not
abbrev pub spelled_bytes : Bool → List ℕ → Option (List ℕ)
spelled_bytes behind [] = when (not behind) []
spelled_bytes behind (b ∷ bs) = letter_before behind b (spelled_bytes (not behind && (b == BACKSLASH)) bs)

-- TEXT, in letters of UTF-8
unfoldable pub read_text : List ℕ → Option (List ℕ)
read_text spelled = given (is_utf8 spelled) (spelled_bytes false spelled)

-- TEXT behind a space, or nothing where there is none
unfoldable pub read_end : Option (List ℕ) → Option (List ℕ)
read_end None = Some []
read_end (Some spelled) = given (not (length spelled == 0)) (read_text spelled)

-- ---- lines

-- FROM TO TEXT, or FROM TO
unfoldable pub read_replace : List ℕ → Option InputRow
read_replace words = do
  from ← read_wide (first_word words)
  rest ← behind_word words
  to ← read_wide (first_word rest)
  text ← read_end (behind_word rest)
  when (nat_le from to) (Replace from to text)

-- COUNT
unfoldable pub read_seen : List ℕ → Option InputRow
read_seen word = option_map Seen (read_number MOST_ROWS word)

-- what the word in front of others makes of them
abbrev pub read_behind : List ℕ → List ℕ → Option InputRow → Option InputRow
read_behind word rest other = beside word ((codes "replace", read_replace rest) ∷ (codes "seen", read_seen rest) ∷ []) other

-- `replace FROM TO TEXT`, `seen COUNT`, or a step line
abbrev pub read_split : List ℕ → Option (List ℕ) → Option InputRow → Option InputRow
read_split word None other = other
read_split word (Some rest) other = read_behind word rest other

abbrev pub read_words : List ℕ → Option InputRow
read_words line = read_split (first_word line) (behind_word line) (option_map Make (step_line line))

-- what a line asks for
unfoldable pub read_row : List ℕ → Option InputRow
read_row line = given (nat_le (length line) MAX_ROW) (beside line ((codes "text", Some Whole) ∷ (codes "rules", Some Rules) ∷ []) (read_words line))
