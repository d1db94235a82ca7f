-- Pieces of text, as words.
use Rattle.std.specs.Prelude.{ℕ, Bool, true, false, not, ◌&&◌, List, [], ◌∷◌, Option, Some, ◌==◌, if◌then◌else◌}
use Rattle.element_name.specs.Cases.{when, first_of, ◌>>=◌}
use Rattle.coop_request.specs.Piece.{is_piece}
use Rattle.line_spelling.specs.declared.signs.TheConstants.{LINE_END, SPACE, BACKSLASH, LINE_END_LETTER, SPACE_LETTER}

-- the byte that `\` and this byte stand for: `\n` is a line end, `\s` a space, `\\` a backslash
abbrev pub escape_byte : ℕ → Option ℕ
escape_byte b = first_of (when (b == LINE_END_LETTER) LINE_END ∷ when (b == SPACE_LETTER) SPACE ∷ when (b == BACKSLASH) BACKSLASH ∷ [])

-- what a byte stands for, behind a `\` or not, in front of what follows; a `\` itself stands for nothing yet
abbrev pub in_front : Bool → ℕ → Option (List ℕ) → Option (List ℕ)
in_front true b rest = do
  byte ← escape_byte b
  bytes ← rest
  Some (byte ∷ bytes)
in_front false b rest = if b == BACKSLASH then rest else (rest >>= λ bytes. Some (b ∷ bytes))

-- the bytes that a word stands for, behind a `\` or not
abbrev pub unescaped_bytes : Bool → List ℕ → Option (List ℕ)
unescaped_bytes behind [] = when (not behind) []
unescaped_bytes behind (b ∷ bs) = in_front behind b (unescaped_bytes (not behind && (b == BACKSLASH)) bs)

-- LETTER: every byte stands for itself but for `\`, and together they are a piece
unfoldable pub read_piece : List ℕ → Option (List ℕ)
read_piece word = do
  bytes ← unescaped_bytes false word
  when (is_piece bytes) bytes
