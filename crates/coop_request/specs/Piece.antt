-- Pieces of text, the content of an element.
use Rattle.std.specs.Prelude.{◌≡◌, ℕ, Bool, true, ◌&&◌, List, length, nat_lt, nat_le}
use Rattle.std.specs.Str.{is_utf8}
use Rattle.element_name.specs.Rows.{IsRow, row_items}
use Rattle.coop_request.specs.declared.piece.TheConstants.{MAX_PIECE}

-- 1 to 255 bytes of UTF-8
abbrev pub is_piece : List ℕ → Bool
is_piece bytes = (nat_lt 0 (length bytes) && nat_le (length bytes) MAX_PIECE) && is_utf8 bytes

-- a row of 255 bytes that holds a piece
pub record HoldsPiece (row : List ℕ) (len : ℕ) : Type 0 where
  pub padded : IsRow MAX_PIECE row len
  pub piece : is_piece (row_items row len) ≡ true
