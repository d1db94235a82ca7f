-- Short rows of bytes that hold a piece.
use Rattle.std.specs.Prelude.{◌≡◌, ℕ, true, List}
use Rattle.element_name.specs.Rows.{IsRow, row_items}
use Rattle.coop_request.specs.Piece.{is_piece}
use Rattle.coop_request.specs.declared.packed_piece.TheConstants.{SHORT_PIECE}

-- a row that holds a short piece
pub record HoldsShort (row : List ℕ) (len : ℕ) : Type 0 where
  pub padded : IsRow SHORT_PIECE row len
  pub piece : is_piece (row_items row len) ≡ true
