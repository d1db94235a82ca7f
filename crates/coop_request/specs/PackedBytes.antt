-- What a packed piece holds.
use Rattle.std.specs.Prelude.{ℕ, List}
use Rattle.element_name.specs.Rows.{row_items}
use Rattle.coop_request.specs.ShortRow.{HoldsShort}
use Rattle.coop_request.specs.declared.packed_piece.Bytes.{Bytes}
use Rattle.coop_request.specs.declared.packed_piece.Bytes.TheVariants.{Short, Long}

-- the bytes of the piece
abbrev pub bytes_in : Bytes → List ℕ
bytes_in (Short row len) = row_items row len
bytes_in (Long piece) = piece.value

-- a short row holds a piece
abbrev pub HoldsPacked : Bytes → Type 0
HoldsPacked (Short row len) = HoldsShort row len
HoldsPacked (Long piece) = Unit {0}
