-- A text that is cut into pieces.
use Rattle.std.specs.Prelude.{◌≡◌, ℕ, ◌-◌, ◌<◌, ◌≤◌, Bool, true, false, not, ◌&&◌, ◌||◌, ◌==◌, List, length, slice_index_or}
use Rattle.coop_request.specs.declared.piece.TheConstants.{MAX_PIECE}

-- the byte is a space, or ends a line
abbrev pub is_blank : ℕ → Bool
is_blank byte = byte == 32 || byte == 10

-- a break may be in front of a byte: where an object begins or ends, and on both sides of a line's end
abbrev pub breaks_at : List Bool → ℕ → Bool
breaks_at breaks place = slice_index_or breaks place false

-- one of the two and not the other
abbrev pub differ : Bool → Bool → Bool
differ a b = (a && not b) || (b && not a)

-- there is a break wherever these bits change
abbrev pub HasEdges : List Bool → List Bool → Type 0
HasEdges bits breaks = (k : ℕ) → 0 < k → k < length breaks → differ (slice_index_or bits (k - 1) false) (slice_index_or bits k false) ≡ true → breaks_at breaks k ≡ true

-- the length of a first piece: it has no break within
pub record IsPieceLength (text : List ℕ) (breaks : List Bool) (size : ℕ) : Type 0 where
  pub some : 0 < size
  pub few : size ≤ MAX_PIECE
  pub within : size ≤ length text
  pub whole : (k : ℕ) → 0 < k → k < size → breaks_at breaks k ≡ false
