-- Edges between the pieces of a text, and pieces in place of others.
use Rattle.std.specs.Prelude.{◌≡◌, ◌⊎◌, ℕ, ◌+◌, ◌^◌, ◌<◌, ◌≤◌, List, ◌++◌, length, take, drop, sum, slice_index}
use Rattle.follow_text.specs.declared.shown.Edge.{Edge}

-- pieces with others in place of so many from a place on
abbrev pub with_pieces : List (List ℕ) → ℕ → ℕ → List (List ℕ) → List (List ℕ)
with_pieces pieces at out put = take at pieces ++ (put ++ drop (at + out) pieces)

-- the edge stands behind so many pieces of these sizes
pub record BeginsAt (sizes : List ℕ) (edge : Edge) : Type 0 where
  pub few : edge.number ≤ length sizes
  pub start_is : edge.start ≡ sum (take edge.number sizes)

-- the place is behind the edge, among pieces of these sizes, which have fewer than half as many bytes as the machine can count
pub record LiesAhead (sizes : List ℕ) (edge : Edge) (place : ℕ) : Type 0 where
  pub room : sum sizes < 2 ^ 63
  pub begins : BeginsAt sizes edge
  pub behind : edge.start ≤ place
  pub within : place ≤ sum sizes

-- the place stands in the piece behind the edge, or at the edge behind the last one
pub record StandsIn (sizes : List ℕ) (place : ℕ) (edge : Edge) : Type 0 where
  pub behind : edge.start ≤ place
  pub within : (edge.start ≡ place) ⊎ (edge.number < length sizes) × (place < edge.start + slice_index sizes edge.number)
