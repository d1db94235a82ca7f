-- Numbers, and the sums of them by groups.
use Rattle.std.specs.Prelude.{◌≡◌, ℕ, ◌+◌, ◌*◌, ◌<◌, ◌≤◌, List, length, take, slice_index, sum}
use Rattle.tomb_seq.specs.declared.sums.TheConstants.{GROUP}

-- numbers one after another, and for how many of them there is memory
pub record Numbers : Type 0 where
  pub parts : List ℕ
  pub room : ℕ

-- the sum of those in front of a rank
abbrev pub sum_before : List ℕ → ℕ → ℕ
sum_before parts rank = sum (take rank parts)

-- a sum for each group of the numbers
pub record AreGrouped (parts groups : List ℕ) : Type 0 where
  pub cover : length parts ≤ GROUP * length groups
  pub each : (g : ℕ) → g < length groups → sum_before parts (GROUP * g) + slice_index groups g ≡ sum_before parts (GROUP * g + GROUP)

-- memory for as many numbers as the groups may have, and the sum of all
pub record AreSums (parts groups : List ℕ) (capacity total : ℕ) : Type 0 where
  pub grouped : AreGrouped parts groups
  pub room : GROUP * length groups ≤ capacity
  pub all : total ≡ sum parts
