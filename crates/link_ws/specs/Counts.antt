-- What contracts see of a link and of a door here: their counts.
use Rattle.std.specs.Prelude.{ℕ}

-- how often a link has failed, and how often a call found that the other end had closed
pub record LinkCounts : Type 0 where
  pub faults : ℕ
  pub closes : ℕ

-- a link that has done nothing yet
abbrev pub new_link : LinkCounts
new_link = record { faults = 0; closes = 0 }

-- how often a door has failed, how many links it gave, how many came back, and how many of these had failed
pub record DoorCounts : Type 0 where
  pub faults : ℕ
  pub given : ℕ
  pub returned : ℕ
  pub hurt : ℕ

-- a door that has done nothing yet
abbrev pub new_door : DoorCounts
new_door = record { faults = 0; given = 0; returned = 0; hurt = 0 }
