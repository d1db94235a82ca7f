-- Who sits where, and who may send frames.
use Rattle.std.specs.Prelude.{ℕ, List, Option, Some, None, Bool, true, false, ◌&&◌, ◌==◌, nat_le, is_none, option_map, find, count_by}
use Rattle.host_link.specs.declared.ending.Ending.{Ending}
use Rattle.host_link.specs.declared.ending.Ending.TheVariants as endings
use Rattle.host_edge.specs.declared.conn.Place.{Place}
use Rattle.host_edge.specs.declared.conn.Place.TheVariants as places
use Rattle.host_edge.specs.declared.room.Seat.{Seat}

-- how many links a person has
abbrev pub person_links : ℕ → List Seat → ℕ
person_links person seats = count_by (λ s. s.person == person) seats

-- the slot of the link that a device has
abbrev pub device_slot : ℕ → List Seat → Option ℕ
device_slot site seats = option_map (λ s. s.slot) (find (λ s. s.site == site) seats)

-- whether a person has as many links as he may, and the one that comes doesn't take the place of another
abbrev pub lacks_seat : ℕ → Seat → List Seat → Bool
lacks_seat most seat seats = is_none (device_slot seat.site seats) && nat_le most (person_links seat.person seats)

-- why a link ends on which frames come, whatever these are, by where it leads and whether it writes
abbrev pub refused_frames : Place → Bool → Option Ending
refused_frames places.House writes = Some endings.BadMessage
refused_frames (places.Document number) true = None
refused_frames (places.Document number) false = Some endings.OnlyReads
