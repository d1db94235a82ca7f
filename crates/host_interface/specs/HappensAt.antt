-- What a call adds to what has happened at a document.
use Rattle.std.specs.Prelude.{◌≡◌, List, ◌∷◌, Option, Some, None}
use Rattle.host_core.specs.declared.event.HostEvent.{HostEvent}

-- the document is open, and this happened
abbrev pub HappensAt : Option (List HostEvent) → Option (List HostEvent) → HostEvent → Type 0
HappensAt None new event = ⊥
HappensAt (Some past) new event = new ≡ Some (event ∷ past)
