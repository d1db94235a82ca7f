-- A house as a value, and what a call may change of it.
use Rattle.std.specs.Prelude.{◌≡◌, ◌≢◌, ℕ, ◌&&◌, false, List, ◌∷◌, Option, Some, None, IsSome, IfSome, IsSomeAnd, option_and_then, slice_get, bytes_eq}
use Rattle.sha2.specs.Sha256.{sha256}
use Rattle.element_name.specs.Cases.{when}
use Rattle.host_core.specs.declared.event.HostEvent.{HostEvent}
use Rattle.host_core.specs.Past.{device_of}
use Rattle.host_people.specs.declared.change.Change.{Change}
use Rattle.host_people.specs.declared.change.Change.TheVariants.{Invited, Joined}
use Rattle.host_people.specs.declared.people.Holder.{Holder}
use Rattle.host_people.specs.Holders.{device_holder}

-- the changes of its people, the newest first, and its documents
pub record Household (D : Type 0) : Type 0 where
  pub changes : List Change
  pub documents : List D

-- who holds a key that is open, if this is its secret
abbrev pub holder_by : List ℕ → Option Holder → Option Holder
holder_by secret known = option_and_then (λ h. when (bytes_eq h.digest (sha256 secret) && h.is_open) h) known

-- one more invitation of a person was made
abbrev pub MakesInvitation : ℕ → List Change → List Change → Type 0
MakesInvitation person old new = (invitation : ℕ) × (digest : List ℕ) × (new ≡ Invited invitation person digest ∷ old)

-- a device of a person was made, with this site and this secret
abbrev pub MakesDevice : ℕ → ℕ → List ℕ → List Change → List Change → Type 0
MakesDevice person site secret old new = new ≡ Joined site person (sha256 secret) ∷ old

-- a device of a person that is open has this site and this secret
abbrev pub HoldsKey : ℕ → ℕ → List ℕ → List Change → Type 0
HoldsKey person site secret changes =
    (holder : Holder) × (holder_by secret (device_holder site changes) ≡ Some holder) × (person ≡ holder.person)

-- no document that is open has an open device of a site, by what has happened at each
abbrev pub IsClosedAtAll : {D : Type 0} → (D → Option (List HostEvent)) → ℕ → List D → Type 0
IsClosedAtAll past site documents = (k : ℕ) → IfSome (slice_get documents k) (λ document. IfSome (past document) (λ events. device_of site events ≡ None))

-- the device of a site is there, and is closed among the people and at each document that is open
pub record IsClosedEverywhere {D : Type 0} (past : D → Option (List HostEvent)) (site : ℕ) (house : Household D) : Type 0 where
  pub people : IsSomeAnd (device_holder site house.changes) (λ h. h.is_open ≡ false)
  pub documents : IsClosedAtAll past site house.documents

-- the documents of other numbers stay
abbrev pub OthersStay : {D : Type 0} → ℕ → List D → List D → Type 0
OthersStay number old new = (k : ℕ) → k ≢ number → slice_get new k ≡ slice_get old k

-- the document of a number is open, by what has happened at each
abbrev pub IsOpenAt : {D : Type 0} → (D → Option (List HostEvent)) → ℕ → List D → Type 0
IsOpenAt past number documents = IsSomeAnd (slice_get documents number) (λ document. IsSome (past document))

-- it stays open, if it was
abbrev pub StaysOpen : {D : Type 0} → (D → Option (List HostEvent)) → ℕ → List D → List D → Type 0
StaysOpen past number old new = IsOpenAt past number old → IsOpenAt past number new

-- nothing is another but the document of a number
pub record TouchesDocument {D : Type 0} (number : ℕ) (old new : Household D) : Type 0 where
  pub changes : new.changes ≡ old.changes
  pub others : OthersStay number old.documents new.documents
