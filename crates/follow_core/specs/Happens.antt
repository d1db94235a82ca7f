-- What may happen at a follower, after what has happened.
use Rattle.std.specs.Prelude.{◌≡◌, ⊤, ℕ, ◌<◌, ◌≤◌, true, List, [], ◌∷◌, Option, Some, length, slice_get}
use Rattle.element_name.specs.Name.{Name}
use Rattle.edit_message.specs.declared.message.Message.{Message}
use Rattle.edit_message.specs.declared.message.Key.TheVariants.{Coop}
use Rattle.edit_message.specs.Message.{key_of}
use Rattle.follow_core.specs.declared.event.Stretch.{Stretch}
use Rattle.follow_core.specs.declared.event.FollowEvent.{FollowEvent}
use Rattle.follow_core.specs.declared.event.FollowEvent.TheVariants.{Began, Made, Saved, Told, CameBack, Linked, Passed}
use Rattle.follow_core.specs.Past.{follow_peer, follow_saved, is_own_at, back_of, standing_link}

-- all that the journal has is saved
abbrev pub HasSavedAll : List FollowEvent → Type 0
HasSavedAll es = length (follow_peer es).journal ≤ length (follow_saved es)

-- the message at a place of the journal is the request of a name
abbrev pub StandsAt : List FollowEvent → ℕ → Name → Type 0
StandsAt es place id = (m : Message) × (slice_get (follow_peer es).journal place ≡ Some m) × (key_of m ≡ Coop id)

-- a request of the device's own isn't known to be at the host
abbrev pub Owes : List FollowEvent → Type 0
Owes es = (place : ℕ) × (back_of es ≤ place) × (is_own_at es place ≡ true)

-- a request of the device's own comes back, which is saved, behind those that came back before
pub record ComesBack (es : List FollowEvent) (place : ℕ) : Type 0 where
  pub behind : back_of es ≤ place
  pub saved : place < length (follow_saved es)
  pub own : is_own_at es place ≡ true

-- a link is passed the message at its mark, which is saved
pub record PassesItem (es : List FollowEvent) (m : Message) : Type 0 where
  pub link : Stretch
  pub link_is : standing_link es ≡ Some link
  pub next : slice_get (follow_peer es).journal link.mark ≡ Some m
  pub saved : link.mark < length (follow_saved es)

-- what may happen next
abbrev pub MayComeNext : List FollowEvent → FollowEvent → Type 0
MayComeNext es (Began p back) = (es ≡ []) × (back ≤ length p.journal)
MayComeNext es (Made step) = ⊤
MayComeNext es Saved = ⊤
MayComeNext es Told = HasSavedAll es
MayComeNext es (CameBack place) = ComesBack es place
MayComeNext es (Linked from) = from ≡ back_of es
MayComeNext es (Passed m) = PassesItem es m

-- what has happened, each event after those before it
abbrev pub IsFollowPast : List FollowEvent → Type 0
IsFollowPast [] = ⊤
IsFollowPast (e ∷ es) = MayComeNext es e × IsFollowPast es

-- how much is saved, what came back, and how far the journal was passed on the link that stands
pub record IsOutboxOf (es : List FollowEvent) (saved back : ℕ) (link : Option Stretch) : Type 0 where
  pub past : IsFollowPast es
  pub saved_is : saved ≡ length (follow_saved es)
  pub back_is : back ≡ back_of es
  pub link_is : link ≡ standing_link es
