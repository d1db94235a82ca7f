-- What follows from what has happened at a follower, the newest first.
use Rattle.std.specs.Prelude.{ℕ, ◌+◌, Bool, false, ◌==◌, List, [], ◌∷◌, ◌++◌, Option, Some, None, option_map, unwrap_or, slice_get}
use Rattle.edit_message.specs.declared.message.Message.{Message}
use Rattle.edit_message.specs.declared.message.Message.TheVariants.{Coop, Admin}
use Rattle.peer_step.specs.declared.step.Step.{Step}
use Rattle.peer_core.specs.Peer.{Peer, fresh_peer}
use Rattle.peer_core.specs.After.{peer_after}
use Rattle.follow_core.specs.declared.event.Stretch.{Stretch}
use Rattle.follow_core.specs.declared.event.FollowEvent.{FollowEvent}
use Rattle.follow_core.specs.declared.event.FollowEvent.TheVariants.{Began, Made, Saved, CameBack, Linked, Passed}

-- ---- the device's peer

-- the peer that the follower began with
abbrev pub starting_peer : List FollowEvent → Peer
starting_peer [] = fresh_peer 0
starting_peer (Began p back ∷ es) = p
starting_peer (e ∷ es) = starting_peer es

-- its peer now: the first one, after all steps that were made
abbrev pub follow_peer : List FollowEvent → Peer
follow_peer [] = fresh_peer 0
follow_peer (Began p back ∷ es) = p
follow_peer (Made step ∷ es) = peer_after (follow_peer es) step
follow_peer (e ∷ es) = follow_peer es

-- the journal when all was saved the last time
abbrev pub follow_saved : List FollowEvent → List Message
follow_saved [] = []
follow_saved (Began p back ∷ es) = p.journal
follow_saved (Saved ∷ es) = (follow_peer es).journal
follow_saved (e ∷ es) = follow_saved es

-- the steps that were made, in order
abbrev pub follow_steps : List FollowEvent → List Step
follow_steps [] = []
follow_steps (Made step ∷ es) = follow_steps es ++ step ∷ []
follow_steps (e ∷ es) = follow_steps es

-- ---- what is at the host

-- a message is a request of a site
abbrev pub is_request_of : ℕ → Message → Bool
is_request_of site (Coop q) = q.id.site == site
is_request_of site (Admin e) = false

-- the message at a place of the journal is a request of the device's own
abbrev pub is_own_at : List FollowEvent → ℕ → Bool
is_own_at es place = unwrap_or (option_map (is_request_of (follow_peer es).site) (slice_get (follow_peer es).journal place)) false

-- below which place the device's own requests were at the host at the start
abbrev pub first_back : List FollowEvent → ℕ
first_back [] = 0
first_back (Began p back ∷ es) = back
first_back (e ∷ es) = first_back es

-- and below which they are now: behind the newest that came back
abbrev pub back_of : List FollowEvent → ℕ
back_of [] = 0
back_of (Began p back ∷ es) = back
back_of (CameBack place ∷ es) = place + 1
back_of (e ∷ es) = back_of es

-- ---- the link that stands

-- a link on which the journal is passed from a place on
abbrev pub stretch_from : ℕ → Stretch
stretch_from from = record { from = from; mark = from }

-- one more message was passed on it
abbrev pub longer_stretch : Stretch → Stretch
longer_stretch x = record x { mark = x.mark + 1 }

-- how far the journal was passed on the link that stands
abbrev pub standing_link : List FollowEvent → Option Stretch
standing_link [] = None
standing_link (Linked from ∷ es) = Some (stretch_from from)
standing_link (Passed m ∷ es) = option_map longer_stretch (standing_link es)
standing_link (e ∷ es) = standing_link es

-- what was passed on it, in order
abbrev pub passed_on : List FollowEvent → List Message
passed_on [] = []
passed_on (Linked from ∷ es) = []
passed_on (Passed m ∷ es) = passed_on es ++ m ∷ []
passed_on (e ∷ es) = passed_on es
