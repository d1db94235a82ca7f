-- Messages that are passed, and the frames that go to the host.
use Rattle.std.specs.Prelude.{◌≡◌, ℕ, List, [], ◌∷◌, ◌++◌, if◌then◌else◌}
use Rattle.edit_message.specs.declared.message.Message.{Message}
use Rattle.edit_frame.specs.declared.frame.Frame.TheVariants.{Item}
use Rattle.edit_frame.specs.Spelling.{spelling}
use Rattle.follow_core.specs.declared.event.FollowEvent.{FollowEvent}
use Rattle.follow_core.specs.declared.event.FollowEvent.TheVariants.{Passed}
use Rattle.follow_core.specs.Past.{follow_peer, is_request_of}

-- what has happened behind the pass of messages, one after another
abbrev pub behind_passes : List Message → List FollowEvent → List FollowEvent
behind_passes [] es = es
behind_passes (m ∷ ms) es = behind_passes ms (Passed m ∷ es)

-- the frame of a message, if it is a request of a site
abbrev pub own_frame : ℕ → Message → List ℕ
own_frame site m = if is_request_of site m then spelling (Item m) else []

-- the frames of those of messages that are requests of a site, one behind the other
abbrev pub own_frames : ℕ → List Message → List ℕ
own_frames site [] = []
own_frames site (m ∷ ms) = own_frame site m ++ own_frames site ms

-- messages were passed, and the frames of the device's own among them, whole and in order, are these bytes
pub record PassesFrames (old new : List FollowEvent) (frames : List ℕ) : Type 0 where
  pub items : List Message
  pub passed : new ≡ behind_passes items old
  pub framed : frames ≡ own_frames (follow_peer old).site items
