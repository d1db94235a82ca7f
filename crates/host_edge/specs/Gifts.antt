-- Messages that a document gives a link, and the frames that go to it.
use Rattle.std.specs.Prelude.{◌≡◌, ℕ, List, [], ◌∷◌, ◌++◌, Option, option_map, length}
use Rattle.edit_message.specs.declared.message.Message.{Message}
use Rattle.tungstenite.specs.Content.{binary}
use Rattle.tungstenite.specs.Socket.{Socket}
use Rattle.host_core.specs.declared.event.LinkId.{LinkId}
use Rattle.host_core.specs.declared.event.HostEvent.{HostEvent}
use Rattle.host_core.specs.declared.event.HostEvent.TheVariants.{Gave}
use Rattle.host_seal.specs.Frames.{item_frames}
use Rattle.host_socket.specs.Sent.{IsSent}

-- what has happened at a document behind the gift of a message to a link, if it is open
abbrev pub behind_gift : LinkId → Message → Option (List HostEvent) → Option (List HostEvent)
behind_gift link m past = option_map (λ events. Gave link m ∷ events) past

-- the same behind the gifts of several, one after another
abbrev pub behind_gifts : LinkId → List Message → Option (List HostEvent) → Option (List HostEvent)
behind_gifts link [] past = past
behind_gifts link (m ∷ ms) past = behind_gifts link ms (behind_gift link m past)

-- a document gave a link so many messages, and their frames, whole and in order, stand behind others
pub record GivesFrames (link : LinkId) (count : ℕ) (old new : Option (List HostEvent)) (before after : List ℕ) : Type 0 where
  pub items : List Message
  pub so_many : length items ≡ count
  pub given : new ≡ behind_gifts link items old
  pub framed : after ≡ before ++ item_frames items

-- so many messages, as some document gives them to a link: their frames, whole and in order, stand behind others
pub record AreGifts (link : LinkId) (count : ℕ) (before after : List ℕ) : Type 0 where
  pub stood : Option (List HostEvent)
  pub stands : Option (List HostEvent)
  pub gives : GivesFrames link count stood stands before after

-- such frames, whole and in order, are sent on a socket as one message
pub record SendsGifts {S : Type 0} (link : LinkId) (before after : Socket S) : Type 0 where
  pub count : ℕ
  pub frames : List ℕ
  pub given : AreGifts link count [] frames
  pub sends : IsSent (binary frames) before after
