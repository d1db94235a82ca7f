-- What is sent on a link's socket.
use Rattle.std.specs.Prelude.{ℕ, List, ◌++◌, Bool, true, false}
use Rattle.websocket.specs.View.{Leaves}
use Rattle.tungstenite.specs.Connection.{write_step}
use Rattle.tungstenite.specs.Content.{Content, binary}
use Rattle.tungstenite.specs.Socket.{Socket}
use Rattle.follow_core.specs.declared.event.FollowEvent.{FollowEvent}
use Rattle.follow_talk.specs.Sending.{PassesFrames}
use Rattle.follow_main.specs.declared.socket.Sent.{Sent}
use Rattle.follow_main.specs.declared.socket.Sent.TheVariants.{All, Waits, Gone}

-- whether a socket has what it was given
abbrev pub is_taken : Sent → Bool
is_taken All = true
is_taken Waits = true
is_taken Gone = false

-- a message stands whole behind what waited in a socket, of which some has gone
abbrev pub StandsWhole : {S : Type 0} → Content → Socket S → Socket S → Type 0
StandsWhole content old new = (gone : List ℕ) × Leaves (write_step old.conn content) new.conn old.output (gone ++ new.output)

-- what a follower passes is sent on a socket as one message: the frames of the device's own among it, whole and in order
pub record SendsPassed {S : Type 0} (old new : List FollowEvent) (before after : Socket S) : Type 0 where
  pub frames : List ℕ
  pub passed : PassesFrames old new frames
  pub sent : StandsWhole (binary frames) before after
