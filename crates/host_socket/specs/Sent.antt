-- What is sent on a socket.
use Rattle.std.specs.Prelude.{ℕ, List, ◌++◌, Bool, true, false}
use Rattle.websocket.specs.View.{Leaves}
use Rattle.tungstenite.specs.Connection.{write_step}
use Rattle.tungstenite.specs.Content.{Content}
use Rattle.tungstenite.specs.Socket.{Socket}
use Rattle.host_socket.specs.declared.socket.After.{After}
use Rattle.host_socket.specs.declared.socket.After.TheVariants.{Waits, More, Gone, Ends}

-- a socket goes on behind what was sent on it
abbrev pub socket_stays : After → Bool
socket_stays Waits = true
socket_stays More = true
socket_stays Gone = false
socket_stays (Ends why) = false

-- a message stands whole behind what waited in a socket, of which some has gone
abbrev pub IsSent : {S : Type 0} → Content → Socket S → Socket S → Type 0
IsSent content old new = (gone : List ℕ) × Leaves (write_step old.conn content) new.conn old.output (gone ++ new.output)
