-- What a link over memory is seen as, and what a call leaves of it.
use Rattle.std.specs.Prelude.{◌≡◌, ℕ, ◌+◌, ◌⊎◌, Contains, List, [], ◌∷◌, ◌++◌, take, drop, map, Option, Some, None, Result, Ok, Err, Vec}
use Rattle.edit_io.specs.declared.fail.OutFail.{OutFail}
use Rattle.edit_io.specs.declared.fail.OutFail.TheVariants as out_fail
use Rattle.edit_io.specs.Causes.{next_count, last_count}

-- the messages still to come, those that came and those that were sent, the calls that fail, and the counts of calls, faults and closes
pub record Wire : Type 0 where
  pub coming : List (List ℕ)
  pub got : List (List ℕ)
  pub sent : List (List ℕ)
  pub fails : List ℕ
  pub calls : ℕ
  pub faults : ℕ
  pub closes : ℕ

-- the messages in a list of buffers
abbrev pub messages : {A : Type 0} → List (Vec ℕ A) → List (List ℕ)
messages buffers = map (λ buffer. buffer.items) buffers

-- a `recv` fails where its call is listed, and at a close that can't be counted
abbrev pub RecvFails : Wire → Type 0
RecvFails w = Contains w.fails (next_count w.calls) ⊎ ((w.coming ≡ []) × (w.closes ≡ last_count))

-- what comes next of these messages: the first, and the close exactly where there is none
abbrev pub ComesNext : {A : Type 0} → List (List ℕ) → Option (Vec ℕ A) → Type 0
ComesNext coming None = coming ≡ []
ComesNext coming (Some message) = coming ≡ message.items ∷ drop 1 coming

-- the link after a `recv` that answered so: the message came, or the close or the failure is counted
abbrev pub wire_after_recv : {A : Type 0} → Wire → Result (Option (Vec ℕ A)) OutFail → Wire
wire_after_recv w (Ok (Some message)) = record w { coming = drop 1 w.coming; got = w.got ++ message.items ∷ []; calls = next_count w.calls }
wire_after_recv w (Ok None) = record w { calls = next_count w.calls; closes = w.closes + 1 }
wire_after_recv w (Err out_fail.Failed) = record w { calls = next_count w.calls; faults = next_count w.faults }
wire_after_recv w (Err out_fail.NoMemory) = record w { calls = next_count w.calls }

-- the link after a `send` that answered so: the message was sent, or the failure is counted
abbrev pub wire_after_send : Wire → List ℕ → Result (Unit {0}) OutFail → Wire
wire_after_send w message (Ok done) = record w { sent = w.sent ++ message ∷ []; calls = next_count w.calls }
wire_after_send w message (Err out_fail.Failed) = record w { calls = next_count w.calls; faults = next_count w.faults }
wire_after_send w message (Err out_fail.NoMemory) = record w { calls = next_count w.calls }

-- this is the message in this place of a list: what comes from there on begins with it, and what came ends with it
pub record IsNextIn (list : List (List ℕ)) (at : ℕ) (message : List ℕ) : Type 0 where
  pub comes : drop at list ≡ message ∷ drop (at + 1) list
  pub came : take (at + 1) list ≡ take at list ++ message ∷ []
