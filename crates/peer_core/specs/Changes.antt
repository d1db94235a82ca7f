-- What a step may undo.
use Rattle.std.specs.Prelude.{◌+◌, Bool, true, ◌==◌, Option, Some, None, find, option_and_then}
use Rattle.element_name.specs.Cases.{when}
use Rattle.policy_book.specs.declared.op.AdminOp.{AdminOp}
use Rattle.edit_message.specs.declared.message.Message.{Message}
use Rattle.edit_message.specs.declared.message.Message.TheVariants.{Coop, Admin}
use Rattle.edit_message.specs.Formed.{is_message}
use Rattle.peer_step.specs.declared.step.Step.{Step}
use Rattle.peer_step.specs.declared.step.Step.TheVariants.{Edit, Administer, Receive, Settle, ValidateNext, Look, Show}
use Rattle.peer_tables.specs.Derived.{is_due}
use Rattle.peer_core.specs.Peer.{Peer, front}

-- the operation of a message that is the next entry
abbrev pub next_operation : Peer → Message → Option AdminOp
next_operation p (Coop q) = None
next_operation p (Admin e) = when (e.version == front p + 1) e.op

-- the earliest held message that is due
abbrev pub due_message : Peer → Option Message
due_message p = find (is_due p.journal) p.held

-- the operation of the entry that a step may integrate; a validation that it issues undoes nothing
abbrev pub operation_of : Peer → Step → Option AdminOp
operation_of p (Edit edit) = None
operation_of p (Administer op) = Some op
operation_of p (Receive m) = next_operation p m
operation_of p Settle = option_and_then (next_operation p) (due_message p)
operation_of p ValidateNext = None
operation_of p (Look from) = None
operation_of p Show = None

-- a message that it brings is well formed
abbrev pub is_received : Step → Bool
is_received (Receive m) = is_message m
is_received step = true
