-- What goes to other threads, or is lent to them: type by type, so that each search is short.
use denote.Param.Send.{IsSend, IsSync, sendable}
use denote.Enum.Enum.{Enum}
use denote.Enum.Declared.{shape}
use Rattle.std.proofs.Crossing.{send, sync, crosses}
use Rattle.std.proofs.MapsCrossing as maps
use Rattle.atomic_table.proofs.shared.Seat.TheSendSync as seat
use Rattle.atomic_table.proofs.shared.Shared.TheSendSync as table
use Rattle.atomic_table.proofs.send_lease.SendLease.TheSendSync as lease
use Rattle.ghost_list.proofs.ghost_list.GhostList.TheSendSync as ghost_list
use Rattle.policy_book.specs.contracts.op.AdminOp as AdminOp
use Rattle.policy_book.specs.contracts.op.Entry as Entry
use Rattle.policy_book.specs.contracts.policy.Policy as Policy
use Rattle.edit_message.specs.contracts.message.Message as Message
use Rattle.edit_message.specs.contracts.packed_message.PackedMessage as PackedMessage
use Rattle.peer_step.specs.contracts.packed_step.PackedStep as PackedStep
use Rattle.admin_log.specs.contracts.log.AdminLog as AdminLog
use Rattle.request_state.specs.contracts.table.StateTable as StateTable
use Rattle.tomb_seq.specs.contracts.seq.TombSeq as TombSeq
use Rattle.hold_back.specs.contracts.hold.HoldBack as HoldBack
use Rattle.peer_step.specs.contracts.step.LocalEdit as LocalEdit
use Rattle.peer_step.specs.contracts.step.Step as Step
use Rattle.peer_tables.specs.contracts.journal.Journal as Journal
use Rattle.peer_core.specs.contracts.peer.Peer as Peer
use Rattle.peer_lock.specs.contracts.boxed_message.BoxedMessage as BoxedMessage
use Rattle.peer_lock.specs.contracts.call.Call as Call
use Rattle.peer_lock.specs.contracts.kept_answer.KeptAnswer as KeptAnswer
use Rattle.peer_lock.specs.contracts.recorder.Recorder as Recorder
use Rattle.peer_lock.specs.contracts.pass.Pass as Pass
use Rattle.peer_lock.specs.contracts.shared_peer.SharedPeer as SharedPeer

ruleset plain = (sendable, crosses, maps.crosses)

-- ---- steps

-- as rows of a step
LocalEdit-sync : IsSync (Enum (shape LocalEdit.the_type))
LocalEdit-sync = search plain depth 100 fits 100000

AdminOp-sync : IsSync (Enum (shape AdminOp.the_type))
AdminOp-sync = search plain depth 100 fits 100000

Message-sync : IsSync (Enum (shape Message.the_type))
Message-sync = search plain depth 100 fits 100000

pub Step-sync : IsSync Step.the_row
Step-sync = search (LocalEdit-sync, AdminOp-sync, Message-sync, plain) depth 100 fits 100000

AdminOp-send : IsSend (Enum (shape AdminOp.the_type))
AdminOp-send = search plain depth 100 fits 100000

Entry-send : IsSend Entry.the_row
Entry-send = search (AdminOp-send, plain) depth 100 fits 100000

PackedMessage-send : IsSend PackedMessage.the_row
PackedMessage-send = search (Entry-send, plain) depth 100 fits 100000

PackedStep-send : IsSend PackedStep.the_row
PackedStep-send = search (AdminOp-send, PackedMessage-send, plain) depth 100 fits 100000

Call-send : IsSend Call.the_row
Call-send = search (PackedStep-send, plain) depth 100 fits 100000

BoxedMessage-send : IsSend BoxedMessage.the_row
BoxedMessage-send = search (PackedMessage-send, plain) depth 100 fits 100000

KeptAnswer-send : IsSend KeptAnswer.the_row
KeptAnswer-send = search (BoxedMessage-send, plain) depth 100 fits 100000

-- ---- the peer

Policy-send : IsSend Policy.the_row
Policy-send = search plain depth 100 fits 100000

AdminLog-send : IsSend AdminLog.the_row
AdminLog-send = search (Entry-send, Policy-send, plain) depth 100 fits 100000

StateTable-send : IsSend StateTable.the_row
StateTable-send = search plain depth 100 fits 100000

TombSeq-send : IsSend TombSeq.the_row
TombSeq-send = search plain depth 100 fits 100000

HoldBack-send : IsSend HoldBack.the_row
HoldBack-send = search (PackedMessage-send, Entry-send, plain) depth 100 fits 100000

Journal-send : IsSend Journal.the_row
Journal-send = search (AdminLog-send, StateTable-send, TombSeq-send, ghost_list.the_send, plain) depth 100 fits 100000

Peer-send : IsSend Peer.the_row
Peer-send = search (Journal-send, HoldBack-send, plain) depth 100 fits 100000

-- ---- what is shared

Recorder-send : IsSend Recorder.the_row
Recorder-send = search (Peer-send, Call-send, KeptAnswer-send, plain) depth 100 fits 100000

pub Pass-send : IsSend Pass.the_row
Pass-send = search (seat.the_send, Recorder-send, plain) depth 100 fits 100000

pub SharedPeer-sync : IsSync SharedPeer.the_row
SharedPeer-sync = search (table.the_sync, lease.the_sync, send, sync, Recorder-send, plain) depth 100 fits 100000

-- what a search takes for a closure that steps on a shared peer
pub ruleset of_shared_peers = (Step-sync, Pass-send, SharedPeer-sync, crosses)
