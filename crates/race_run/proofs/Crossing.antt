-- That packed steps may be lent to other threads, type by type, so that each search is short.
use denote.Param.Send.{IsSync, sendable}
use Rattle.std.proofs.Crossing.{crosses}
use Rattle.policy_book.specs.contracts.op.AdminOp as AdminOp
use Rattle.policy_book.specs.contracts.op.Entry as Entry
use Rattle.edit_message.specs.contracts.packed_message.PackedMessage as PackedMessage
use Rattle.peer_step.specs.contracts.packed_step.PackedStep as PackedStep

AdminOp-sync : IsSync AdminOp.the_row
AdminOp-sync = search (sendable, crosses) depth 100 fits 100000

Entry-sync : IsSync Entry.the_row
Entry-sync = search (sendable, crosses) depth 100 fits 100000

PackedMessage-sync : IsSync PackedMessage.the_row
PackedMessage-sync = search (Entry-sync, sendable, crosses) depth 100 fits 100000

pub PackedStep-sync : IsSync PackedStep.the_row
PackedStep-sync = search (AdminOp-sync, PackedMessage-sync, sendable, crosses) depth 100 fits 100000
