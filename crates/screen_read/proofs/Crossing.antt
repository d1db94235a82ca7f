-- That the ends of a board go to other threads, type by type, so that each search is short.
use denote.RattleType.{RattleType}
use denote.Param.Send.{IsSend, IsSync, sendable, recorded_send, struct_send}
use Rattle.std.proofs.Crossing.{send, sync, crosses}
use Rattle.atomic_table.proofs.shared.Seat.TheSendSync as seat
use Rattle.atomic_table.proofs.shared.Shared.TheSendSync as table
use Rattle.atomic_table.proofs.send_lease.SendLease.TheSendSync as lease
use Rattle.left_right.proofs.part.Part.TheSendSync as part
use Rattle.logbook.proofs.tokens.Seen.TheSendSync as seen
use Rattle.left_right.specs.contracts.reader.Reader as Reader
use Rattle.std.specs.contracts.alloc.Global as Global
use Rattle.std.specs.contracts.collections.LinkedList as LinkedList
use Rattle.std.specs.contracts.impls.GlobalAllocator.TheImpl as alloc
use Rattle.peer_step.specs.contracts.text.Text as Text
use Rattle.screen_read.specs.contracts.rule.OneBoard as OneBoard
use Rattle.screen_read.specs.contracts.rule.OneBoardProtocolShownLinkedListShown.TheImpl as protocol
use Rattle.screen_read.specs.contracts.page.Page as Page
use Rattle.screen_read.specs.contracts.shown.Shown as Shown

ruleset plain = (sendable, crosses)

Text-send : IsSend Text.the_row
Text-send = search plain depth 100 fits 100000

Text-sync : IsSync Text.the_row
Text-sync = search plain depth 100 fits 100000

pub Page-send : IsSend Page.the_row
Page-send = search (Text-send, Text-sync, plain) depth 100 fits 100000

Page-sync : IsSync Page.the_row
Page-sync = search (Text-send, Text-sync, plain) depth 100 fits 100000

pub Shown-send : IsSend Shown.the_row
Shown-send = search (seen.the_send, Page-send, plain) depth 100 fits 100000

pub Shown-sync : IsSync Shown.the_row
Shown-sync = search (seen.the_sync, Page-sync, plain) depth 100 fits 100000

abbrev Places : RattleType
Places = LinkedList.the_row Shown.the_row Global.the_row alloc.ghosts

pub Reader-send : IsSend (Reader.the_row Shown.the_row Places OneBoard.the_row Global.the_row protocol.ghosts alloc.ghosts)
Reader-send = search (recorded_send, struct_send, seat.the_send, table.the_send, table.the_sync, lease.the_send, lease.the_sync, part.the_send, Shown-sync, send, sync, sendable, crosses) depth 300 fits 1000000

-- what a search takes for a closure that has an end of a board
pub ruleset of_screens = (Page-send, Shown-send, Shown-sync, Reader-send, crosses)
