use Rattle.std.proofs.Common.{List, [], sym, subst}
use Rattle.hold_back.specs.declared.held.Held.{Held}
use Rattle.edit_message.specs.declared.message.Message.{Message}
use Rattle.peer_core.specs.Waiting.{IsPeer}
use Rattle.peer_core.proofs.RestoreLemmas.{restored_peer}
use Rattle.peer_core.proofs.peer.Peer.restore.Goals as goal

pub invariant_of-result : goal.invariant_of-result
invariant_of-result c =
    subst (λ (held : List Held). IsPeer c.args.site c.in_ok-journal_of.field-0 held) (sym c.new.ensures)
    (subst (λ (J : List Message). IsPeer c.args.site J []) (sym c.in_ok-journal_of.ensures.value) (restored_peer c.args.site c.args.messages.now c.in_ok-journal_of.ensures.within))
