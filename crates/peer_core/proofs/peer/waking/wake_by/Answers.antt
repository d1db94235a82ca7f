use Rattle.std.proofs.Common.{◌≡◌, true, false, subst}
use Rattle.std.specs.Option.{option_map_or}
use Rattle.hold_back.specs.Hold.{messages_of}
use Rattle.peer_core.specs.Waiting.{is_unmet, wait_rightly, woken_for}
use Rattle.peer_core.proofs.WaitingLemmas.OneMore.{all_later}
use Rattle.peer_core.proofs.peer.waking.wake_by.Goals as goal

pub wake-requires-clause-waiting : goal.wake-requires-clause-waiting
wake-requires-clause-waiting c =
    subst (λ o. wait_rightly c.args.journal.now (woken_for o c.args.hold.now) ≡ true) c.in-Some.is c.requires.waiting

pub wake-requires-clause-later : goal.wake-requires-clause-later
wake-requires-clause-later c =
    all_later c.args.journal.now (messages_of c.args.hold.now) c.len.ensures.within.journal_is c.requires.keys c.requires.formed

pub wake-requires-clause-met : goal.wake-requires-clause-met
wake-requires-clause-met c = subst (λ o. option_map_or (is_unmet c.args.journal.now) o false ≡ false) c.in-Some.is c.requires.met
