use Rattle.std.proofs.Common.{sym, ◌∙◌}
use Rattle.peer_core.proofs.BeginningLemmas.{take_one_more}
use Rattle.peer_outlook.proofs.outlook.journal_of.Goals as goal

pub loop-i-preserved : goal.loop-i-preserved
loop-i-preserved c =
    let front = take_one_more c.args.peer.now.journal c.loop-i.i c.in-Some.item (sym c.journal.ensures ∙ c.in-Some.is) in
    cc (c.in_ok-push.ensures.items, c.loop-i.invariant, c.in_ok-copied.ensures)
