use Rattle.std.proofs.Common.{sym, ◌∙◌, arith}
use Rattle.peer_outlook.proofs.OutlookLemmas.{one_name_more, all_named}
use Rattle.peer_outlook.proofs.undone.undone_names.Goals as goal

pub loop-i-preserved : goal.loop-i-preserved
loop-i-preserved c =
    one_name_more c.args.before.now c.args.after.now c.args.before.now.journal c.loop-i.i c.in-Some.item _ _ c.loop-i.invariant (sym c.journal.ensures ∙ c.in-Some.is) _ c.key.ensures _ c.undone_by_key.ensures
    c.in_ok-push_found.ensures

pub returns : goal.returns
returns c =
    let past = c.loop-i-test.false in
    all_named c.args.before.now c.args.after.now c.loop-i.i c.journal_len-i-end.result c.loop-i.names.items c.loop-i.invariant c.journal_len-i-end.ensures (omega (arith, past))
