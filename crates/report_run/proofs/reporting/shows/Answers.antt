use Rattle.std.proofs.Common.{arith}
use Rattle.report_run.proofs.KeptRuns.{nothing_below, nothing_next, nothing_shown}
use Rattle.report_run.proofs.reporting.shows.Goals as goal

pub loop-i-init : goal.loop-i-init
loop-i-init c = nothing_below c.args.history.now

pub loop-i-preserved : goal.loop-i-preserved
loop-i-preserved c =
    nothing_next c.args.history.now c.loop-i.i c.in-Some.answer.now c.loop-i.invariant c.in-Some.ensures (c.is_text.ensures c.if-is_text.false)

pub returns : goal.returns
returns c = λ none. nothing_shown c.args.history.now c.loop-i.i (omega (arith, c.loop-i-test.false, c.len-i-end.ensures)) c.loop-i.invariant
