use Rattle.std.proofs.lemmas.Result.{err_from_is_err_and}
use Rattle.report_run.specs.Report.{run_line}
use Rattle.report_run.proofs.Tellings.{only_line, calls_short, all_parts}
use Rattle.report_run.proofs.reporting.tell_from.Goals as goal

pub returns-in_err-tell_calls-clause-tells : goal.returns-in_err-tell_calls-clause-tells
returns-in_err-tell_calls-clause-tells g c =
    let p = err_from_is_err_and c.from_residual.result c.from_residual.ensures.1 in
    let first = only_line _ c.put_run.new.out.items (run_line c.len.result) c.new-out.ensures.items c.in_default.ensures in
    rw (p.1, p.2) (calls_short c.len.result c.args.history.now.run c.args.peer.now c.put_run.new.out.items first c.len.ensures _ _ _ c.in_err-tell_calls.ensures.gathers)

pub returns-clause-tells : goal.returns-clause-tells
returns-clause-tells g c =
    let first = only_line _ c.put_run.new.out.items (run_line c.len.result) c.new-out.ensures.items c.in_default.ensures in
    all_parts c.len.result c.args.history.now.run c.args.peer.now c.put_run.new.out.items first c.len.ensures _ _ _ _ _ _ c.in_ok-tell_calls.ensures.peer
    c.in_ok-tell_calls.ensures.gathers c.tell_closing.ensures.tells
