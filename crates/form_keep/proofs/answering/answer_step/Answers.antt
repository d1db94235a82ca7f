use Rattle.std.proofs.Common.{[], ◌∙◌}
use Rattle.std.proofs.KnownBytes.{Appends-nil}
use Rattle.std.proofs.lemmas.Result.{on_ok_weaker, err_from_is_err_and}
use Rattle.line_engine.proofs.Bytes.{begun_none}
use Rattle.form_keep.proofs.Puts.{put_stops, put_kept, said_part, lines_stop, line_is}
use Rattle.form_keep.proofs.answering.answer_step.Goals as goal

pub returns-in_err-answer-clause-stops : goal.returns-in_err-answer-clause-stops
returns-in_err-answer-clause-stops g c =
    let p = err_from_is_err_and c.from_residual.result c.from_residual.ensures.1 in
    rw (p.1, p.2) (put_stops g.D.Disk.seen g.D.Disk.may_leave g.D.Disk.moment g.D.Disk.left_since g.met.D.Disk.seen_may_stay g.met.D.Disk.counts_now
    c.args.store.now c.put.new.self c.args.step c.args.disk.now c.put.new.disk (g.K.Sink.written c.args.sink.now)
    c.in_err-answer.field-0.0 c.requires.unspent c.in_err-answer.ensures.left c.in_err-answer.ensures.any_moment)

pub returns-in_err-line-clause-stops : goal.returns-in_err-line-clause-stops
returns-in_err-line-clause-stops g c =
    let p = err_from_is_err_and c.from_residual-in_err-line.result c.from_residual-in_err-line.ensures.1 in
    let put = c.in_ok-answer.ensures in
    let kept = put_kept c.args.store.now c.put.new.self c.args.step c.in_ok-answer.answer (g.D.Disk.seen c.args.disk.now) (g.D.Disk.seen c.put.new.disk) (g.D.Disk.may_leave c.args.disk.now) (g.D.Disk.may_leave c.put.new.disk)
    put.after put.unspent put.refused put.saved in
    rw (p.1, p.2) (said_part c.args.store.now c.put.new.self c.args.step (g.K.Sink.written c.args.sink.now) (g.K.Sink.written c.args.sink.now) _ _ _ _ kept [] (begun_none _) (Appends-nil (g.K.Sink.written c.args.sink.now)))

pub returns-clause-kept : goal.returns-clause-kept
returns-clause-kept g c =
    let put = c.in_ok-answer.ensures in
    let kept = put_kept c.args.store.now c.put.new.self c.args.step c.in_ok-answer.answer (g.D.Disk.seen c.args.disk.now) (g.D.Disk.seen c.put.new.disk) (g.D.Disk.may_leave c.args.disk.now) (g.D.Disk.may_leave c.put.new.disk)
    put.after put.unspent put.refused put.saved in
    on_ok_weaker c.write_lines.result (λ said. kept) c.write_lines.ensures.ok

pub returns-clause-stops : goal.returns-clause-stops
returns-clause-stops g c =
    let put = c.in_ok-answer.ensures in
    let kept = put_kept c.args.store.now c.put.new.self c.args.step c.in_ok-answer.answer (g.D.Disk.seen c.args.disk.now) (g.D.Disk.seen c.put.new.disk) (g.D.Disk.may_leave c.args.disk.now) (g.D.Disk.may_leave c.put.new.disk)
    put.after put.unspent put.refused put.saved in
    lines_stop c.args.store.now c.put.new.self c.args.step (g.K.Sink.written c.args.sink.now) (g.K.Sink.written c.write_lines.new.sink) _ _ _ _ kept c.write_lines.result _
    (line_is c.args.store.now c.args.step c.in_ok-answer.answer _ put.answer (c.deref.ensures.value ∙ c.in_ok-line.ensures)) c.write_lines.ensures.err c.write_lines.ensures.stops
