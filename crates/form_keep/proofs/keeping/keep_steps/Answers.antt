use Rattle.std.proofs.lemmas.Result.{err_from_is_err_and, IfOk-weaker, IfErr-weaker}
use Rattle.std.proofs.Common.{refl}
use Rattle.report_text.specs.Closing.{closing_lines}
use Rattle.form_keep.specs.Stopping.{is_read_fault, is_write_fault}
use Rattle.form_keep.proofs.Rows.{row_unopened, closed, unclosed}
use Rattle.form_keep.proofs.Causes.{quiet, cause_as}
use Rattle.form_keep.proofs.keeping.keep_steps.Goals as goal

pub returns-in_err-store-clause-stops : goal.returns-in_err-store-clause-stops
returns-in_err-store-clause-stops g c =
    let p = err_from_is_err_and c.from_residual.result c.from_residual.ensures.1 in
    rw (p.1, p.2) (row_unopened c.args.site (g.D.Disk.seen c.args.disk.now) (g.S.Source.left c.args.source.now) (g.K.Sink.written c.args.sink.now)
    (g.D.Disk.seen c.open_store.new.disk) (g.D.Disk.may_leave c.open_store.new.disk) c.in_err-store.field-0.0 c.in_err-store.ensures.stops)

pub returns-in-Err-clause-stops : goal.returns-in-Err-clause-stops
returns-in-Err-clause-stops g c = c.in-Err.ensures.stops c.args.site (g.D.Disk.seen c.args.disk.now) c.in_ok-store.ensures.opened

pub returns-in-Ok-clause-whole : goal.returns-in-Ok-clause-whole
returns-in-Ok-clause-whole g c =
    IfOk-weaker c.closing_text-closing.result _ _
    (λ lines is. closed g.D.Disk.seen g.D.Disk.may_leave c.answer_steps.new.disk c.closing_text-closing.new.disk c.closing_text-closing.ensures.quiet.0 c.args.site (g.D.Disk.seen c.args.disk.now)
    (g.S.Source.left c.args.source.now) (g.S.Source.left c.answer_steps.new.source) (g.K.Sink.written c.args.sink.now) (g.K.Sink.written c.answer_steps.new.sink)
    (closing_lines c.answer_steps.new.store.peer) (c.in-Ok.ensures.whole c.args.site (g.D.Disk.seen c.args.disk.now) c.in_ok-store.ensures.opened) lines.items is)
    c.closing_text-closing.ensures.lines

pub returns-in-Ok-clause-stops : goal.returns-in-Ok-clause-stops
returns-in-Ok-clause-stops g c =
    IfErr-weaker c.closing_text-closing.result _ _
    (λ stopped is. unclosed g.D.Disk.seen g.D.Disk.may_leave c.answer_steps.new.disk c.closing_text-closing.new.disk c.closing_text-closing.ensures.quiet.0 c.args.site (g.D.Disk.seen c.args.disk.now)
    (g.S.Source.left c.args.source.now) (g.S.Source.left c.answer_steps.new.source) (g.K.Sink.written c.args.sink.now) (g.K.Sink.written c.answer_steps.new.sink)
    (closing_lines c.answer_steps.new.store.peer) (c.in-Ok.ensures.whole c.args.site (g.D.Disk.seen c.args.disk.now) c.in_ok-store.ensures.opened) stopped is)
    c.closing_text-closing.ensures.stops

pub returns-in-Ok-clause-read_cause : goal.returns-in-Ok-clause-read_cause
returns-in-Ok-clause-read_cause g c =
    quiet is_read_fault c.closing_text-closing.result (g.S.Source.faults c.args.source.now) (g.S.Source.faults c.answer_steps.new.source) refl c.in-Ok.ensures.read_cause.counted c.closing_text-closing.ensures.stops

pub returns-in-Ok-clause-write_cause : goal.returns-in-Ok-clause-write_cause
returns-in-Ok-clause-write_cause g c =
    quiet is_write_fault c.closing_text-closing.result (g.K.Sink.faults c.args.sink.now) (g.K.Sink.faults c.answer_steps.new.sink) refl c.in-Ok.ensures.write_cause.counted c.closing_text-closing.ensures.stops

pub returns-in-Err-clause-read_cause : goal.returns-in-Err-clause-read_cause
returns-in-Err-clause-read_cause g c =
    cause_as is_read_fault (g.S.Source.faults c.args.source.now) (g.S.Source.faults c.answer_steps.new.source) c.in-Err.stopped c.in-Err.ensures.read_cause

pub returns-in-Err-clause-write_cause : goal.returns-in-Err-clause-write_cause
returns-in-Err-clause-write_cause g c =
    cause_as is_write_fault (g.K.Sink.faults c.args.sink.now) (g.K.Sink.faults c.answer_steps.new.sink) c.in-Err.stopped c.in-Err.ensures.write_cause
