use Rattle.std.proofs.Common.{ℕ, List, subst}
use Rattle.line_engine.specs.Engine.{Says}
use Rattle.form_keep.specs.Run.{closing_output, stop_output}
use Rattle.form_keep.proofs.Rows.{ran_by}
use Rattle.form_keep.proofs.Causes.{tells_read, tells_write}
use Rattle.form_keep.proofs.keeping.keep.Goals as goal

pub returns-in-Ok-clause-ran : goal.returns-in-Ok-clause-ran
returns-in-Ok-clause-ran g c =
    ran_by (closing_output c.in-Ok.closing.items) c.args.site (g.D.Disk.seen c.args.disk.now) (g.S.Source.left c.args.source.now) (g.S.Source.left c.keep_steps.new.source)
    (g.K.Sink.written c.args.sink.now) (g.K.Sink.written c.keep_steps.new.sink) (g.K.Sink.written c.say.new.sink) (g.D.Disk.seen c.keep_steps.new.disk) (g.D.Disk.may_leave c.keep_steps.new.disk) c.say.result c.in-Ok.ensures.whole
    (subst (λ (l : List ℕ). (w : List ℕ) × Says (g.K.Sink.written c.keep_steps.new.sink) (g.K.Sink.written c.say.new.sink) c.say.result (closing_output l) w) c.deref.ensures.value c.say.ensures.says)

pub returns-in-Err-clause-ran : goal.returns-in-Err-clause-ran
returns-in-Err-clause-ran g c =
    ran_by (stop_output c.in-Err.stopped) c.args.site (g.D.Disk.seen c.args.disk.now) (g.S.Source.left c.args.source.now) (g.S.Source.left c.keep_steps.new.source)
    (g.K.Sink.written c.args.sink.now) (g.K.Sink.written c.keep_steps.new.sink) (g.K.Sink.written c.tell.new.sink) (g.D.Disk.seen c.keep_steps.new.disk) (g.D.Disk.may_leave c.keep_steps.new.disk) c.tell.result c.in-Err.ensures.stops c.tell.ensures.says

pub returns-in-Err-clause-read_cause : goal.returns-in-Err-clause-read_cause
returns-in-Err-clause-read_cause g c =
    tells_read (g.S.Source.faults c.args.source.now) (g.S.Source.faults c.keep_steps.new.source) (g.K.Sink.faults c.keep_steps.new.sink) (g.K.Sink.faults c.tell.new.sink)
    (g.K.Sink.written c.keep_steps.new.sink) (g.K.Sink.written c.tell.new.sink) c.in-Err.stopped c.tell.result c.tell.ensures.says.0 c.in-Err.ensures.read_cause c.tell.ensures.cause c.tell.ensures.says.1

pub returns-in-Err-clause-write_cause : goal.returns-in-Err-clause-write_cause
returns-in-Err-clause-write_cause g c =
    tells_write (g.K.Sink.faults c.args.sink.now) (g.K.Sink.faults c.keep_steps.new.sink) (g.K.Sink.faults c.tell.new.sink) c.in-Err.stopped c.tell.result c.in-Err.ensures.write_cause c.tell.ensures.cause
