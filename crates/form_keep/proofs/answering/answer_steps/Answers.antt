use Rattle.std.proofs.Common.{[], ◌∷◌, ◌++◌, refl, ap, ◌∙◌, subst, arith}
use Rattle.std.specs.Prelude.{is_some}
use Rattle.std.specs.Io.KnownBytes.{Appends}
use Rattle.std.proofs.KnownBytes.{Appends-nil, Appends-trans}
use Rattle.std.proofs.lemmas.Result.{err_from_is_err_and}
use Rattle.form_keep.specs.Reader.{StepsStop}
use Rattle.form_keep.specs.Replies.{replies_from}
use Rattle.form_keep.proofs.Reading.{read_so_far}
use Rattle.form_keep.proofs.Steps.{none_kept, more_kept, replies_more}
use Rattle.form_keep.proofs.Causes.{stop_reads, stop_write, stop_disk}
use Rattle.form_keep.proofs.Rows.{row_none, row_stop, row_one, row_whole}
use Rattle.form_keep.proofs.answering.answer_steps.Goals as goal
use Rattle.form_keep.proofs.answering.answer_steps.Goals.{In_err-step}
use Rattle.form_keep.proofs.answering.answer_steps.Given.{Over}

pub returns-in_err-reader-clause-stops : goal.returns-in_err-reader-clause-stops
returns-in_err-reader-clause-stops g c =
    let p = err_from_is_err_and c.from_residual.result c.from_residual.ensures.1 in
    rw (p.1, p.2) (λ site entry opened. row_none site entry (g.S.Source.left c.args.source.now) (g.K.Sink.written c.args.sink.now) (g.D.Disk.seen c.args.disk.now) (g.D.Disk.may_leave c.args.disk.now))

pub steps-init : goal.steps-init
steps-init g c = record {
  run = (
    [],
    c.in_ok-reader.ensures (g.S.Source.left c.args.source.now),
    none_kept c.args.store.now c.args.store.now (g.D.Disk.seen c.args.disk.now) (g.D.Disk.seen c.args.disk.now) (g.D.Disk.may_leave c.args.disk.now) (g.D.Disk.may_leave c.args.disk.now) refl c.requires.unspent
        (λ site kept saved. saved),
    Appends-nil (g.K.Sink.written c.args.sink.now),
  );
  gate = c.requires.gate;
  source_faults = refl;
  sink_faults = refl;
  disk_faults = omega arith;
}

-- ---- reading stops

pub returns-in_err-step-clause-stops : goal.returns-in_err-step-clause-stops
returns-in_err-step-clause-stops g c =
    let p = err_from_is_err_and c.from_residual-in_err-step.result c.from_residual-in_err-step.ensures.1 in
    let run = c.steps.invariant.run in
    let left = g.S.Source.left c.args.source.now in
    rw (p.1, p.2) (λ site entry opened. row_stop site entry c.args.store.now (g.D.Disk.seen c.args.disk.now) (g.D.Disk.may_leave c.args.disk.now) opened c.steps.store run.0 (g.D.Disk.seen c.steps.disk) (g.D.Disk.may_leave c.steps.disk) run.2
    left (g.S.Source.left c.next_step.new.source) (g.K.Sink.written c.args.sink.now) (g.K.Sink.written c.steps.sink) run.3 c.in_err-step.field-0.0 (c.in_err-step.ensures.stops left run.0 run.1))

-- why it stops
reading_stops : (g : Over) (c : In_err-step g) → StepsStop (g.S.Source.left c.args.source.now) (g.S.Source.left c.next_step.new.source) c.steps.invariant.run.0 c.in_err-step.field-0.0
reading_stops g c = c.in_err-step.ensures.stops (g.S.Source.left c.args.source.now) c.steps.invariant.run.0 c.steps.invariant.run.1

pub returns-in_err-step-clause-reads : goal.returns-in_err-step-clause-reads
returns-in_err-step-clause-reads g c = stop_reads _ _ _ c.in_err-step.field-0.0 (reading_stops g (goal.at.returns-in_err-step-clause-reads g c).In_err-step)

pub returns-in_err-step-clause-write_cause : goal.returns-in_err-step-clause-write_cause
returns-in_err-step-clause-write_cause g c =
    let p = err_from_is_err_and c.from_residual-in_err-step.result c.from_residual-in_err-step.ensures.1 in
    let stops = reading_stops g (goal.at.returns-in_err-step-clause-write_cause g c).In_err-step in
    rw (p.1, p.2) (stop_write _ _ _ c.in_err-step.field-0.0 (g.K.Sink.faults c.args.sink.now) (g.K.Sink.faults c.steps.sink) stops c.steps.invariant.sink_faults)

pub returns-in_err-step-clause-disk_cause : goal.returns-in_err-step-clause-disk_cause
returns-in_err-step-clause-disk_cause g c =
    let p = err_from_is_err_and c.from_residual-in_err-step.result c.from_residual-in_err-step.ensures.1 in
    let stops = reading_stops g (goal.at.returns-in_err-step-clause-disk_cause g c).In_err-step in
    rw (p.1, p.2) (stop_disk _ _ _ c.in_err-step.field-0.0 (g.D.Disk.faults c.args.disk.now) (g.D.Disk.faults c.steps.disk) stops c.steps.invariant.disk_faults)

-- ---- a step is answered

pub steps-preserved : goal.steps-preserved
steps-preserved g c =
    let run = c.steps.invariant.run in
    let left = g.S.Source.left c.args.source.now in
    let some = rw c.in-Some.is at c.in_ok-step.ensures.some in
    let step = c.in-Some.step in
    let old = c.args.store.now in
    record {
      run = (
        run.0 ++ step ∷ [],
        some left run.0 run.1,
        more_kept old c.steps.store c.answer_step.new.store run.0 (step ∷ []) (g.D.Disk.seen c.args.disk.now) (g.D.Disk.seen c.steps.disk) (g.D.Disk.seen c.answer_step.new.disk)
            (g.D.Disk.may_leave c.args.disk.now) (g.D.Disk.may_leave c.steps.disk) (g.D.Disk.may_leave c.answer_step.new.disk) run.2 c.in_ok-answer_step.ensures.kept,
        subst (Appends (g.K.Sink.written c.args.sink.now) (g.K.Sink.written c.answer_step.new.sink)) (replies_more old.peer c.steps.store.peer run.0 (step ∷ []) run.2.after)
            (Appends-trans (g.K.Sink.written c.args.sink.now) (g.K.Sink.written c.steps.sink) (g.K.Sink.written c.answer_step.new.sink) (replies_from old.peer run.0) (replies_from c.steps.store.peer (step ∷ [])) run.3 c.in_ok-answer_step.ensures.said),
      );
      gate = c.in_ok-answer_step.ensures.gate;
      source_faults = c.in_ok-step.ensures.cause.counted ∙ c.steps.invariant.source_faults;
      sink_faults = c.in_ok-answer_step.ensures.write_cause.counted ∙ c.steps.invariant.sink_faults;
      disk_faults = omega (arith, c.in_ok-answer_step.ensures.disk_cause.later, c.steps.invariant.disk_faults);
    }

pub returns-in_err-answer_step-clause-stops : goal.returns-in_err-answer_step-clause-stops
returns-in_err-answer_step-clause-stops g c =
    let p = err_from_is_err_and c.from_residual-in_err-answer_step.result c.from_residual-in_err-answer_step.ensures.1 in
    let run = c.steps.invariant.run in
    let left = g.S.Source.left c.args.source.now in
    let some = rw c.in-Some.is at c.in_ok-step.ensures.some in
    rw (p.1, p.2) (λ site entry opened. row_one site entry c.args.store.now (g.D.Disk.seen c.args.disk.now) (g.D.Disk.may_leave c.args.disk.now) opened c.steps.store run.0 (g.D.Disk.seen c.steps.disk) (g.D.Disk.may_leave c.steps.disk) run.2
    left (g.S.Source.left c.next_step.new.source) (g.K.Sink.written c.args.sink.now) (g.K.Sink.written c.steps.sink) run.3 c.in-Some.step c.next_step.new.self (some left run.0 run.1)
    c.answer_step.new.store (g.D.Disk.seen c.answer_step.new.disk) (g.K.Sink.written c.answer_step.new.sink) (g.D.Disk.may_leave c.answer_step.new.disk) c.in_err-answer_step.field-0.0 c.in_err-answer_step.ensures.stops)

pub returns-in_err-answer_step-clause-reads : goal.returns-in_err-answer_step-clause-reads
returns-in_err-answer_step-clause-reads g c =
    let run = c.steps.invariant.run in
    let left = g.S.Source.left c.args.source.now in
    let some = rw c.in-Some.is at c.in_ok-step.ensures.some in
    read_so_far left (g.S.Source.left c.next_step.new.source) c.next_step.new.self (run.0 ++ c.in-Some.step ∷ []) (some left run.0 run.1)

-- ---- the input ends

pub returns-clause-whole : goal.returns-clause-whole
returns-clause-whole g c site entry opened =
    let run = c.steps.invariant.run in
    let left = g.S.Source.left c.args.source.now in
    row_whole site entry c.args.store.now (g.D.Disk.seen c.args.disk.now) (g.D.Disk.may_leave c.args.disk.now) opened c.steps.store run.0 (g.D.Disk.seen c.steps.disk) (g.D.Disk.may_leave c.steps.disk) run.2
    left (g.S.Source.left c.next_step.new.source) (g.K.Sink.written c.args.sink.now) (g.K.Sink.written c.steps.sink) run.3 (c.in_ok-step.ensures.none (ap is_some c.in_default.is) left run.0 run.1)

pub returns-clause-reads : goal.returns-clause-reads
returns-clause-reads g c =
    let run = c.steps.invariant.run in
    let left = g.S.Source.left c.args.source.now in
    let end = c.in_ok-step.ensures.none (ap is_some c.in_default.is) left run.0 run.1 in
    end.reads
