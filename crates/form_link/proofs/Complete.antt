-- A run during which no count of faults rose.
use Rattle.std.proofs.Common.{◌≡◌, ◌≢◌, ℕ, ◌+◌, zero, suc, Bool, true, false, List, Option, ◌⊎◌, inl, inr, refl, sym, ap, ◌∙◌, subst, arith}
use Rattle.std.specs.Prelude.{sum_by, if◌then◌else◌}
use Rattle.edit_io.specs.Causes.{Rose}
use Rattle.line_engine.specs.declared.status.Status.{Status}
use Rattle.line_engine.specs.declared.status.Status.TheVariants as status
use Rattle.line_engine.specs.Status.{IsSinkFail}
use Rattle.line_input.specs.declared.reading.InputEnd.{InputEnd}
use Rattle.line_input.specs.declared.reading.InputEnd.TheVariants as input_end
use Rattle.line_input.specs.Steps.{EndCause}
use Rattle.link_run.specs.Counts.{failures_in}
use Rattle.form_link.specs.Faults.{faults_of}
use Rattle.form_link.specs.Report.{link_output, SinkCause}
use Rattle.form_link.specs.Form.{DoorState, RunEnds, ToldRun, RanOrNot}
use Rattle.form_link.specs.Laws.{NoCountRose, ToldWhole, IsCompleteRun}

-- a count that didn't rise had nothing added
nothing_added : (before now more : ℕ) → now ≡ before + more → ¬ Rose before now → more ≡ 0
nothing_added before now zero is stood = refl
nothing_added before now (suc more) is stood = let rose : Rose before now = omega arith in absurd (stood rose)

-- how often a door has failed that did or didn't
abbrev times_failed : Bool → ℕ
times_failed failed = if failed then 1 else 0

-- never, where its count didn't rise
door_stood : (failed : Bool) → times_failed failed ≡ 0 → failed ≡ false
door_stood true e = absurd (omega (arith, e))
door_stood false e = refl

module _ {L : Type 0} (Ends : RunEnds) (d d' : DoorState L) (site : ℕ) (end : InputEnd) (source_before source_now sink_before sink_now : ℕ) (a b : Option (List ℕ)) (s : Status)
    (read : EndCause source_before source_now end) (wrote : SinkCause sink_before sink_now s) (stood : NoCountRose source_before source_now sink_before sink_now d d') where
  -- the source was read
  was_read : end ≢ input_end.ReadFault
  was_read e = stood.source (omega (arith, read.rose e))

  -- the sink took all
  took_all : s ≢ status.WriteFault
  took_all e = stood.sink (omega (arith, wrote.rose e))

  told_whole : ToldRun Ends site end d d' a b s → (s ≡ status.NoMemory) ⊎ ToldWhole Ends site end a b s
  told_whole told = by told.says.given
    where
      door : told.door_failed ≡ false
      door = door_stood told.door_failed (nothing_added d.faults d'.faults (times_failed told.door_failed) told.door.faults_are stood.door)

      by : (link_output site told.run (faults_of told.door_failed end told.own told.outcomes) ≡ record { written = told.written; status = s }) ⊎ IsSinkFail s
          → (s ≡ status.NoMemory) ⊎ ToldWhole Ends site end a b s
      by (inl whole) = inr (record {
        own = told.own;
        outcomes = told.outcomes;
        run = told.run;
        written = told.written;
        ends = subst (λ (failed : Bool). Ends told.own failed told.outcomes told.run) door told.ends;
        read = was_read;
        unhurt = nothing_added d.hurt d'.hurt (sum_by failures_in told.outcomes) told.door.hurt_are stood.links;
        appends = told.says.appends;
        whole = ap (λ (failed : Bool). link_output site told.run (faults_of failed end told.own told.outcomes)) (sym door) ∙ whole;
      })
      by (inr (inl fault)) = absurd (took_all fault)
      by (inr (inr wanting)) = inl wanting

  complete : RanOrNot Ends site end d d' a b s → (s ≡ status.NoMemory) ⊎ ToldWhole Ends site end a b s
  complete (inl told) = told_whole told
  complete (inr none) = inl none.status_is

pub complete_run : {L : Type 0} (Ends : RunEnds) (d d' : DoorState L) → IsCompleteRun Ends d d'
complete_run Ends d d' site end source_before source_now sink_before sink_now a b s ran read wrote stood =
    complete Ends d d' site end source_before source_now sink_before sink_now a b s read wrote stood ran
