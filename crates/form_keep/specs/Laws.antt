-- What the clauses of a run say together.
use Rattle.std.specs.Prelude.{◌≡◌, ◌⊎◌, ℕ, List, Option, Some}
use Rattle.edit_io.specs.Causes.{Rose}
use Rattle.line_engine.specs.declared.status.Status.{Status}
use Rattle.line_engine.specs.declared.status.Status.TheVariants.{Done, ReadFault, WriteFault, NoMemory}
use Rattle.line_engine.specs.Engine.{StatusCause}
use Rattle.peer_step.specs.declared.step.Step.{Step}
use Rattle.peer_store.specs.Steps.{replay_of}
use Rattle.line_input.specs.declared.reading.InputEnd.TheVariants.{Whole}
use Rattle.line_input.specs.Steps.{steps_of, end_of}
use Rattle.form_keep.specs.Replies.{HadRoom}
use Rattle.form_keep.specs.Keeping.{AtEntry}
use Rattle.form_keep.specs.Run.{RanKeep, DiskCause}

-- No count rose, the disk was empty or a store of the site, all lines are good and within the limit, and each step has room:
-- then all is written and kept, or memory was wanting. It is said by what a crash may leave then.
abbrev pub KeepCompleteness : (List ℕ → Type 0) → Type 0
KeepCompleteness may_leave = (site : ℕ) (file input : List ℕ) (left_old left_new sink_old sink_new seen : Option (List ℕ)) (status : Status)
    (source_before source_now sink_before sink_now disk_before disk_now : ℕ) (kept : List Step)
    → RanKeep site (Some file) left_old left_new sink_old sink_new seen may_leave status input
    → StatusCause source_before source_now status ReadFault → StatusCause sink_before sink_now status WriteFault → DiskCause disk_before disk_now status
    → ¬ Rose source_before source_now → ¬ Rose sink_before sink_now → ¬ Rose disk_before disk_now
    → AtEntry site kept file → end_of input ≡ Whole → HadRoom site kept (replay_of site kept) (steps_of input)
    → (status ≡ Done) ⊎ (status ≡ NoMemory)
