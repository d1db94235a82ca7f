-- What becomes of lines that are offered to a sink.
use Rattle.std.specs.Prelude.{◌≡◌, ℕ, List, ◌++◌, Option, Result, Ok, Err}
use Rattle.std.specs.Io.KnownBytes.{Appends}
use Rattle.line_engine.specs.declared.status.Status.{Status}
use Rattle.line_engine.specs.declared.status.Status.TheVariants.{WriteFault}
use Rattle.line_engine.specs.Status.{IsSinkFail}
use Rattle.line_engine.specs.Output.{Begins}
use Rattle.line_engine.specs.Engine.{StatusCause}

-- all of them were written, or those that begin them before the sink failed or memory was wanting
abbrev pub Tells : {T : Type 0} → Option (List ℕ) → Option (List ℕ) → List ℕ → Result T Status → Type 0
Tells sink_old sink_new lines (Ok x) = Appends sink_old sink_new lines
Tells sink_old sink_new lines (Err status) = (written : List ℕ) × Appends sink_old sink_new written × Begins written lines × IsSinkFail status

-- lines were gathered: some that begin them were written and the others are left, or the sink failed or memory was wanting
abbrev pub Gathers : {T : Type 0} → Option (List ℕ) → Option (List ℕ) → List ℕ → List ℕ → Result T Status → Type 0
Gathers sink_old sink_new lines left (Ok x) = (written : List ℕ) × Appends sink_old sink_new written × (lines ≡ written ++ left)
Gathers sink_old sink_new lines left (Err status) = (written : List ℕ) × Appends sink_old sink_new written × Begins written lines × IsSinkFail status

-- the sink's count of faults stays where all were written, and else tells the cause
abbrev pub TellsCause : {T : Type 0} → ℕ → ℕ → Result T Status → Type 0
TellsCause before now (Ok x) = now ≡ before
TellsCause before now (Err status) = StatusCause before now status WriteFault
