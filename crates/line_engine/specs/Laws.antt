-- What the clauses of a run say together.
use Rattle.std.specs.Prelude.{◌≡◌, ℕ, List, ◌⊎◌}
use Rattle.edit_io.specs.Causes.{Rose}
use Rattle.line_engine.specs.declared.status.Status.{Status}
use Rattle.line_engine.specs.declared.status.Status.TheVariants.{ReadFault, WriteFault, NoMemory}
use Rattle.line_engine.specs.Output.{Output, Begins, Ends}
use Rattle.line_engine.specs.Engine.{StatusCause}

-- the output was written whole and its status given, or memory was wanting in it
abbrev pub IsComplete : Status → List ℕ → Output → Type 0
IsComplete status written out = (out ≡ record { written = written; status = status }) ⊎ ((status ≡ NoMemory) × Begins written out.written)

-- where neither the source's count of faults rose nor the sink's, a run is complete
abbrev pub Completeness : Type 0
Completeness = (status : Status) (written : List ℕ) (out : Output) (source_before source_now sink_before sink_now : ℕ)
    → Ends status written out → StatusCause source_before source_now status ReadFault → StatusCause sink_before sink_now status WriteFault
    → ¬ Rose source_before source_now → ¬ Rose sink_before sink_now → IsComplete status written out
