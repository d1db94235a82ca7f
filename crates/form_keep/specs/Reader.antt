-- How the steps of a source's lines are read one by one.
use Rattle.std.specs.Prelude.{◌≡◌, ◌⊎◌, ⊤, ℕ, ◌+◌, ◌-◌, ◌<◌, ◌≤◌, Bool, true, false, List, [], ◌∷◌, ◌++◌, length, take, drop, slice_index, Option}
use Rattle.std.specs.Io.KnownBytes.{Consumes, IsAtEnd, Keeps}
use Rattle.line_spelling.specs.declared.signs.TheConstants.{LINE_END}
use Rattle.line_engine.specs.declared.limits.TheConstants.{MAX_INPUT}
use Rattle.line_spelling.specs.declared.line.TheConstants.{MAX_LINE}
use Rattle.line_engine.specs.Input.{lines_of}
use Rattle.line_engine.specs.Rest.{NoLf}
use Rattle.line_engine.specs.Engine.{Reads}
use Rattle.peer_step.specs.declared.step.Step.{Step}
use Rattle.line_input.specs.declared.reading.InputEnd.{InputEnd}
use Rattle.line_input.specs.declared.reading.InputEnd.TheVariants as ends
use Rattle.line_input.specs.Steps.{good_steps, first_bad, steps_of, ReadSteps}
use Rattle.form_keep.specs.declared.stopped.Stopped.{Stopped}
use Rattle.form_keep.specs.declared.stopped.Stopped.TheVariants.{BadLine, TooLong, ReadFault, WriteFault, NoMemory, DiskFault, BadStore, StoreFull}
use Rattle.form_keep.specs.declared.reader.StepReader.{StepReader}

-- the bytes that were read and are of no line that was passed
abbrev pub unread : StepReader → List ℕ
unread r = drop r.at r.held.items

-- how many bytes may still be passed
abbrev pub to_pass : StepReader → ℕ
to_pass r = (MAX_INPUT - r.count) + length (unread r)

-- the first line of these bytes ends at this length: by a line end, at the end of their source, or as it is too long
abbrev pub EndsAt : List ℕ → Bool → ℕ → Type 0
EndsAt bytes ended len = ((len < length bytes) × (slice_index bytes len ≡ LINE_END)) ⊎ ((len ≡ length bytes) × ((ended ≡ true) ⊎ (MAX_LINE < len)))

-- the next line has this length
pub record IsLine (r : StepReader) (len : ℕ) : Type 0 where
  pub within : len ≤ length (unread r)
  pub no_lf : NoLf (take len (unread r))
  pub stop : EndsAt (unread r) r.ended len

-- so many bytes of a source were read, and then one more came than counts, or it failed, or there was no memory for what came
abbrev pub RefillStops : Stopped → ℕ → Option (List ℕ) → Option (List ℕ) → Type 0
RefillStops TooLong count old new = (count ≡ MAX_INPUT) × ((chunk : List ℕ) × Consumes old new chunk × (length chunk ≡ 1))
RefillStops ReadFault count old new = Keeps old new
RefillStops NoMemory count old new = (chunk : List ℕ) × Consumes old new chunk × (count + length chunk ≤ MAX_INPUT + 1)
RefillStops (BadLine number) count old new = ⊥
RefillStops WriteFault count old new = ⊥
RefillStops DiskFault count old new = ⊥
RefillStops (BadStore offset) count old new = ⊥
RefillStops StoreFull count old new = ⊥

-- these bytes may follow in an input that is cut behind them or not: behind the end of a source none do
abbrev pub MayFollow : Bool → Bool → List ℕ → Type 0
MayFollow false cut more = ⊤
MayFollow true cut more = (cut ≡ false) × (more ≡ [])

-- a source was read, and these are the steps of the lines that were passed
pub record StepsRead (left_old left_now : Option (List ℕ)) (r : StepReader) (steps : List Step) : Type 0 where
  pub read : List ℕ
  pub consumed : Consumes left_old left_now read
  pub size : length read ≡ r.count
  pub at_end : r.ended ≡ true → IsAtEnd left_now
  -- whatever follows, the steps go on with those of the lines that aren't passed, of which the first has this number
  pub lists : (cut : Bool) (more : List ℕ) → MayFollow r.ended cut more → good_steps (lines_of cut (read ++ more)) ≡ steps ++ good_steps (lines_of cut (unread r ++ more))
  pub numbers : (cut : Bool) (more : List ℕ) → MayFollow r.ended cut more → first_bad 1 (lines_of cut (read ++ more)) ≡ first_bad r.number (lines_of cut (unread r ++ more))

-- a source was read for its step lines, whose first ones say these steps, and no more than one byte beyond what counts
pub record StepsEnd (left_old left_now : Option (List ℕ)) (steps : List Step) (end : InputEnd) : Type 0 where
  pub input : List ℕ
  pub ends : ReadSteps left_old left_now input steps end
  pub others : List Step
  pub first : steps_of input ≡ steps ++ others
  pub reads : Reads left_old left_now

-- whatever was read of a source so far, its steps stay the same over a call
abbrev pub StaysRead : Option (List ℕ) → Option (List ℕ) → StepReader → StepReader → Type 0
StaysRead old now r r' = (left : Option (List ℕ)) (steps : List Step) → StepsRead left old r steps → StepsRead left now r' steps

-- or it has this one step more
abbrev pub ReadsStep : Option (List ℕ) → Option (List ℕ) → StepReader → StepReader → Step → Type 0
ReadsStep old now r r' step = (left : Option (List ℕ)) (steps : List Step) → StepsRead left old r steps → StepsRead left now r' (steps ++ step ∷ [])

-- or its steps are all, and reading has ended so
abbrev pub EndsSteps : Option (List ℕ) → Option (List ℕ) → StepReader → InputEnd → Type 0
EndsSteps old now r end = (left : Option (List ℕ)) (steps : List Step) → StepsRead left old r steps → StepsEnd left now steps end

-- reading step lines stopped so
abbrev pub StepsStop : Option (List ℕ) → Option (List ℕ) → List Step → Stopped → Type 0
StepsStop old now steps (BadLine number) = StepsEnd old now steps (ends.BadLine number)
StepsStop old now steps TooLong = StepsEnd old now steps ends.TooLong
StepsStop old now steps ReadFault = StepsEnd old now steps ends.ReadFault
StepsStop old now steps NoMemory = StepsEnd old now steps ends.NoMemory
StepsStop old now steps WriteFault = ⊥
StepsStop old now steps DiskFault = ⊥
StepsStop old now steps (BadStore offset) = ⊥
StepsStop old now steps StoreFull = ⊥

-- whatever was read of a source so far, reading has stopped behind it
abbrev pub StopsSteps : Option (List ℕ) → Option (List ℕ) → StepReader → Stopped → Type 0
StopsSteps old now r stopped = (left : Option (List ℕ)) (steps : List Step) → StepsRead left old r steps → StepsStop left now steps stopped
