-- What a run that keeps a peer writes, and what it leaves on the disk.
use Rattle.std.specs.Prelude.{◌≡◌, ◌⊎◌, ℕ, ◌≤◌, List, [], ◌∷◌, ◌++◌, length, fold, Option, None, IfSome, IsSome, codes, decimal, true}
use Rattle.std.specs.Io.KnownBytes.{Appends, Consumes, IsAtEnd}
use Rattle.edit_io.specs.Causes.{Rose}
use Rattle.line_engine.specs.declared.limits.TheConstants.{MAX_INPUT}
use Rattle.line_engine.specs.declared.status.Status.{Status}
use Rattle.line_engine.specs.declared.status.Status.TheVariants as status
use Rattle.line_engine.specs.Status.{IsSinkFail}
use Rattle.line_engine.specs.Output.{Output, Begins, bad_line, bad_line_text, too_long, too_long_text}
use Rattle.line_spelling.specs.Line.{line_of}
use Rattle.line_engine.specs.Engine.{Told}
use Rattle.peer_step.specs.declared.step.Step.{Step}
use Rattle.peer_core.specs.Peer.{Peer}
use Rattle.peer_core.specs.After.{peer_after}
use Rattle.peer_store.specs.Steps.{replay_of, if_changing}
use Rattle.peer_store.specs.Store.{StandsFor, StandsWithOrWithout}
use Rattle.report_text.specs.Closing.{closing_lines}
use Rattle.line_input.specs.declared.reading.InputEnd.TheVariants as ends
use Rattle.line_input.specs.Steps.{steps_of, end_of, good_steps, first_bad, whole_lines}
use Rattle.form_keep.specs.declared.stopped.Stopped.{Stopped}
use Rattle.form_keep.specs.declared.stopped.Stopped.TheVariants.{BadLine, TooLong, ReadFault, WriteFault, NoMemory, DiskFault, BadStore, StoreFull}
use Rattle.form_keep.specs.Replies.{replies_from, changing_from, finds_full_store, HadRoom}
use Rattle.form_keep.specs.Keeping.{DiskHas, AtEntry, IsNoStoreAt}

-- ---- the last lines

abbrev pub disk_fault_text : List ℕ
disk_fault_text = line_of (codes "disk fault")

abbrev pub bad_store_text : ℕ → List ℕ
bad_store_text offset = line_of (codes "bad store " ++ decimal offset)

abbrev pub store_full_text : List ℕ
store_full_text = line_of (codes "store full")

-- what is written where a run stops, and the status
abbrev pub stop_output : Stopped → Output
stop_output (BadLine number) = bad_line number
stop_output TooLong = too_long
stop_output ReadFault = record { written = []; status = status.ReadFault }
stop_output WriteFault = record { written = []; status = status.WriteFault }
stop_output NoMemory = record { written = []; status = status.NoMemory }
stop_output DiskFault = record { written = disk_fault_text; status = status.DiskFault }
stop_output (BadStore offset) = record { written = bad_store_text offset; status = status.BadStore }
stop_output StoreFull = record { written = store_full_text; status = status.StoreFull }

-- what is written at the end of an input, whose closing lines are these, and the status
abbrev pub closing_output : List ℕ → Output
closing_output closing = record { written = closing; status = status.Done }

-- ---- how far a run comes

-- the steps of an input's first lines were made, from the peer of the store at entry on
pub record HasMade (site : ℕ) (entry : Option (List ℕ)) (input : List ℕ) : Type 0 where
  -- the list at entry, and its replay
  pub kept : List Step
  pub start : Peer
  pub begins : IfSome entry (λ file. AtEntry site kept file × (start ≡ replay_of site kept))
  -- the steps that were made, and those that weren't
  pub made : List Step
  pub others : List Step
  pub steps_are : steps_of input ≡ made ++ others
  -- each had room in the store
  pub room : IsSome entry → HadRoom site kept start made

module _ {site : ℕ} {entry : Option (List ℕ)} {input : List ℕ} (run : HasMade site entry input) where
  -- the peer after them
  abbrev pub peer_of : Peer
  peer_of = fold peer_after run.start run.made

  -- the list at entry, and those of them that changed the peer
  abbrev pub kept_of : List Step
  kept_of = run.kept ++ changing_from run.start run.made

  -- their answers' lines
  abbrev pub replies_of : List ℕ
  replies_of = replies_from run.start run.made

  -- where the disk tells its bytes, it is a store of that list
  abbrev pub IsStored : Option (List ℕ) → (List ℕ → Type 0) → Type 0
  IsStored seen may_leave = IsSome entry → DiskHas (StandsFor site kept_of) seen may_leave

  -- or of that list with the next step, if it changes the peer
  abbrev pub IsStoredOrNext : Option (List ℕ) → (List ℕ → Type 0) → Type 0
  IsStoredOrNext seen may_leave = (step : Step) × (later : List Step) × (run.others ≡ step ∷ later)
      × (IsSome entry → DiskHas (StandsWithOrWithout site kept_of (if_changing peer_of step)) seen may_leave)

  -- the next step finds no room
  abbrev pub MeetsFullStore : Type 0
  MeetsFullStore = (step : Step) × (later : List Step) × (run.others ≡ step ∷ later) × (IsSome entry → finds_full_store site kept_of step ≡ true)

-- what a run does up to the lines that give its status: what it has answered, and what the disk is then
abbrev pub ComesTo : Status → List ℕ → ℕ → Option (List ℕ) → List ℕ → List ℕ → Option (List ℕ) → Option (List ℕ) → Option (List ℕ) → (List ℕ → Type 0) → Type 0
-- all lines were answered, and the closing lines are due
ComesTo status.Done last site entry input answered left_old left_new seen may_leave = (run : HasMade site entry input)
    × (end_of input ≡ ends.Whole) × (run.others ≡ []) × IsAtEnd left_new
    × (answered ≡ replies_of run) × (last ≡ closing_lines (peer_of run)) × IsStored run seen may_leave
-- those before the first bad line were answered
ComesTo status.BadInput last site entry input answered left_old left_new seen may_leave = (run : HasMade site entry input)
    × ((number : ℕ) × (end_of input ≡ ends.BadLine number) × (last ≡ bad_line_text number)) × (run.others ≡ [])
    × (answered ≡ replies_of run) × IsStored run seen may_leave
-- those within the limit were answered
ComesTo status.TooLong last site entry input answered left_old left_new seen may_leave = (run : HasMade site entry input)
    × (end_of input ≡ ends.TooLong) × (last ≡ too_long_text) × (run.others ≡ [])
    × (answered ≡ replies_of run) × IsStored run seen may_leave
-- the whole lines among the bytes that were read were answered, and none of these is bad
ComesTo status.ReadFault last site entry input answered left_old left_new seen may_leave = (run : HasMade site entry input)
    × ((read : List ℕ) × Consumes left_old left_new read × (length read ≤ MAX_INPUT) × (first_bad 1 (whole_lines read) ≡ None) × (run.made ≡ good_steps (whole_lines read)))
    × (last ≡ []) × (answered ≡ replies_of run) × IsStored run seen may_leave
-- the first lines were answered, and the next step finds no room
ComesTo status.StoreFull last site entry input answered left_old left_new seen may_leave = (run : HasMade site entry input)
    × MeetsFullStore run × (last ≡ store_full_text) × (answered ≡ replies_of run) × IsStored run seen may_leave
-- the first lines were answered, and the next step is on the disk or not; or the store wasn't opened
ComesTo status.DiskFault last site entry input answered left_old left_new seen may_leave = (last ≡ disk_fault_text)
    × ((answered ≡ []) ⊎ ((run : HasMade site entry input) × (answered ≡ replies_of run) × IsStoredOrNext run seen may_leave))
-- the file is no store of the site from an offset on
ComesTo status.BadStore last site entry input answered left_old left_new seen may_leave = (answered ≡ [])
    × ((offset : ℕ) × (last ≡ bad_store_text offset) × IfSome entry (IsNoStoreAt site offset))
-- what was written begins the answers to the first lines, among which is each whose answer was written whole
ComesTo status.WriteFault last site entry input answered left_old left_new seen may_leave = (last ≡ [])
    × ((answered ≡ []) ⊎ ((run : HasMade site entry input) × Begins answered (replies_of run) × IsStored run seen may_leave))
ComesTo status.NoMemory last site entry input answered left_old left_new seen may_leave = (last ≡ [])
    × ((answered ≡ []) ⊎ ((run : HasMade site entry input) × Begins answered (replies_of run) × IsStored run seen may_leave))
ComesTo status.Usage last site entry input answered left_old left_new seen may_leave = ⊥
ComesTo status.LinkFault last site entry input answered left_old left_new seen may_leave = ⊥
ComesTo status.NotShown last site entry input answered left_old left_new seen may_leave = ⊥

-- a run of a source came so far, and its last lines are due
pub record ComesFor (out : Output) (site : ℕ) (entry left_old left_new sink_old sink_new seen : Option (List ℕ)) (may_leave : List ℕ → Type 0) : Type 0 where
  pub input : List ℕ
  pub told : Told left_old input
  pub answered : List ℕ
  pub appends : Appends sink_old sink_new answered
  pub comes : ComesTo out.status out.written site entry input answered left_old left_new seen may_leave

-- A run over a source that had this input, a sink, and a disk that told these bytes at entry.
-- Of a source that doesn't tell its bytes there is some input of which this holds.
pub record RanKeep (site : ℕ) (entry left_old left_new sink_old sink_new seen : Option (List ℕ)) (may_leave : List ℕ → Type 0) (result : Status) (input : List ℕ) : Type 0 where
  pub told : Told left_old input
  pub answered : List ℕ
  pub last : List ℕ
  pub appends : Appends sink_old sink_new (answered ++ last)
  -- it came so far, and these lines and this status were due
  pub due : Output
  pub comes : ComesTo due.status due.written site entry input answered left_old left_new seen may_leave
  -- they were written and given, or the sink failed in them
  pub given : (due ≡ record { written = last; status = result }) ⊎ (IsSinkFail result × Begins last due.written)

-- a disk's count never falls, and a disk fault comes only where it rose
pub record DiskCause (before now : ℕ) (result : Status) : Type 0 where
  pub later : before ≤ now
  pub rose : result ≡ status.DiskFault → Rose before now
