-- What the calls of a run do to the store, and when they stop.
use Rattle.std.specs.Prelude.{◌≡◌, ◌⊎◌, ⊤, ℕ, true, false, List, [], ◌∷◌, ◌++◌, fold, Option, IfSome, IsSome}
use Rattle.std.specs.Io.KnownBytes.{Appends}
use Rattle.line_engine.specs.Output.{Begins}
use Rattle.peer_step.specs.declared.step.Step.{Step}
use Rattle.peer_core.specs.After.{peer_after}
use Rattle.peer_store.specs.Steps.{if_changing}
use Rattle.peer_store.specs.Store.{StandsFor, StandsWithOrWithout, IsNoStoreFrom, Saved, IsSaved, finds_no_gate}
use Rattle.form_keep.specs.declared.stopped.Stopped.{Stopped}
use Rattle.form_keep.specs.declared.stopped.Stopped.TheVariants.{BadLine, TooLong, ReadFault, WriteFault, NoMemory, DiskFault, BadStore, StoreFull}
use Rattle.form_keep.specs.Replies.{replies_from, changing_from, HadRoom}

-- what a read of a disk gives has P, and what a crash may leave
pub record DiskHas (P : List ℕ → Type 0) (seen : Option (List ℕ)) (may_leave : List ℕ → Type 0) : Type 0 where
  pub seen_has : IfSome seen P
  pub crash_has : (left : List ℕ) → may_leave left → P left

-- ---- the store at entry

-- the steps that a file stands for at entry: none where it is empty
abbrev pub AtEntry : ℕ → List Step → List ℕ → Type 0
AtEntry site kept [] = kept ≡ []
AtEntry site kept (byte ∷ bytes) = StandsFor site kept (byte ∷ bytes)

-- the store was opened on a disk that told this file at entry, and now stands for its steps; it isn't spent
pub record OpenedStore (site : ℕ) (entry : Option (List ℕ)) (store : Saved) (seen : Option (List ℕ)) (may_leave : List ℕ → Type 0) : Type 0 where
  pub kept : List Step
  pub begins : IfSome entry (AtEntry site kept)
  pub saved : IsSome entry → IsSaved site kept store seen may_leave
  pub unspent : store.spent ≡ false

-- a file that isn't empty is no store of the site from an offset on
abbrev pub IsNoStoreAt : ℕ → ℕ → List ℕ → Type 0
IsNoStoreAt site offset file = (file ≡ [] → ⊥) × IsNoStoreFrom site offset file

-- a store isn't opened for want of memory, where the disk failed, or where its bytes are no store
abbrev pub OpenStops : Stopped → ℕ → Option (List ℕ) → Type 0
OpenStops DiskFault site entry = ⊤
OpenStops NoMemory site entry = ⊤
OpenStops (BadStore offset) site entry = IfSome entry (IsNoStoreAt site offset)
OpenStops (BadLine number) site entry = ⊥
OpenStops TooLong site entry = ⊥
OpenStops ReadFault site entry = ⊥
OpenStops WriteFault site entry = ⊥
OpenStops StoreFull site entry = ⊥

-- ---- steps that are made

-- the peer made these steps, there was room for each, and those that change it are kept behind the ones before them
pub record AreKept (old new : Saved) (made : List Step) (seen_old seen_new : Option (List ℕ)) (may_old may_new : List ℕ → Type 0) : Type 0 where
  pub after : new.peer ≡ fold peer_after old.peer made
  pub unspent : new.spent ≡ false
  pub room : (site : ℕ) (kept : List Step) → IsSaved site kept old seen_old may_old → HadRoom site kept old.peer made
  pub keeps : (site : ℕ) (kept : List Step) → IsSaved site kept old seen_old may_old → IsSaved site (kept ++ changing_from old.peer made) new seen_new may_new

-- a step was not made, or it was, and is kept, and a part of its answer's line was written
pub record IsCutShort (old new : Saved) (step : Step) (sink_old sink_new seen_old seen_new : Option (List ℕ)) (may_old may_new : List ℕ → Type 0) : Type 0 where
  pub made : List Step
  pub at_most : (made ≡ []) ⊎ (made ≡ step ∷ [])
  pub kept : AreKept old new made seen_old seen_new may_old may_new
  pub part : (part : List ℕ) × Begins part (replies_from old.peer made) × Appends sink_old sink_new part

-- why a step isn't answered, and what is left then
abbrev pub AnswerStops : Stopped → Saved → Saved → Step → Option (List ℕ) → Option (List ℕ) → Option (List ℕ) → Option (List ℕ) → (List ℕ → Type 0) → (List ℕ → Type 0) → Type 0
AnswerStops DiskFault old new step sink_old sink_new seen_old seen_new may_old may_new =
    (sink_new ≡ sink_old)
    × ((site : ℕ) (kept : List Step) → IsSaved site kept old seen_old may_old → DiskHas (StandsWithOrWithout site kept (if_changing old.peer step)) seen_new may_new)
AnswerStops StoreFull old new step sink_old sink_new seen_old seen_new may_old may_new =
    (sink_new ≡ sink_old) × (finds_no_gate old step ≡ true) × AreKept old new [] seen_old seen_new may_old may_new
AnswerStops WriteFault old new step sink_old sink_new seen_old seen_new may_old may_new = IsCutShort old new step sink_old sink_new seen_old seen_new may_old may_new
AnswerStops NoMemory old new step sink_old sink_new seen_old seen_new may_old may_new = IsCutShort old new step sink_old sink_new seen_old seen_new may_old may_new
AnswerStops (BadLine number) old new step sink_old sink_new seen_old seen_new may_old may_new = ⊥
AnswerStops TooLong old new step sink_old sink_new seen_old seen_new may_old may_new = ⊥
AnswerStops ReadFault old new step sink_old sink_new seen_old seen_new may_old may_new = ⊥
AnswerStops (BadStore offset) old new step sink_old sink_new seen_old seen_new may_old may_new = ⊥
