-- When a store gives up, and what it then leaves.
use Rattle.std.specs.Prelude.{◌≡◌, ⊤, ℕ, List, [], ◌∷◌, Option, Some, None, IfSome, true}
use Rattle.element_name.specs.Cases.{when, first_of}
use Rattle.edit_io.specs.Causes.{Rose}
use Rattle.peer_disk.specs.declared.fault.LoadFault.{LoadFault}
use Rattle.peer_disk.specs.declared.fault.LoadFault.TheVariants as loads
use Rattle.peer_step.specs.declared.step.Step.{Step}
use Rattle.peer_core.specs.After.{peer_after}
use Rattle.peer_store.specs.declared.fault.StoreFault.{StoreFault}
use Rattle.peer_store.specs.declared.fault.StoreFault.TheVariants.{DiskFault, NotAStore, Spent, StoreFull, NoMemory}
use Rattle.peer_store.specs.Store.{Saved, IsNoStoreFrom, finds_no_gate}

-- a file of records that doesn't begin as one of the site is no store from its first byte on
abbrev pub fault_of_load : LoadFault → StoreFault
fault_of_load loads.DiskFault = DiskFault
fault_of_load loads.NoMemory = NoMemory
fault_of_load loads.NoHead = NotAStore 0

-- why no step is put, the first of these: a put failed for the disk, or there is no room
abbrev pub refusal_of : Saved → Step → Option StoreFault
refusal_of saved step = first_of (when saved.spent Spent ∷ when (finds_no_gate saved step) StoreFull ∷ [])

-- a store isn't made for want of memory, or where the disk failed
abbrev pub MayFailMaking : StoreFault → ℕ → ℕ → Type 0
MayFailMaking DiskFault before now = Rose before now
MayFailMaking (NotAStore offset) before now = ⊥
MayFailMaking Spent before now = ⊥
MayFailMaking StoreFull before now = ⊥
MayFailMaking NoMemory before now = ⊤

-- a file isn't opened for want of memory, where the disk failed, or where the file is no store of the site
abbrev pub MayFailOpening : StoreFault → ℕ → Option (List ℕ) → ℕ → ℕ → Type 0
MayFailOpening DiskFault site seen before now = Rose before now
MayFailOpening (NotAStore offset) site seen before now = IfSome seen (IsNoStoreFrom site offset)
MayFailOpening Spent site seen before now = ⊥
MayFailOpening StoreFull site seen before now = ⊥
MayFailOpening NoMemory site seen before now = ⊤

-- after a put that gave up so no refusal came first, and the step was made and the store is spent, or store and disk are as before
abbrev pub IsLeftBy : {D : Type 0} → StoreFault → Step → Saved → Saved → D → D → Type 0
IsLeftBy DiskFault step old new before now = (refusal_of old step ≡ None) × (new.peer ≡ peer_after old.peer step) × (new.spent ≡ true) × (new.safe ≡ old.safe)
IsLeftBy (NotAStore offset) step old new before now = ⊥
IsLeftBy Spent step old new before now = (refusal_of old step ≡ Some Spent) × (new ≡ old) × (now ≡ before)
IsLeftBy StoreFull step old new before now = (refusal_of old step ≡ Some StoreFull) × (new ≡ old) × (now ≡ before)
IsLeftBy NoMemory step old new before now = (refusal_of old step ≡ None) × (new ≡ old) × (now ≡ before)

-- a step isn't made in memory for want of it, or for the refusal that comes first
abbrev pub IsNotMadeFor : StoreFault → Option StoreFault → Type 0
IsNotMadeFor NoMemory refusal = refusal ≡ None
IsNotMadeFor fault refusal = refusal ≡ Some fault

-- after a save that gave up so, the store was spent and is as before, with its disk; or the disk failed and it is spent
abbrev pub IsUnsavedBy : {D : Type 0} → StoreFault → Saved → Saved → D → D → Type 0
IsUnsavedBy DiskFault old new before now = new ≡ record old { spent = true }
IsUnsavedBy Spent old new before now = (old.spent ≡ true) × (new ≡ old) × (now ≡ before)
IsUnsavedBy fault old new before now = ⊥
