-- What a peer is after the steps of bodies.
use Rattle.std.specs.Prelude.{◌≡◌, ⊤, ℕ, Bool, true, false, List, ◌∷◌, ◌++◌, Option, Some, None, fold}
use Rattle.peer_disk.specs.declared.walk.Loaded.{Loaded}
use Rattle.peer_disk.specs.Records.{gate_place}
use Rattle.peer_disk.specs.Loading.{Loads}
use Rattle.peer_step.specs.declared.step.Step.{Step}
use Rattle.peer_core.specs.Peer.{Peer}
use Rattle.peer_core.specs.After.{peer_after}
use Rattle.peer_store.specs.declared.fault.StoreFault.{StoreFault}
use Rattle.peer_store.specs.declared.fault.StoreFault.TheVariants.{DiskFault, NotAStore, Spent, StoreFull, NoMemory}
use Rattle.peer_store.specs.Steps.{changes}
use Rattle.peer_store.specs.Store.{IsBodyFor, KeptAs, IsNoStep, IsNoStoreFrom}

-- a peer makes the step of a body, which changes it
pub record MakesBody (old : Peer) (body : List ℕ) (new : Peer) : Type 0 where
  pub step : Step
  pub spells : IsBodyFor old step body
  pub turns : changes old step ≡ true
  pub after : new ≡ peer_after old step

-- a peer makes the step that was read, if one was, and it is told whether that changes the peer
abbrev pub IsMade : Peer → Option Step → Bool → Peer → Type 0
IsMade old (Some step) told new = (told ≡ changes old step) × (new ≡ peer_after old step)
IsMade old None told new = told ≡ false

-- it makes those of these bodies in order, each of which changes it
pub record IsReplay (old : Peer) (bodies : List (List ℕ)) (new : Peer) : Type 0 where
  pub steps : List Step
  pub spelled : KeptAs old steps bodies
  pub after : new ≡ fold peer_after old steps

-- it makes those before one that is of no step which changes it, and whose gate stands at this offset
pub record StopsBefore (old : Peer) (offset : ℕ) (bodies : List (List ℕ)) : Type 0 where
  pub made : List (List ℕ)
  pub body : List ℕ
  pub others : List (List ℕ)
  pub bodies_are : bodies ≡ made ++ body ∷ others
  pub steps : List Step
  pub spelled : KeptAs old steps made
  pub no_step : IsNoStep (fold peer_after old steps) body
  pub offset_is : offset ≡ gate_place made

-- a replay stops at such a body, or for want of memory
abbrev pub IsStoppedBy : StoreFault → Peer → List (List ℕ) → Type 0
IsStoppedBy DiskFault old bodies = ⊥
IsStoppedBy (NotAStore offset) old bodies = StopsBefore old offset bodies
IsStoppedBy Spent old bodies = ⊥
IsStoppedBy StoreFull old bodies = ⊥
IsStoppedBy NoMemory old bodies = ⊤

-- what was read of a file is refused: a file of which that was read is no store from the offset on; or memory is wanting
abbrev pub IsRefusedBy : StoreFault → ℕ → Loaded → Type 0
IsRefusedBy DiskFault site loaded = ⊥
IsRefusedBy (NotAStore offset) site loaded = (file : List ℕ) → Loads site loaded file → IsNoStoreFrom site offset file
IsRefusedBy Spent site loaded = ⊥
IsRefusedBy StoreFull site loaded = ⊥
IsRefusedBy NoMemory site loaded = ⊤
