-- What a store is, which steps it stands for, and what a peer that is kept in it is.
use Rattle.std.specs.Prelude.{◌≡◌, ◌⊎◌, ⊤, ℕ, ◌+◌, ◌<◌, ◌^◌, fold, take, Bool, true, false, not, ◌&&◌, List, [], ◌∷◌, ◌++◌, length, All, Option, IfSome, nat_lt}
use Rattle.edit_message.specs.declared.message.Message.{Message}
use Rattle.peer_step.specs.declared.step.Step.{Step}
use Rattle.peer_core.specs.Peer.{Peer, fresh_peer, front}
use Rattle.peer_core.specs.After.{peer_after}
use Rattle.peer_disk.specs.Records.{file_head, HasHead, record_of, records, gate_place, FitsRecord, HasBodies, IsNoRecord, Keeps}
use Rattle.peer_store.specs.Body.{IsBody}
use Rattle.peer_store.specs.declared.limits.TheConstants.{MAX_GATE}
use Rattle.peer_store.specs.Steps.{replay_of, changes, is_look}

-- a body spells a step at a peer: at the version that an operation would make there
abbrev pub IsBodyFor : Peer → Step → List ℕ → Type 0
IsBodyFor p step body = IsBody (front p + 1) step body

-- steps from a peer on, each of which changes the peer, and their bodies
abbrev pub KeptAs : Peer → List Step → List (List ℕ) → Type 0
KeptAs p [] [] = ⊤
KeptAs p [] (body ∷ bodies) = ⊥
KeptAs p (step ∷ steps) [] = ⊥
KeptAs p (step ∷ steps) (body ∷ bodies) = IsBodyFor p step body × (changes p step ≡ true) × KeptAs (peer_after p step) steps bodies

-- a file is a store of this site that stands for these steps
pub record StandsFor (site : ℕ) (steps : List Step) (file : List ℕ) : Type 0 where
  pub bodies : List (List ℕ)
  pub spelled : KeptAs (fresh_peer site) steps bodies
  pub has : HasBodies site bodies file

-- a file stands for these steps, with more of them or without
abbrev pub StandsWithOrWithout : ℕ → List Step → List Step → List ℕ → Type 0
StandsWithOrWithout site steps more file = StandsFor site steps file ⊎ StandsFor site (steps ++ more) file

-- a file stands for no steps, if it is a store of this site at all
abbrev pub StandsForNoneIfAny : ℕ → List ℕ → Type 0
StandsForNoneIfAny site file = (steps : List Step) → StandsFor site steps file → steps ≡ []

-- ---- a file that is no store

-- no step that changes the peer has this body
abbrev pub IsNoStep : Peer → List ℕ → Type 0
IsNoStep p body = (step : Step) → IsBodyFor p step body → changes p step ≡ false

-- bytes begin with a whole record, of no step that changes the peer
pub record BeginsWithNoStep (p : Peer) (bytes : List ℕ) : Type 0 where
  pub body : List ℕ
  pub rest : List ℕ
  pub bytes_are : bytes ≡ record_of body ++ rest
  pub short : FitsRecord body
  pub no_step : IsNoStep p body

-- behind the records of steps, no gate stands at this offset, or an open one whose record isn't whole or is of no step
pub record BreaksOffAt (site offset : ℕ) (file : List ℕ) : Type 0 where
  pub steps : List Step
  pub bodies : List (List ℕ)
  pub rest : List ℕ
  pub bytes : file ≡ file_head site ++ records bodies ++ rest
  pub short : All FitsRecord bodies
  pub spelled : KeptAs (fresh_peer site) steps bodies
  pub offset_is : offset ≡ gate_place bodies
  pub stops : IsNoRecord rest ⊎ BeginsWithNoStep (replay_of site steps) rest

-- a file is no store of this site from this offset on: 0 where it begins otherwise
abbrev pub IsNoStoreFrom : ℕ → ℕ → List ℕ → Type 0
IsNoStoreFrom site offset file = ((offset ≡ 0) × ¬ HasHead site file) ⊎ BreaksOffAt site offset file

-- ---- a peer that is kept

-- the peer, the place of its file's last gate once all steps are saved, whether the disk failed while steps were saved, the bodies
-- of those that aren't saved, and how many messages of its journal are
pub record Saved : Type 0 where
  pub peer : Peer
  pub place : ℕ
  pub spent : Bool
  pub unsaved : List (List ℕ)
  pub safe : ℕ

-- a disk tells a store, all of it on the disk, that stands for these steps; the peer is their replay, nothing is unsaved, and the
-- place is that of the last gate
pub record IsSaved (site : ℕ) (steps : List Step) (saved : Saved) (seen : Option (List ℕ)) (may_leave : List ℕ → Type 0) : Type 0 where
  pub bodies : List (List ℕ)
  pub spelled : KeptAs (fresh_peer site) steps bodies
  pub keeps : Keeps site bodies saved.place seen may_leave
  pub peer_is : saved.peer ≡ replay_of site steps
  pub none : saved.unsaved ≡ []
  pub safe_is : saved.safe ≡ length saved.peer.journal

-- a disk tells a store, all of it on the disk, that stands for these steps
pub record IsOnDisk (site : ℕ) (steps : List Step) (seen : Option (List ℕ)) (may_leave : List ℕ → Type 0) : Type 0 where
  pub bodies : List (List ℕ)
  pub spelled : KeptAs (fresh_peer site) steps bodies
  pub keeps : Keeps site bodies (gate_place bodies) seen may_leave

-- the peer is ahead of a store that stands for these steps by more of them, which are unsaved
pub record IsAhead (site : ℕ) (steps more : List Step) (saved : Saved) : Type 0 where
  pub bodies : List (List ℕ)
  pub spelled : KeptAs (fresh_peer site) steps bodies
  pub unsaved : KeptAs (replay_of site steps) more saved.unsaved
  pub place_is : saved.place ≡ gate_place bodies + length (records saved.unsaved)
  pub peer_is : saved.peer ≡ fold peer_after (replay_of site steps) more
  pub safe_is : saved.safe ≡ length (replay_of site steps).journal

-- a file stands for steps after which the journal begins with these messages
pub record HasMessages (site : ℕ) (messages : List Message) (file : List ℕ) : Type 0 where
  pub steps : List Step
  pub stands : StandsFor site steps file
  pub others : List Message
  pub journal_is : (replay_of site steps).journal ≡ messages ++ others

-- the messages of a peer that are saved
abbrev pub safe_messages : Saved → List Message
safe_messages saved = take saved.safe saved.peer.journal

-- where the disk tells its bytes, a gate stands at the place that the unsaved records begin at
abbrev pub HasGate : Saved → Option (List ℕ) → Type 0
HasGate saved seen = IfSome seen (λ file. saved.place < length file + length (records saved.unsaved))

-- the body of a step that a peer is to make was kept behind the others
pub record IsKeptIn (old new : List (List ℕ)) (p : Peer) (step : Step) : Type 0 where
  pub body : List ℕ
  pub spells : IsBodyFor p step body
  pub behind : new ≡ old ++ body ∷ []

-- where records are unsaved they end at a place that a file may have
abbrev pub FitsInFile : ℕ → List (List ℕ) → Type 0
FitsInFile place unsaved = (unsaved ≡ [] → ⊥) → place + length (records unsaved) < 2 ^ 62

-- a step finds no room: it is no look, and the last gate stands too far behind
abbrev pub finds_no_gate : Saved → Step → Bool
finds_no_gate saved step = nat_lt MAX_GATE saved.place && not (is_look step)
