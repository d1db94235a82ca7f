-- The two files of a host as bytes.
use Rattle.std.specs.Prelude.{ℕ, List, Contains}
use Rattle.edit_message.specs.declared.message.Message.{Message}
use Rattle.peer_step.specs.declared.step.Step.{Step}
use Rattle.peer_disk.specs.Records.{HasBodies}
use Rattle.peer_store.specs.Steps.{replay_of}
use Rattle.peer_store.specs.Store.{StandsFor}
use Rattle.host_people.specs.declared.change.Change.{Change}
use Rattle.host_people.specs.Bodies.{change_body, change_bodies}
use Rattle.host_lives.specs.Lives.{LifeEvent, changes_saved, MayLeave}

-- the people's file has the changes that were saved
abbrev pub IsPeopleFile : List LifeEvent → List ℕ → Type 0
IsPeopleFile ls file = HasBodies 0 (change_bodies (changes_saved ls)) file

-- the document's file is one that a crash may leave
pub record IsDocumentFile (first : List Message) (ls : List LifeEvent) (file : List ℕ) : Type 0 where
  pub steps : List Step
  pub stands : StandsFor 0 steps file
  pub may_be : MayLeave first ls (replay_of 0 steps).journal

-- a file has a record of this change
pub record RecordsChange (change : Change) (file : List ℕ) : Type 0 where
  pub bodies : List (List ℕ)
  pub has : HasBodies 0 bodies file
  pub among : Contains bodies (change_body change)
