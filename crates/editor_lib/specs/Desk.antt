-- A peer with what it told last, and what a call leaves of them by its code.
use Rattle.std.specs.Prelude.{◌≡◌, ℕ, List, Option, Some, None, IsSomeAnd, option_map}
use Rattle.edit_message.specs.declared.message.Message.{Message}
use Rattle.edit_frame.specs.Reading.{framed_message}
use Rattle.peer_step.specs.declared.step.LocalEdit.{LocalEdit}
use Rattle.peer_step.specs.declared.step.Step.{Step}
use Rattle.peer_step.specs.declared.step.Step.TheVariants.{Receive}
use Rattle.peer_core.specs.Peer.{Peer, fresh_peer}
use Rattle.peer_core.specs.Answers.{answer_of}
use Rattle.peer_core.specs.After.{peer_after}
use Rattle.peer_core.specs.Restore.{peer_of_journal}
use Rattle.text_change.specs.Told.{AreRowsOf}
use Rattle.editor_lib.specs.declared.code.Code.{Code}
use Rattle.editor_lib.specs.declared.code.Code.TheVariants as ends
use Rattle.editor_lib.specs.Code.{GivesCode}
use Rattle.editor_lib.specs.Told.{LastTold, nothing, told}
use Rattle.editor_lib.specs.Journal.{SpellsJournal}

-- a peer, and what was told last
pub record Desk : Type 0 where
  pub peer : Peer
  pub told : LastTold

-- the desk of a fresh peer
abbrev pub fresh_desk : ℕ → Desk
fresh_desk site = record { peer = fresh_peer site; told = nothing }

-- the desk of a site's peer that has this journal
abbrev pub desk_of_journal : ℕ → List Message → Desk
desk_of_journal site journal = record { peer = peer_of_journal site journal; told = nothing }

-- ---- opening

-- what opening leaves, by its code
abbrev pub Opened : Code → ℕ → Option Desk → Type 0
Opened ends.Done site after = after ≡ Some (fresh_desk site)
Opened ends.NoMemory site after = after ≡ None
Opened code site after = ⊥

-- the desk of a site's peer whose journal these bytes are
pub record IsRestored (site : ℕ) (bytes : List ℕ) (desk : Desk) : Type 0 where
  pub journal : List Message
  pub spelled : SpellsJournal bytes journal
  pub desk_is : desk ≡ desk_of_journal site journal

-- what opening by the bytes of a journal leaves, by its code
abbrev pub Restored : Code → ℕ → List ℕ → Option Desk → Type 0
Restored ends.Done site bytes after = IsSomeAnd after (IsRestored site bytes)
Restored ends.Bad site bytes after = ((journal : List Message) → ¬ SpellsJournal bytes journal) × (after ≡ None)
Restored ends.NoMemory site bytes after = after ≡ None
Restored ends.Untold site bytes after = ⊥

-- ---- steps

-- to receive the message whose frame is all of the bytes
abbrev pub step_received : List ℕ → Option Step
step_received bytes = option_map Receive (framed_message bytes)

-- a step was made, and its answer was told, with rows that make of the text that showed the one that shows
pub record IsMadeAndTold (step : Step) (before after : Desk) : Type 0 where
  pub rows : List LocalEdit
  pub are_rows : AreRowsOf before.peer (peer_after before.peer step) rows
  pub desk_is : after ≡ record { peer = peer_after before.peer step; told = told (answer_of before.peer step) rows }

-- what a call for the step that bytes say, or for none, leaves of a desk, by its code
abbrev pub StepMade : Code → Option Step → Desk → Desk → Type 0
StepMade ends.Done (Some step) before after = IsMadeAndTold step before after
StepMade ends.Untold (Some step) before after = after ≡ record { peer = peer_after before.peer step; told = nothing }
StepMade ends.Bad None before after = after ≡ before
StepMade ends.NoMemory said before after = after ≡ before
StepMade code said before after = ⊥

-- ---- questions

-- what a question that is answered by these bytes, or is none, leaves of a desk, by its code: the peer, the frame and the rows stay
abbrev pub Asked : Code → Option (List ℕ) → Desk → Desk → Type 0
Asked ends.Done (Some answer) before after = after ≡ record before { told = record before.told { answer = answer } }
Asked ends.Bad None before after = after ≡ before
Asked ends.NoMemory answer before after = after ≡ before
Asked code answer before after = ⊥

-- ---- calls, which give the number of a code

-- a call for the step that bytes say, or for none, had this desk, and leaves that in its slot
abbrev pub IsStepped : ℕ → Option Step → Desk → Option Desk → Type 0
IsStepped given said desk after = GivesCode given (λ code. IsSomeAnd after (λ new. StepMade code said desk new))

-- a call for a question that is answered by these bytes, or is none, had this desk, and leaves that in its slot
abbrev pub IsAsked : ℕ → Option (List ℕ) → Desk → Option Desk → Type 0
IsAsked given answer desk after = GivesCode given (λ code. IsSomeAnd after (λ new. Asked code answer desk new))
