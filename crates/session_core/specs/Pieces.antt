-- What the parts of a session do: a step, a frame each way, a turn each way.
use Rattle.std.specs.Prelude.{◌≡◌, ℕ, ◌+◌, ◌<◌, ◌≤◌, ◌++◌, Bool, true, false, List, [], ◌∷◌, Option, Some, Result, Ok, Err, IfErr, ⊤, length}
use Rattle.edit_io.specs.Link.{with_last}
use Rattle.edit_message.specs.declared.message.Message.{Message}
use Rattle.peer_step.specs.declared.step.Step.{Step}
use Rattle.peer_step.specs.declared.step.Step.TheVariants.{Look}
use Rattle.peer_step.specs.declared.answer.Answer.{Answer}
use Rattle.peer_core.specs.Peer.{Peer}
use Rattle.peer_core.specs.Answers.{answer_of}
use Rattle.edit_frame.specs.declared.frame.Frame.{Frame}
use Rattle.peer_lock.specs.declared.limits.TheConstants.{MAX_RUN}
use Rattle.peer_lock.specs.KnownPass.{KnownPass}
use Rattle.peer_lock.specs.Answers.{IsSame}
use Rattle.session_core.specs.declared.fault.SessionFault.{SessionFault}
use Rattle.session_core.specs.declared.fault.SessionFault.TheVariants.{LinkFault, Closed, BadFrame, RunFull, NoMemory}
use Rattle.session_core.specs.Events.{Phase, Listens, Looks, Finished, SessionState, in_phase, Mode, turn_done, item_in, Hears}
use Rattle.session_core.specs.Session.{Side, side, Talked, CutOff, FullIsKnown, pass_steps, pass_answers}

-- a piece of a session went through to this state, or a fault cut it
abbrev pub GetsTo : {X : Type 0} → Mode → SessionState → Side → Side → Result X SessionFault → SessionState → Type 0
GetsTo mode s a b (Ok x) t = Talked mode s t a b
GetsTo mode s a b (Err fault) t = CutOff mode s a b fault

-- ---- steps

-- in whatever session, steps of the pass lead from this phase to that state, or a fault cut them
abbrev pub StepsTo : {X : Type 0} → Phase → (Mode → SessionState → SessionState) → KnownPass → KnownPass → Result X SessionFault → Type 0
StepsTo phase after k l r = (mode : Mode) (s : SessionState) (got sent : Option (List (List ℕ)))
    → GetsTo mode (in_phase phase s) (side k got sent) (side l got sent) r (after mode s)

-- a fault that a step may meet
abbrev pub IsStepFault : SessionFault → Type 0
IsStepFault LinkFault = ⊥
IsStepFault Closed = ⊥
IsStepFault (BadFrame fault) = ⊥
IsStepFault RunFull = ⊤
IsStepFault NoMemory = ⊤

-- what steps of a session keep, whether all were made or a fault cut them: the pass stays itself and has seen no less, it
-- knows a full run where it met one, and no fault is one of the link
pub record KeepsPass {X : Type 0} (k l : KnownPass) (r : Result X SessionFault) : Type 0 where
  pub same : IsSame k l
  pub grown : length k.view.seen ≤ length l.view.seen
  pub full : IfErr r (FullIsKnown l.view)
  pub kind : IfErr r IsStepFault

-- the pass has made one more step, its run is longer, and the answer is that of some peer
pub record OneMoreStep (k l : KnownPass) (step : Step) (answer : Answer) : Type 0 where
  pub steps_are : pass_steps l ≡ pass_steps k ++ step ∷ []
  pub answers_are : pass_answers l ≡ pass_answers k ++ answer ∷ []
  pub longer : length k.view.seen < length l.view.seen
  pub room : length l.view.seen ≤ MAX_RUN
  pub peer : Peer
  pub told : answer ≡ answer_of peer step

-- a step was made, or none where memory was wanting or the run is full
abbrev pub MakesStep : KnownPass → KnownPass → Step → Result Answer SessionFault → Type 0
MakesStep k l step (Ok answer) = OneMoreStep k l step answer
MakesStep k l step (Err RunFull) = l.view.seen ≡ k.view.seen
MakesStep k l step (Err NoMemory) = l.view.seen ≡ k.view.seen
MakesStep k l step (Err fault) = ⊥

-- a look at the mark, and the item that it found
abbrev pub LooksAt : KnownPass → KnownPass → ℕ → Result (Option Message) SessionFault → Type 0
LooksAt k l mark (Ok item) = (a : Answer) × OneMoreStep k l (Look mark) a × (item_in a ≡ Some item)
LooksAt k l mark (Err fault) = MakesStep k l (Look mark) (Err fault)

-- ---- frames

-- a fault that a link and its frames may meet
abbrev pub IsFrameFault : SessionFault → Type 0
IsFrameFault LinkFault = ⊤
IsFrameFault Closed = ⊤
IsFrameFault (BadFrame fault) = ⊤
IsFrameFault RunFull = ⊥
IsFrameFault NoMemory = ⊤

-- a frame came, or why none did
abbrev pub Hearing : Mode → SessionState → Side → Side → Result Frame SessionFault → Type 0
Hearing mode s a b (Ok f) = (t : SessionState) → Hears mode s (Ok f) t → Talked mode s t a b
Hearing mode s a b (Err fault) = CutOff mode s a b fault

-- a frame was sent, or none
abbrev pub Sending : Option (List (List ℕ)) → Option (List (List ℕ)) → List ℕ → Result (Unit {0}) SessionFault → Type 0
Sending before now bytes (Ok done) = now ≡ with_last before (bytes ∷ [])
Sending before now bytes (Err LinkFault) = now ≡ before
Sending before now bytes (Err NoMemory) = now ≡ before
Sending before now bytes (Err fault) = ⊥

-- ---- turns

-- a side that looks, with this mark and so many turns
abbrev pub looking_from : ℕ → ℕ → SessionState
looking_from mark turns = record { phase = Looks; mark = mark; turns = turns }

-- a side that listens, with this mark and so many turns
abbrev pub listening_from : ℕ → ℕ → SessionState
listening_from mark turns = record { phase = Listens; mark = mark; turns = turns }

-- a turn went out: from looking at one mark to listening with another, which is below the length of the run
pub record TurnWentOut (a b : Side) (mark n : ℕ) : Type 0 where
  pub talked : (mode : Mode) (turns : ℕ) → Talked mode (looking_from mark turns) (listening_from n turns) a b
  pub mark_fits : n < length b.pass.view.seen
  pub longer : length a.pass.view.seen < length b.pass.view.seen
  pub room : length b.pass.view.seen ≤ MAX_RUN

-- a turn out, with the mark that is answered, or a fault cut it
abbrev pub TurnOut : Side → Side → ℕ → Result ℕ SessionFault → Type 0
TurnOut a b mark (Ok n) = TurnWentOut a b mark n
TurnOut a b mark (Err fault) = (mode : Mode) (turns : ℕ) → CutOff mode (looking_from mark turns) a b fault

-- a turn in: from listening to what comes once the turn came, or to the end; or a fault cut it
abbrev pub TurnIn : Bool → Side → Side → Result Bool SessionFault → Type 0
TurnIn validates a b (Ok true) = (mode : Mode) (s : SessionState) → mode.validates ≡ validates → Talked mode (in_phase Listens s) (turn_done mode (record s { turns = s.turns + 1 })) a b
TurnIn validates a b (Ok false) = (mode : Mode) (s : SessionState) → mode.validates ≡ validates → Talked mode (in_phase Listens s) (in_phase Finished s) a b
TurnIn validates a b (Err fault) = (mode : Mode) (s : SessionState) → mode.validates ≡ validates → CutOff mode (in_phase Listens s) a b fault
