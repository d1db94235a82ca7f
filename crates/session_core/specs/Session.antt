-- What a pass and a link show of a session, and what a fault of it says.
use Rattle.std.specs.Prelude.{◌≡◌, ℕ, ◌+◌, ◌++◌, List, Option, Result, Ok, Err, IfErr, ⊤}
use Rattle.edit_io.specs.Causes.{next_count}
use Rattle.edit_io.specs.Link.{with_last}
use Rattle.peer_step.specs.declared.step.Step.{Step}
use Rattle.peer_step.specs.declared.answer.Answer.{Answer}
use Rattle.peer_core.specs.Peer.{fresh_peer}
use Rattle.peer_lock.specs.declared.view.View.{View}
use Rattle.peer_lock.specs.Run.{steps_by}
use Rattle.peer_lock.specs.Laws.{answers_by}
use Rattle.peer_lock.specs.KnownPass.{KnownPass}
use Rattle.peer_lock.specs.Answers.{IsSame, KnowsFull}
use Rattle.session_core.specs.declared.fault.SessionFault.{SessionFault}
use Rattle.session_core.specs.declared.fault.SessionFault.TheVariants.{LinkFault, Closed, BadFrame, RunFull, NoMemory}
use Rattle.session_core.specs.Events.{Event, Phase, Listens, ReceivesItem, Settles, Validates, Looks, SendsItem, SendsTurn, SendsEnd, Finished, Broken, SessionState, Mode, first_state, LeadsTo, messages_in, messages_out, steps_in, answers_in}

-- the steps that a pass has made in the run, under its own number
abbrev pub pass_steps : KnownPass → List Step
pass_steps k = steps_by k.view.number k.view.seen

-- the answers that these steps got
abbrev pub pass_answers : KnownPass → List Answer
pass_answers k = answers_by k.view.number (fresh_peer k.view.origin) k.view.seen

-- a pass, and the messages that a link tells
pub record Side : Type 0 where
  pub pass : KnownPass
  pub got : Option (List (List ℕ))
  pub sent : Option (List (List ℕ))

abbrev pub side : KnownPass → Option (List (List ℕ)) → Option (List (List ℕ)) → Side
side pass got sent = record { pass = pass; got = got; sent = sent }

-- some events lead from one state to the other, and they are what the pass and the link show
pub record Talked (mode : Mode) (s t : SessionState) (a b : Side) : Type 0 where
  pub trace : List Event
  pub leads : LeadsTo mode s trace t
  pub steps_are : pass_steps b.pass ≡ pass_steps a.pass ++ steps_in trace
  pub answers_are : pass_answers b.pass ≡ pass_answers a.pass ++ answers_in trace
  pub got_is : b.got ≡ with_last a.got (messages_in trace)
  pub sent_is : b.sent ≡ with_last a.sent (messages_out trace)
  pub same : IsSame a.pass b.pass

-- a step of the caller comes next
abbrev pub IsStepPhase : Phase → Type 0
IsStepPhase (ReceivesItem m) = ⊤
IsStepPhase Settles = ⊤
IsStepPhase Validates = ⊤
IsStepPhase Looks = ⊤
IsStepPhase phase = ⊥

-- a message comes or goes next
abbrev pub IsLinkPhase : Phase → Type 0
IsLinkPhase Listens = ⊤
IsLinkPhase (SendsItem m) = ⊤
IsLinkPhase SendsTurn = ⊤
IsLinkPhase SendsEnd = ⊤
IsLinkPhase phase = ⊥

-- the session isn't whole, and its last message isn't one that was read and is no frame
abbrev pub IsUnfinished : Phase → Type 0
IsUnfinished Finished = ⊥
IsUnfinished (Broken kind) = ⊥
IsUnfinished phase = ⊤

-- where a session stands that a fault cut
abbrev pub StopsAt : SessionFault → Phase → Type 0
StopsAt LinkFault phase = IsLinkPhase phase
StopsAt Closed phase = phase ≡ Listens
StopsAt (BadFrame fault) phase = (phase ≡ Broken fault.kind) × (fault.offset ≡ 0)
StopsAt RunFull phase = IsStepPhase phase
StopsAt NoMemory phase = IsUnfinished phase

-- a fault cut a piece of a session
abbrev pub CutOff : Mode → SessionState → Side → Side → SessionFault → Type 0
CutOff mode s a b fault = (u : SessionState) × Talked mode s u a b × StopsAt fault u.phase

-- a session is whole, with so many turns that came, or a fault cut it
abbrev pub Session : Mode → Side → Side → Result ℕ SessionFault → Type 0
Session mode a b (Ok n) = (t : SessionState) × Talked mode (first_state mode.rounds) t a b × (t.phase ≡ Finished) × (t.turns ≡ n)
Session mode a b (Err fault) = CutOff mode (first_state mode.rounds) a b fault

-- how often a call found that the other end had closed: once with Closed, and else not at all
abbrev pub closed_by : {X : Type 0} → Result X SessionFault → ℕ
closed_by (Ok x) = 0
closed_by (Err LinkFault) = 0
closed_by (Err Closed) = 1
closed_by (Err (BadFrame fault)) = 0
closed_by (Err RunFull) = 0
closed_by (Err NoMemory) = 0

-- a link's count of faults after a call that answered so: one more with LinkFault, and else the same
abbrev pub faults_after_session : {X : Type 0} → ℕ → Result X SessionFault → ℕ
faults_after_session before (Ok x) = before
faults_after_session before (Err LinkFault) = next_count before
faults_after_session before (Err Closed) = before
faults_after_session before (Err (BadFrame fault)) = before
faults_after_session before (Err RunFull) = before
faults_after_session before (Err NoMemory) = before

-- with RunFull the pass knows that the run is full
abbrev pub FullIsKnown : View → SessionFault → Type 0
FullIsKnown v fault = fault ≡ RunFull → KnowsFull v

-- what a session or a turn leaves, whole or cut: the pass stays what it is, and knows of a full run where it met one; the link
-- was found closed exactly where Closed is answered, and failed exactly where LinkFault is
pub record LeavesSide {X L : Type 0} (closes faults : L → ℕ) (k l : KnownPass) (a b : L) (r : Result X SessionFault) : Type 0 where
  pub same : IsSame k l
  pub full : IfErr r (FullIsKnown l.view)
  pub closes_are : closes b ≡ closes a + closed_by r
  pub faults_are : faults b ≡ faults_after_session (faults a) r
