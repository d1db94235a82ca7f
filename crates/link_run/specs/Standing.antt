-- How a link, and how its session ended, stand to their caller in a run.
use Rattle.std.specs.Prelude.{◌≡◌, ℕ, ◌+◌, List, [], ◌++◌, length, slice_get, Option, Some, None, Result, Ok, Err, ⊤}
use Rattle.edit_io.specs.Link.{with_last}
use Rattle.edit_io.specs.Door.{IsUnused}
use Rattle.peer_step.specs.declared.step.Step.{Step}
use Rattle.peer_step.specs.declared.answer.Answer.{Answer}
use Rattle.peer_core.specs.Peer.{fresh_peer}
use Rattle.peer_lock.specs.declared.call.Call.{Call}
use Rattle.peer_lock.specs.Run.{steps_by}
use Rattle.peer_lock.specs.Laws.{answers_by}
use Rattle.session_core.specs.declared.fault.SessionFault.{SessionFault}
use Rattle.session_core.specs.declared.fault.SessionFault.TheVariants as session_faults
use Rattle.session_core.specs.Events.{Event, Finished, SessionState, Mode, first_state, LeadsTo, messages_in, messages_out, steps_in, answers_in}
use Rattle.session_core.specs.Session.{StopsAt, closed_by, faults_after_session}
use Rattle.link_run.specs.Served.{IsFullRun}

-- a list is this one, where it is told
abbrev pub IsWhereTold : {A : Type 0} → Option (List A) → List A → Type 0
IsWhereTold None xs = ⊤
IsWhereTold (Some told) xs = told ≡ xs

-- where a session stands that ended so
abbrev pub EndsIn : Result ℕ SessionFault → SessionState → Type 0
EndsIn (Ok turns) t = (t.phase ≡ Finished) × (t.turns ≡ turns)
EndsIn (Err fault) t = StopsAt fault t.phase

-- a caller has made some steps, and then those of a session on this link, which ended so
pub record SessionInRun {L : Type 0} (got sent : L → Option (List (List ℕ))) (faults closes : L → ℕ) (mode : Mode) (site caller : ℕ) (before : List Step) (run : List Call) (link : L) (ended : Result ℕ SessionFault) : Type 0 where
  pub events : List Event
  pub last : SessionState
  pub leads : LeadsTo mode (first_state mode.rounds) events last
  pub ends : EndsIn ended last
  -- the caller's steps in the run, and their answers
  pub steps_are : steps_by caller run ≡ before ++ steps_in events
  pub told_before : List Answer
  pub as_many : length told_before ≡ length before
  pub answers_are : answers_by caller (fresh_peer site) run ≡ told_before ++ answers_in events
  -- the messages that came and went over the link, and what it counted
  pub got_is : IsWhereTold (got link) (messages_in events)
  pub sent_is : IsWhereTold (sent link) (messages_out events)
  pub closes_is : closes link ≡ closed_by ended
  pub faults_is : faults link ≡ faults_after_session 0 ended
  -- where the session met the full run, the run is full
  pub full : ended ≡ Err session_faults.RunFull → IsFullRun run

-- a caller that serves has made the steps of a session on this link, and no other
abbrev pub ServedInRun : {L : Type 0} → (L → Option (List (List ℕ))) → (L → Option (List (List ℕ))) → (L → ℕ) → (L → ℕ) → Mode → ℕ → ℕ → List Call → L → Option (Result ℕ SessionFault) → Type 0
ServedInRun got sent faults closes mode site caller run link None = ⊥
ServedInRun got sent faults closes mode site caller run link (Some ended) = SessionInRun got sent faults closes mode site caller [] run link ended

-- some links came back, in order, and each stands to its caller in the run: the link at place i to caller i + 1
pub record LinksInRun {L : Type 0} (got sent : L → Option (List (List ℕ))) (faults closes : L → ℕ) (mode : Mode) (site : ℕ) (used used' : Option (List L)) (outcomes : List (Option (Result ℕ SessionFault))) (run : List Call) : Type 0 where
  pub links : List L
  pub many : length links ≡ length outcomes
  pub used_is : used' ≡ with_last used links
  pub each : (i : ℕ) (link : L) (outcome : Option (Result ℕ SessionFault)) → slice_get links i ≡ Some link → slice_get outcomes i ≡ Some outcome
      → ServedInRun got sent faults closes mode site (i + 1) run link outcome

-- some links came back, in order, over which nothing went, and none has had a session
pub record LinksUntouched {L : Type 0} (got sent : L → Option (List (List ℕ))) (faults closes : L → ℕ) (used used' : Option (List L)) (outcomes : List (Option (Result ℕ SessionFault))) : Type 0 where
  pub links : List L
  pub many : length links ≡ length outcomes
  pub used_is : used' ≡ with_last used links
  pub unused : (i : ℕ) (link : L) → slice_get links i ≡ Some link → IsUnused (faults link) (closes link) (got link) (sent link)
  pub unended : (i : ℕ) (outcome : Option (Result ℕ SessionFault)) → slice_get outcomes i ≡ Some outcome → outcome ≡ None
