-- What each call on a shared peer tells the pass that makes it.
use Rattle.std.specs.Prelude.{◌≡◌, ◌≢◌, ℕ, ◌+◌, ◌<◌, ◌≤◌, false, Result, Ok, Err, List, [], ◌∷◌, ◌++◌, length, max}
use Rattle.peer_step.specs.declared.step.Step.{Step}
use Rattle.peer_step.specs.declared.answer.Answer.{Answer}
use Rattle.peer_core.specs.Peer.{Peer, fresh_peer}
use Rattle.peer_core.specs.Answers.{answer_of}
use Rattle.peer_lock.specs.declared.limits.TheConstants.{MAX_RUN}
use Rattle.peer_lock.specs.declared.call.Call.{Call}
use Rattle.peer_lock.specs.declared.view.View.{View}
use Rattle.peer_lock.specs.declared.fail.TryFail.{TryFail}
use Rattle.peer_lock.specs.declared.fail.TryFail.TheVariants.{Busy, RunFull, NoMemory}
use Rattle.peer_lock.specs.declared.fail.StepFail.{StepFail}
use Rattle.peer_lock.specs.declared.fail.StepFail.TheVariants as fails
use Rattle.peer_lock.specs.Run.{call, peer_after_run, steps_by, StartsWith}
use Rattle.peer_lock.specs.Rule.{HasNumber, longer}
use Rattle.peer_lock.specs.KnownPass.{KnownPass}

-- a step was answered: there is one run, which begins with all that the pass had seen and is longer than it knew, and the
-- step is its last; the answer is that of the plain peer after the run without it
pub record Stepped (v : View) (s : Step) (a : Answer) (w : View) : Type 0 where
  -- what others did since
  pub between : List Call
  pub seen : w.seen ≡ (v.seen ++ between) ++ call v.number s ∷ []
  pub passes_floor : v.floor < length w.seen
  pub answer : a ≡ answer_of (peer_after_run (fresh_peer v.origin) (v.seen ++ between)) s
  pub floor : w.floor ≡ length w.seen
  pub room : length w.seen ≤ MAX_RUN
  pub named : HasNumber v.numbers v.number
  -- none of it is of the pass's own numbers
  pub quiet : (n : ℕ) → HasNumber v.numbers n → steps_by n between ≡ []
  pub mine : steps_by v.number w.seen ≡ steps_by v.number v.seen ++ s ∷ []
  pub others : (n : ℕ) → HasNumber v.numbers n → n ≢ v.number → steps_by n w.seen ≡ steps_by n v.seen

-- what no step changes in a pass
pub record IsSame (k l : KnownPass) : Type 0 where
  pub table : l.table ≡ k.table
  pub id : l.id ≡ k.id
  pub number : l.view.number ≡ k.view.number
  pub numbers : l.view.numbers ≡ k.view.numbers
  pub origin : l.view.origin ≡ k.view.origin
  pub made : l.view.made ≡ k.view.made

-- the pass has not the gate, before and after
abbrev pub WithoutGate : View → View → Type 0
WithoutGate v w = (v.hand ≡ false) × (w.hand ≡ false)

-- the pass knows that the run has as many steps as it may
abbrev pub KnowsFull : View → Type 0
KnowsFull v = v.floor ≡ MAX_RUN

-- the pass has loaded the count once
abbrev pub HasLooked : View → View → Type 0
HasLooked v w = w.looks ≡ v.looks + 1

-- one try: Busy exactly where its one grab was refused, RunFull exactly where the run is full; where it makes no step for
-- another reason, it has loaded the count
abbrev pub AnswersTry : View → Step → Result Answer TryFail → View → Type 0
AnswersTry v s (Ok a) w = Stepped v s a w × (w.refused ≡ v.refused)
AnswersTry v s (Err (Busy back)) w = (back ≡ s) × (w.refused ≡ v.refused + 1) × (w.seen ≡ v.seen) × (w.floor ≡ v.floor) × (w.looks ≡ v.looks)
AnswersTry v s (Err RunFull) w = (w.refused ≡ v.refused) × (w.seen ≡ v.seen) × KnowsFull w × HasLooked v w
AnswersTry v s (Err NoMemory) w = (w.refused ≡ v.refused) × (w.seen ≡ v.seen) × (v.floor ≤ w.floor) × (w.floor < MAX_RUN) × HasLooked v w

-- tries until one is not Busy; where that makes no step, it has loaded the count, and no other has
abbrev pub AnswersStep : View → Step → Result Answer StepFail → View → Type 0
AnswersStep v s (Ok a) w = Stepped v s a w
AnswersStep v s (Err fails.RunFull) w = (w.seen ≡ v.seen) × KnowsFull w × HasLooked v w
AnswersStep v s (Err fails.NoMemory) w = (w.seen ≡ v.seen) × (v.floor ≤ w.floor) × (w.floor < MAX_RUN) × HasLooked v w

-- one load of the count word, which found this
pub record ReadsCount (v : View) (found : ℕ) (w : View) : Type 0 where
  pub floor : w.floor ≡ found
  pub later : v.floor ≤ found
  pub looks : w.looks ≡ v.looks + 1
  pub seen : w.seen ≡ v.seen

-- the pass has then seen what both had seen, and has the numbers of both
pub record UnitesPasses (v o w : View) : Type 0 where
  pub longer_is : w.seen ≡ longer v.seen o.seen
  pub mine : StartsWith w.seen v.seen
  pub theirs : StartsWith w.seen o.seen
  pub floor : max v.floor o.floor ≤ w.floor
  pub numbers : w.numbers ≡ v.numbers ++ o.numbers
  pub my_steps : (n : ℕ) → HasNumber v.numbers n → steps_by n w.seen ≡ steps_by n v.seen
  pub their_steps : (n : ℕ) → HasNumber o.numbers n → steps_by n w.seen ≡ steps_by n o.seen
  pub number : w.number ≡ v.number
  pub origin : w.origin ≡ v.origin
  pub made : w.made ≡ max v.made o.made
  pub looks : w.looks ≡ v.looks + 1

-- the run to its end, and the peer after it
pub record ClosesRun (v : View) (p : Peer) (run : List Call) : Type 0 where
  pub seen : StartsWith run v.seen
  pub floor : v.floor ≤ length run
  pub peer : p ≡ peer_after_run (fresh_peer v.origin) run
  pub steps : (n : ℕ) → HasNumber v.numbers n → steps_by n run ≡ steps_by n v.seen
  pub numbers : (n : ℕ) → n < v.made → HasNumber v.numbers n
  pub callers : (n : ℕ) → v.made ≤ n → steps_by n run ≡ []
  pub room : length run ≤ MAX_RUN
