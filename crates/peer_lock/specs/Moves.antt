-- What the single moves on the table do to the seat that makes them, and what a whole try does.
use Rattle.std.specs.Prelude.{◌≡◌, ℕ, ◌<◌, ◌≤◌, ◌⊎◌, true, Result, Ok, Err, List, [], ◌∷◌, ◌++◌, length}
use Rattle.peer_step.specs.declared.step.Step.{Step}
use Rattle.peer_step.specs.declared.answer.Answer.{Answer}
use Rattle.peer_core.specs.Peer.{fresh_peer}
use Rattle.peer_core.specs.Answers.{answer_of}
use Rattle.peer_lock.specs.declared.limits.TheConstants.{MAX_RUN, MAX_PASSES}
use Rattle.peer_lock.specs.declared.call.Call.{Call}
use Rattle.peer_lock.specs.declared.call.CountedStep.{CountedStep}
use Rattle.peer_lock.specs.declared.view.View.{View}
use Rattle.peer_lock.specs.declared.fail.TryFail.{TryFail}
use Rattle.peer_lock.specs.declared.fail.TryFail.TheVariants.{Busy, RunFull, NoMemory}
use Rattle.peer_lock.specs.declared.fail.StepFail.{StepFail}
use Rattle.peer_lock.specs.declared.fail.StepFail.TheVariants as fails
use Rattle.peer_lock.specs.Run.{call, peer_after_run, Recorded, recorded}
use Rattle.peer_lock.specs.Rule.{Fits, turned_away, taking, looking, counting, freeing, Seated}

-- the gate was free: the seat has it, and the slot
abbrev pub Took : Seated → Seated → Type 0
Took m n = (run : List Call) × Fits run m.0 × (length run ≤ MAX_RUN) × (n ≡ (taking m.0 run, (0, recorded m.0.origin run) ∷ []))

-- the seat has the slot
abbrev pub HasSlot : Seated → Type 0
HasSlot m = (h : Recorded) × (m.1 ≡ (0, h) ∷ [])

-- the step was made on the peer in the slot
abbrev pub Entered : Seated → ℕ → Step → Result Answer StepFail → Seated → Type 0
Entered m caller s (Ok a) n = (h : Recorded) × (m.1 ≡ (0, h) ∷ []) × (length h.run < MAX_RUN) × (a ≡ answer_of (peer_after_run (fresh_peer h.site) h.run) s) × (n ≡ (m.0, (0, recorded h.site (h.run ++ call caller s ∷ [])) ∷ []))
Entered m caller s (Err fails.RunFull) n = (h : Recorded) × (m.1 ≡ (0, h) ∷ []) × (MAX_RUN ≤ length h.run) × (n ≡ m)
Entered m caller s (Err fails.NoMemory) n = (h : Recorded) × (m.1 ≡ (0, h) ∷ []) × (length h.run < MAX_RUN) × (n ≡ m)

-- a seat that has the gate, and in its slot one step more than it found
pub record CanCount (m : Seated) : Type 0 where
  pub h : Recorded
  pub e : Call
  pub slot : m.1 ≡ (0, h) ∷ []
  pub has : m.0.hand ≡ true
  pub grown : h.run ≡ m.0.base ++ e ∷ []
  pub by : e.caller ≡ m.0.number
  pub begun : length m.0.seen ≤ length m.0.base
  pub calm : m.0.olds ≡ []
  pub room : length m.0.base < MAX_RUN

-- a seat that has the gate, and in its slot the run that is counted
pub record CanFree (m : Seated) : Type 0 where
  pub h : Recorded
  pub slot : m.1 ≡ (0, h) ∷ []
  pub has : m.0.hand ≡ true
  pub site : h.site ≡ m.0.origin
  pub last : ((h.run ≡ m.0.base) × (length m.0.seen ≤ length m.0.base)) ⊎ ((h.run ≡ m.0.seen) × (length m.0.base ≤ length m.0.seen))

-- the count word was loaded
abbrev pub Looked : Seated → ℕ → Seated → Type 0
Looked m r n = (run : List Call) × Fits run m.0 × (length m.0.numbers ≤ MAX_PASSES) × (length run ≤ MAX_RUN) × (r ≡ length run) × (n ≡ (looking m.0 r, m.1))

-- a whole try: grab, step, count and free
abbrev pub Went : Seated → ℕ → Step → Result CountedStep TryFail → Seated → Type 0
Went m caller s (Ok c) n = (run : List Call) × Fits run m.0 × (length run < MAX_RUN) × (c.answer ≡ answer_of (peer_after_run (fresh_peer m.0.origin) run) s) × (n ≡ (freeing (counting (taking m.0 run) (run ++ call caller s ∷ [])), [])) × (c.count ≡ length n.0.seen)
Went m caller s (Err (Busy back)) n = (back ≡ s) × (n ≡ (turned_away m.0, []))
Went m caller s (Err RunFull) n = (run : List Call) × Fits run m.0 × (length run ≡ MAX_RUN) × (n ≡ (freeing (looking (taking m.0 run) (length run)), []))
Went m caller s (Err NoMemory) n = (run : List Call) × Fits run m.0 × (length run < MAX_RUN) × (n ≡ (freeing (looking (taking m.0 run) (length run)), []))

-- a pass that was refused some times
pub record IsRetry (v w : View) : Type 0 where
  pub seen : w.seen ≡ v.seen
  pub floor : w.floor ≡ v.floor
  pub looks : w.looks ≡ v.looks
