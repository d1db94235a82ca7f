-- What laws say of runs: the answers of one caller's steps, and how many steps some callers have together.
use Rattle.std.specs.Prelude.{◌≡◌, ℕ, zero, suc, ◌+◌, ◌<◌, ◌≤◌, ◌==◌, List, [], ◌∷◌, ◌++◌, length, cond}
use Rattle.peer_step.specs.declared.step.Step.{Step}
use Rattle.peer_step.specs.declared.answer.Answer.{Answer}
use Rattle.peer_core.specs.Peer.{Peer, fresh_peer}
use Rattle.peer_core.specs.Answers.{answer_of}
use Rattle.peer_core.specs.After.{peer_after}
use Rattle.peer_lock.specs.declared.limits.TheConstants.{MAX_RUN}
use Rattle.peer_lock.specs.declared.call.Call.{Call}
use Rattle.peer_lock.specs.declared.view.View.{View}
use Rattle.peer_lock.specs.Run.{steps_by}
use Rattle.peer_lock.specs.Answers.{Stepped, ClosesRun}

-- the answers that one caller's steps get in a run, in their order
abbrev pub answers_by : ℕ → Peer → List Call → List Answer
answers_by n p [] = []
answers_by n p (e ∷ es) = cond (e.caller == n) (answer_of p e.step ∷ answers_by n (peer_after p e.step) es) (answers_by n (peer_after p e.step) es)

-- how many steps the callers below m have
abbrev pub steps_below : ℕ → List Call → ℕ
steps_below zero run = 0
steps_below (suc m) run = steps_below m run + length (steps_by m run)

-- a step that was answered gives its caller one more answer in the run
abbrev pub AnswerLaw : Type 0
AnswerLaw = (v : View) (s : Step) (a : Answer) (w : View) → Stepped v s a w
    → answers_by v.number (fresh_peer v.origin) w.seen ≡ answers_by v.number (fresh_peer v.origin) v.seen ++ a ∷ []

-- a run whose callers are all below m has as many steps as these have
abbrev pub StepLaw : Type 0
StepLaw = (m : ℕ) (run : List Call) → ((n : ℕ) → m ≤ n → steps_by n run ≡ []) → length run ≡ steps_below m run

-- a pass that closes a run, and has seen fewer steps of all its callers than a run may have, never knew a full one
abbrev pub FullLaw : Type 0
FullLaw = (v : View) (p : Peer) (run : List Call) → ClosesRun v p run → steps_below v.made v.seen < MAX_RUN → v.floor < MAX_RUN
