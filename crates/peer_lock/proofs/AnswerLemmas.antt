-- What is kept of the answers along a run.
use Rattle.std.proofs.Common.{◌≡◌, ℕ, zero, suc, ◌≤◌, true, List, [], ◌∷◌, ◌++◌, length, take, Option, Some, None, refl, sym, ap, ◌∙◌, arith}
use Rattle.std.specs.Prelude.{slice_get, MatchOption}
use Rattle.std.specs.List.{ItemBy}
use Rattle.std.proofs.lemmas.Option.{slice_get_read}
use Rattle.peer_step.specs.declared.step.Step.{Step}
use Rattle.peer_step.specs.declared.answer.Answer.{Answer}
use Rattle.peer_step.specs.declared.answer.Answer.TheVariants.{Conflict, Item}
use Rattle.peer_core.specs.Peer.{Peer, fresh_peer}
use Rattle.peer_core.specs.Answers.{answer_of}
use Rattle.peer_core.specs.After.{changed_by, peer_after}
use Rattle.peer_lock.specs.declared.call.Call.{Call}
use Rattle.peer_lock.specs.declared.kept_answer.KeptAnswer.{KeptAnswer}
use Rattle.peer_lock.specs.Run.{call, peer_after_run, recorded}
use Rattle.peer_lock.specs.KeptAnswers.{kept_answer_of, gives_message, answers_along, AnswerAt}

-- a step whose answer gives a message leaves the peer as it was
pub message_leaves : (p : Peer) (step : Step) (a : Answer) → gives_message a ≡ true → changed_by p step a ≡ p
message_leaves p step (Conflict message) gives = refl
message_leaves p step (Item (Some message)) gives = refl
message_leaves p step a gives = absurd cc

-- the last answer is that of the peer after the other steps
pub answers_along-push : (p : Peer) (run : List Call) (e : Call) → answers_along p (run ++ e ∷ []) ≡ answers_along p run ++ kept_answer_of (answer_of (peer_after_run p run) e.step) ∷ []
answers_along-push p [] e = refl
answers_along-push p (x ∷ xs) e = ap (λ (l : List KeptAnswer). kept_answer_of (answer_of p x.step) ∷ l) (answers_along-push (peer_after p x.step) xs e)

-- a step more, of which a copy was pushed and what is kept of its answer
pub one_kept : (site caller : ℕ) (run grown : List Call) (had now : List KeptAnswer) (p : Peer) (step copy : Step) (a : Answer) (one : KeptAnswer)
    → p ≡ peer_after_run (fresh_peer site) run → had ≡ answers_along (fresh_peer site) run
    → copy ≡ step → a ≡ answer_of p step → one ≡ kept_answer_of a
    → grown ≡ run ++ call caller copy ∷ [] → now ≡ had ++ one ∷ []
    → now ≡ answers_along (fresh_peer site) grown
one_kept site caller run grown had now p step copy a one was along same answered is longer pushed =
    let start : Peer = fresh_peer site in
    let at : answer_of p step ≡ answer_of (peer_after_run start run) copy = ap (λ (q : Peer). answer_of q step) was ∙ ap (answer_of (peer_after_run start run)) (sym same) in
    pushed ∙ ap (λ (l : List KeptAnswer). l ++ one ∷ []) along
    ∙ ap (λ (k : KeptAnswer). answers_along start run ++ k ∷ []) (is ∙ ap kept_answer_of (answered ∙ at))
    ∙ sym (answers_along-push start run (call caller copy)) ∙ ap (answers_along start) (sym longer)

-- there are as many answers as steps
pub answers_along-length : (p : Peer) (run : List Call) → length (answers_along p run) ≡ length run
answers_along-length p [] = refl
answers_along-length p (x ∷ xs) = ap (λ (n : ℕ). suc n) (answers_along-length (peer_after p x.step) xs)

-- what is kept at a place
pub answer_at : (site : ℕ) (run : List Call) (i : ℕ) (answer : KeptAnswer) → slice_get (answers_along (fresh_peer site) run) i ≡ Some answer → AnswerAt (recorded site run) i answer
answer_at site run i answer here = from (fresh_peer site) run i here
  where
    from : (p : Peer) (run : List Call) (i : ℕ) → slice_get (answers_along p run) i ≡ Some answer
        → (e : Call) × (slice_get run i ≡ Some e) × (answer ≡ kept_answer_of (answer_of (peer_after_run p (take i run)) e.step))
    from p [] i here = absurd cc
    from p (x ∷ xs) zero here = (x, refl, cc)
    from p (x ∷ xs) (suc i) here = from (peer_after p x.step) xs i here

-- what is looked up there
pub found_answer : {R : Type 0} (now : R → KeptAnswer) (site : ℕ) (run : List Call) (answers : List KeptAnswer) (i : ℕ) (r : Option R)
    → answers ≡ answers_along (fresh_peer site) run → ItemBy now answers i i r → MatchOption r (length run ≤ i) (λ x. AnswerAt (recorded site run) i (now x))
found_answer now site run answers i None along item = omega (arith, item.3, ap (λ (l : List KeptAnswer). length l) along, answers_along-length (fresh_peer site) run)
found_answer now site run answers i (Some x) along item =
    answer_at site run i (now x) (ap (λ (l : List KeptAnswer). slice_get l i) (sym along) ∙ slice_get_read answers (length answers) i (now x) refl item.3.0 item.1)
