-- The answers that are kept along a run.
use Rattle.std.proofs.Common.{◌≡◌, ◌≢◌, ℕ, zero, suc, ◌+◌, ◌<◌, ◌≤◌, List, [], ◌∷◌, length, take, Some, ◌⊎◌, inl, inr, ap, ◌∙◌, sym, subst, arith}
use Rattle.std.specs.Prelude.{slice_get}
use Rattle.std.proofs.lemmas.Option.{slice_get_within}
use Rattle.std.proofs.Math.Nat.{eq-or-lt_of_le}
use Rattle.peer_step.specs.declared.step.Step.{Step}
use Rattle.peer_core.specs.Peer.{Peer, fresh_peer}
use Rattle.peer_core.specs.Answers.{answer_of}
use Rattle.peer_core.specs.After.{peer_after}
use Rattle.peer_lock.specs.declared.call.Call.{Call}
use Rattle.peer_lock.specs.declared.kept_answer.KeptAnswer.{KeptAnswer}
use Rattle.peer_lock.specs.declared.kept_answer.KeptAnswer.TheVariants.{Shown}
use Rattle.peer_lock.specs.Run.{StepAt, Recorded, peer_after_run}
use Rattle.peer_lock.specs.KeptAnswers.{kept_answer_of, AnswerAt}
use Rattle.report_run.specs.Kept.{ShowsNothing}

-- the peer before the step at a place
abbrev pub peer_at : Recorded → ℕ → Peer
peer_at r i = peer_after_run (fresh_peer r.site) (take i r.run)

-- it goes on by that step
pub peer_next : (r : Recorded) (i : ℕ) (step : Step) → StepAt r.run i step → peer_at r (i + 1) ≡ peer_after (peer_at r i) step
peer_next r i step (e, here, is) =
    let next : i + 1 ≡ suc i = omega arith in
    ap (peer_at r) next ∙ by (fresh_peer r.site) r.run i here ∙ ap (peer_after (peer_at r i)) is
  where
    by : (p : Peer) (run : List Call) (i : ℕ) → slice_get run i ≡ Some e → peer_after_run p (take (suc i) run) ≡ peer_after (peer_after_run p (take i run)) e.step
    by p [] i here = absurd cc
    by p (x ∷ xs) zero here = let same : x ≡ e = cc in ap (λ (d : Call). peer_after p d.step) same
    by p (x ∷ xs) (suc i) here = by (peer_after p x.step) xs i here

-- what is kept there is the answer to that step
pub kept_here : (r : Recorded) (i : ℕ) (step : Step) (answer : KeptAnswer) → StepAt r.run i step → AnswerAt r i answer → answer ≡ kept_answer_of (answer_of (peer_at r i) step)
kept_here r i step answer (e, here, is) (d, there, kept) =
    let same : d ≡ e = cc in
    kept ∙ ap (λ (c : Call). kept_answer_of (answer_of (peer_at r i) c.step)) same ∙ ap (λ (s : Step). kept_answer_of (answer_of (peer_at r i) s)) is

-- there is one answer at a place
one_answer : (r : Recorded) (i : ℕ) (a b : KeptAnswer) → AnswerAt r i a → AnswerAt r i b → a ≡ b
one_answer r i a b (d, here, is) (e, there, so) =
    let same : d ≡ e = cc in
    is ∙ ap (λ (c : Call). kept_answer_of (answer_of (peer_at r i) c.step)) same ∙ sym so

-- no step below a place is answered by a text
abbrev pub ShowsNothingBelow : Recorded → ℕ → Type 0
ShowsNothingBelow r n = (i : ℕ) (answer : KeptAnswer) → i < n → AnswerAt r i answer → answer ≢ Shown

pub nothing_below : (r : Recorded) → ShowsNothingBelow r 0
nothing_below r i answer low at shown = omega (arith, low)

pub nothing_next : (r : Recorded) (n : ℕ) (answer : KeptAnswer) → ShowsNothingBelow r n → AnswerAt r n answer → answer ≢ Shown → ShowsNothingBelow r (n + 1)
nothing_next r n answer below at told i other low there shown = by (eq-or-lt_of_le (omega (arith, low)))
  where
    by : (i ≡ n) ⊎ (i < n) → ⊥
    by (inl here) = told (one_answer r n answer other at (subst (λ (k : ℕ). AnswerAt r k other) here there) ∙ shown)
    by (inr earlier) = below i other earlier there shown

pub nothing_shown : (r : Recorded) (n : ℕ) → length r.run ≤ n → ShowsNothingBelow r n → ShowsNothing r
nothing_shown r n past below i answer (e, here, is) shown =
    let within : i < length r.run = slice_get_within r.run i e here in
    below i answer (omega (arith, within, past)) (e, here, is) shown
