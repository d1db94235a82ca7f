use Rattle.std.proofs.Common.{◌≤◌, length, subst, ◌∙◌}
use Rattle.std.specs.Prelude.{MatchOption}
use Rattle.peer_lock.specs.Run.{Recorded}
use Rattle.peer_lock.specs.KeptAnswers.{AnswerAt}
use Rattle.peer_lock.proofs.AnswerLemmas.{found_answer}
use Rattle.peer_lock.proofs.history.History.answer.Goals as goal

pub returns : goal.returns
returns c =
    subst (λ (r : Recorded). MatchOption c.get.result (length r.run ≤ c.args.i) (λ answer. AnswerAt r c.args.i answer.now)) c.self.view_is
    (found_answer (λ answer. answer.now) c.self.inside.site c.self.inside.run.items c.deref.result.now c.args.i c.get.result (c.deref.ensures.value ∙ c.self.invariant) c.get.ensures.lookup)
