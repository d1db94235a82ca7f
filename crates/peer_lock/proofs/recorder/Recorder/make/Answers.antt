use Rattle.std.proofs.Common.{◌∷◌, ◌++◌, [], sym, ap, ◌∙◌}
use Rattle.peer_core.specs.Peer.{fresh_peer}
use Rattle.peer_core.specs.After.{peer_after}
use Rattle.peer_core.specs.Answers.{answer_of}
use Rattle.peer_lock.specs.Run.{call, peer_after_run}
use Rattle.peer_lock.specs.KeptAnswers.{gives_message, answers_along}
use Rattle.peer_lock.proofs.RunLemmas.{peer_after_run-push}
use Rattle.peer_lock.proofs.AnswerLemmas.{one_kept, message_leaves}
use Rattle.peer_lock.proofs.recorder.Recorder.make.Goals as goal

pub invariant_of-self-2 : goal.invariant_of-self-2
invariant_of-self-2 g c =
    let start = fresh_peer c.self.inside.site in
    let run = c.self.inside.run.items in
    let e = call c.args.caller c.in_ok-copy.copy in
    let longer = c.push_reserved.ensures.items ∙ ap (λ r. r ++ e ∷ []) c.packed_copy.ensures.run in (
      c.in_ok-answer.ensures.after
          ∙ ap (λ p. peer_after p c.args.step) c.self.invariant.0
          ∙ ap (λ s. peer_after (peer_after_run start run) s) (sym c.in_ok-copy.ensures.copy)
          ∙ sym (peer_after_run-push start run e)
          ∙ ap (peer_after_run start) (sym longer),
      one_kept c.self.inside.site c.args.caller run _ _ _ _ _ c.in_ok-copy.copy _ c.in_ok-kept.kept c.self.invariant.0 c.self.invariant.1
          c.in_ok-copy.ensures.copy c.in_ok-answer.ensures.answer c.in_ok-kept.ensures.kept longer
          (c.push_reserved-2.ensures.items ∙ ap (λ l. l ++ c.in_ok-kept.kept ∷ []) c.packed_copy.ensures.answers),
    )

pub invariant_of-self-in_err-kept : goal.invariant_of-self-in_err-kept
invariant_of-self-in_err-kept g c =
    let start = fresh_peer c.self.inside.site in (
      c.in_ok-answer.ensures.after
          ∙ message_leaves c.self.inside.peer c.args.step (answer_of c.self.inside.peer c.args.step) (ap gives_message (sym c.in_ok-answer.ensures.answer) ∙ c.in_err-kept.ensures.takes_none)
          ∙ c.self.invariant.0
          ∙ ap (peer_after_run start) (sym c.packed_copy.ensures.run),
      c.packed_copy.ensures.answers ∙ c.self.invariant.1 ∙ ap (answers_along start) (sym c.packed_copy.ensures.run),
    )
