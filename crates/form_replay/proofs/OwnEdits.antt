-- What is told of a reply to an own edit.
use Rattle.std.proofs.Common.{◌≡◌, None, Some, refl, ap, ◌∙◌}
use Rattle.std.specs.Prelude.{option_map}
use Rattle.std.specs.declared.option.Option.{Option}
use Rattle.std.proofs.lemmas.Option.{same_Some}
use Rattle.peer_step.specs.declared.answer.Answer.{Answer}
use Rattle.peer_step.specs.declared.lent.EditAnswer.{EditAnswer}
use Rattle.peer_step.specs.Lent.{edit_answer_of}
use Rattle.replay_net.specs.declared.reply.Reply.{Reply}
use Rattle.replay_net.specs.declared.reply.Reply.TheVariants.{Answered}
use Rattle.replay_net.specs.declared.reply.EditReply.{EditReply}
use Rattle.replay_net.specs.Reply.{edit_reply_of}

-- the reply has the told number, and an answer of which this is told
pub told_reply : (reply : Reply) (told : EditReply) → edit_reply_of reply ≡ Some told
    → (answer : Answer) × (reply ≡ Answered told.number answer) × (edit_answer_of answer ≡ Some told.answer)
told_reply (Answered number answer) told h = by (edit_answer_of answer) refl h
  where
    by : (o : Option EditAnswer) → edit_answer_of answer ≡ o → option_map (λ t. record { number = number; answer = t }) o ≡ Some told
        → (a : Answer) × (Answered number answer ≡ Answered told.number a) × (edit_answer_of a ≡ Some told.answer)
    by None e k = absurd cc
    by (Some t) e k =
        let same = same_Some _ _ k in
        (answer, ap (λ (x : EditReply). Answered x.number answer) same, e ∙ ap (λ (x : EditReply). Some x.answer) same)
told_reply reply told h = absurd cc
