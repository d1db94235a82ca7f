use Rattle.std.proofs.Common.{List, [], ◌∷◌, ◌++◌, length, ap, ◌∙◌, arith, length-append}
use Rattle.peer_step.specs.declared.step.Step.{Step}
use Rattle.peer_step.specs.declared.answer.Answer.{Answer}
use Rattle.peer_core.specs.Peer.{fresh_peer}
use Rattle.peer_lock.specs.declared.call.Call.{Call}
use Rattle.peer_lock.specs.Run.{call, peer_after_run, steps_by}
use Rattle.peer_lock.specs.Laws.{answers_by}
use Rattle.peer_lock.specs.KnownPass.{KnownPass}
use Rattle.peer_lock.specs.Answers.{IsSame, Stepped}
use Rattle.peer_lock.proofs.ByCaller.{told_step}
use Rattle.session_core.specs.Pieces.{OneMoreStep}
use Rattle.session_core.proofs.steps.make.Goals as goal

-- a step that was answered is the one more of its pass, which has then seen more
made : (k l : KnownPass) (s : Step) (a : Answer) → IsSame k l → Stepped k.view s a l.view → OneMoreStep k l s a
made k l s a same st = record {
  steps_are = ap (λ n. steps_by n l.view.seen) same.number ∙ st.mine;
  answers_are = ap (λ n. answers_by n (fresh_peer l.view.origin) l.view.seen) same.number ∙ ap (λ o. answers_by k.view.number (fresh_peer o) l.view.seen) same.origin ∙ told_step k.view s a l.view st;
  longer = omega (arith, ap (λ (run : List Call). length run) st.seen, length-append (k.view.seen ++ st.between) (call k.view.number s ∷ []), length-append k.view.seen st.between);
  room = st.room;
  peer = peer_after_run (fresh_peer k.view.origin) (k.view.seen ++ st.between);
  told = st.answer;
}

pub returns-in-Ok-clause-makes : goal.returns-in-Ok-clause-makes
returns-in-Ok-clause-makes g c = made c.args.pass.now c.step.new.pass c.args.step c.in-Ok.answer c.step.ensures.same c.in-Ok.ensures.steps
