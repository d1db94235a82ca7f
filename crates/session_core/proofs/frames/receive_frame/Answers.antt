use Rattle.std.proofs.Common.{◌≡◌, Ok, Err, refl, sym, ap, ◌∙◌, subst, Result}
use Rattle.edit_frame.specs.declared.frame.Frame.{Frame}
use Rattle.edit_frame.specs.declared.frame.FrameKind.{FrameKind}
use Rattle.edit_frame.specs.Reading.{decoded_frame}
use Rattle.session_core.specs.Events.{SessionState, Phase, Listens, Broken, Hears, in_phase}
use Rattle.session_core.specs.Session.{IsLinkPhase}
use Rattle.session_core.proofs.Talks.{talked_came, talked_missed, talked_still, unfinished_link}
use Rattle.session_core.proofs.frames.receive_frame.Goals as goal

listening : (p : Phase) → p ≡ Listens → IsLinkPhase p
listening p e = subst IsLinkPhase (sym e) tt

pub returns-in-Ok-clause-talk : goal.returns-in-Ok-clause-talk
returns-in-Ok-clause-talk g c = λ mode s k listens t hears.
    let bytes = c.in-Ok-Some.message.items in
    let reads : decoded_frame bytes ≡ Ok c.in-Ok.frame = ap decoded_frame (sym c.as_slice.ensures.value) ∙ c.in-Ok.ensures.exact in
    talked_came mode s t k _ _ _ _ bytes (rw c.in-Ok-Some.field-0-is at c.in-Ok-Some.ensures.got) c.recv.ensures.sent listens (subst (λ (r : Result Frame FrameKind). Hears mode s r t) (sym reads) hears)

pub returns-in-Err-Fault-clause-talk : goal.returns-in-Err-Fault-clause-talk
returns-in-Err-Fault-clause-talk g c = λ mode s k listens.
    let bytes = c.in-Ok-Some.message.items in
    let exact = rw c.in-Err-Fault.field-0-is at c.in-Err-Fault.ensures.exact in
    let reads : decoded_frame bytes ≡ Err c.in-Err-Fault.fault.kind = ap decoded_frame (sym c.as_slice.ensures.value) ∙ exact.1 in
    let broken : SessionState = in_phase (Broken c.in-Err-Fault.fault.kind) s in (
      broken,
      talked_came mode s broken k _ _ _ _ bytes (rw c.in-Ok-Some.field-0-is at c.in-Ok-Some.ensures.got) c.recv.ensures.sent listens (subst (λ (r : Result Frame FrameKind). Hears mode s r broken) (sym reads) refl),
      (refl, exact.0),
    )

pub returns-in-Ok-Some-clause-talk : goal.returns-in-Ok-Some-clause-talk
returns-in-Ok-Some-clause-talk g c = λ mode s k listens.
    let bytes = c.in-Ok-Some.message.items in
    (_, talked_missed mode s k _ _ _ _ bytes (rw c.in-Ok-Some.field-0-is at c.in-Ok-Some.ensures.got) c.recv.ensures.sent listens, tt)

pub returns-in-Ok-None-clause-talk : goal.returns-in-Ok-None-clause-talk
returns-in-Ok-None-clause-talk g c = λ mode s k listens.
    (s, talked_still mode s k _ _ _ _ (rw c.in-Ok-None.field-0-is at c.in-Ok-None.ensures.got) c.recv.ensures.sent, listens)

pub returns-in-Err-Failed-clause-talk : goal.returns-in-Err-Failed-clause-talk
returns-in-Err-Failed-clause-talk g c = λ mode s k listens.
    (s, talked_still mode s k _ _ _ _ c.in-Err-Failed.ensures.got c.recv.ensures.sent, listening s.phase listens)

pub returns-clause-talk : goal.returns-clause-talk
returns-clause-talk g c = λ mode s k listens.
    (s, talked_still mode s k _ _ _ _ c.in-Err-NoMemory.ensures.got c.recv.ensures.sent, unfinished_link s.phase (listening s.phase listens))
