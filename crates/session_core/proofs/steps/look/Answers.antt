use Rattle.std.proofs.Common.{◌≡◌, ℕ, Some, None, sym, ap, ◌∙◌, slice_get, refl}
use Rattle.peer_step.specs.declared.step.Step.TheVariants.{Look}
use Rattle.peer_step.specs.declared.answer.Answer.{Answer}
use Rattle.peer_core.specs.Peer.{Peer}
use Rattle.peer_core.specs.Answers.{answer_of}
use Rattle.peer_lock.specs.KnownPass.{KnownPass}
use Rattle.session_core.specs.Events.{item_in}
use Rattle.session_core.specs.Pieces.{OneMoreStep}
use Rattle.session_core.proofs.steps.look.Goals as goal

-- a look is answered by an item, or that there is none
item_there : (p : Peer) (mark : ℕ) → item_in (answer_of p (Look mark)) ≡ Some (slice_get p.journal mark)
item_there p mark = refl

no_other : (k l : KnownPass) (mark : ℕ) (a : Answer) → OneMoreStep k l (Look mark) a → item_in a ≡ None → ⊥
no_other k l mark a m none = let e : Some (slice_get m.peer.journal mark) ≡ None = sym (item_there m.peer mark) ∙ ap item_in (sym m.told) ∙ none in cc

pub unreachable-requires : goal.unreachable-requires
unreachable-requires g c = no_other c.args.pass.now c.make.new.pass c.args.mark c.in_ok-answer.answer c.in_ok-answer.ensures.makes (sym c.item_of.ensures ∙ c.in-None.is)
