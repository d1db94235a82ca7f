use Rattle.std.proofs.Common.{◌≡◌, Some, sym, subst}
use Rattle.std.specs.Prelude.{Option}
use Rattle.follow_text.specs.declared.text_row.TextRow.{TextRow}
use Rattle.follow_talk.specs.Mirrors.{IsInStep}
use Rattle.follow_talk.proofs.Mirrored.{in_step_told, told_known}
use Rattle.follow_talk.proofs.mirror.Mirror.tell_pending.Goals as goal

pub invariant_of-self-in-Ok : goal.invariant_of-self-in-Ok
invariant_of-self-in-Ok c =
    let here = c.args.self.now in
    let was : here.pending ≡ Some c.in-Some.row = cc (c.take.ensures.value, c.in-Some.is) in
    record {
      in_step = subst (λ (p : Option TextRow). ∥ IsInStep c.tell_row.new.tracked p here.shown ∥₁) (sym c.take.ensures.after)
          (in_step_told here.tracked c.tell_row.new.tracked c.in-Some.row here.shown c.in-Ok.ensures.told
          (subst (λ (p : Option TextRow). ∥ IsInStep here.tracked p here.shown ∥₁) was here.in_step));
    }

pub returns-in-Ok-clause-known : goal.returns-in-Ok-clause-known
returns-in-Ok-clause-known c = told_known c.args.self.now.tracked c.tell_row.new.tracked c.in-Some.row c.in-Ok.ensures.told
