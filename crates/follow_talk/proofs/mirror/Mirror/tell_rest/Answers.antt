use Rattle.std.proofs.Common.{List, ℕ, sym, subst}
use Rattle.std.specs.List.{concat}
use Rattle.std.proofs.lemmas.Grind.{merely}
use Rattle.follow_text.specs.Rows.{IsDifference}
use Rattle.follow_talk.proofs.Mirrored.{step_rest}
use Rattle.follow_talk.proofs.mirror.Mirror.tell_rest.Goals as goal

pub invariant_of-self-2 : goal.invariant_of-self-2
invariant_of-self-2 c =
    let shown = c.tell_pending.new.self.shown in
    let found = c.in_ok-self.field-0 in
    record {
      in_step = merely
          (step_rest c.wrote.new.self found shown
          (subst (λ (told : List ℕ). IsDifference told (concat shown) found) (sym c.in_ok-self.ensures.told)
          (subst (λ (text : List ℕ). IsDifference c.wrote.new.self.bytes.items text found) c.bytes.ensures c.in_ok-self.ensures.row)));
    }
