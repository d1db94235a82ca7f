use Rattle.std.proofs.Common.{List, ℕ, ◌++◌, ap, refl, ◌∙◌}
use Rattle.follow_text.proofs.Joining.{front_join}
use Rattle.follow_text.proofs.text_row.TextRow.join_front.Goals as goal

pub returns-clause-joined : goal.returns-clause-joined
returns-clause-joined c old mid new first next =
    let here = c.args.self.now in
    let other = c.args.next.now in
    front_join old mid new here other first next c.requires.end _ refl refl
    (c.in_ok-extend_from_slice.ensures.items
    ∙ ap (λ (p : List ℕ). p ++ c.deref-2.result.now) (c.in_ok-put.ensures.items ∙ c.deref.ensures.value)
    ∙ ap (λ (q : List ℕ). other.put.items ++ q) c.deref-2.ensures.value)
    refl c.saturating_add-self.ensures c.requires.room
