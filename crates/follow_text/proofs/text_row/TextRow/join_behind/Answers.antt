use Rattle.std.proofs.Common.{List, ℕ, ◌++◌, ap, refl, ◌∙◌}
use Rattle.follow_text.proofs.Joining.{behind_join, same_row, where_err}
use Rattle.follow_text.proofs.text_row.TextRow.join_behind.Goals as goal

pub returns-in_err-extend_from_slice-clause-stays : goal.returns-in_err-extend_from_slice-clause-stays
returns-in_err-extend_from_slice-clause-stays c =
    where_err c.from_residual.result (λ old new. same_row old new c.args.self.now _ refl refl c.in_err-extend_from_slice.ensures.items refl refl)

pub returns-clause-joined : goal.returns-clause-joined
returns-clause-joined c old mid new first next =
    let here = c.args.self.now in
    behind_join old mid new here c.args.next.now first next c.requires.at _ refl refl
    (c.in_ok-extend_from_slice.ensures.items ∙ ap (λ (q : List ℕ). here.put.items ++ q) c.deref.ensures.value)
    refl c.saturating_add-self.ensures c.requires.room
