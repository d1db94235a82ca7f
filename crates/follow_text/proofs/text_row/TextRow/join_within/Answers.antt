use Rattle.std.proofs.Common.{List, ℕ, ◌-◌, ap, refl, ◌∙◌}
use Rattle.follow_text.specs.Rows.{replaced}
use Rattle.follow_text.proofs.Joining.{within_join}
use Rattle.follow_text.proofs.text_row.TextRow.join_within.Goals as goal

pub returns-clause-joined : goal.returns-clause-joined
returns-clause-joined c old mid new first next =
    let here = c.args.self.now in
    let other = c.args.next.now in
    within_join old mid new here other first next _ c.requires.behind c.requires.within refl refl
    (c.in_ok-put.ensures
    ∙ ap (λ (p : List ℕ). replaced p (other.at - here.at) other.out c.deref-2.result.now) c.deref.ensures.value
    ∙ ap (λ (q : List ℕ). replaced here.put.items (other.at - here.at) other.out q) c.deref-2.ensures.value)
    refl refl
