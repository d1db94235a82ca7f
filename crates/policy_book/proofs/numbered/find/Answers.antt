use Rattle.std.proofs.Common.{◌∙◌, sym, rules}
use Rattle.std.proofs.lemmas.List.Sorted.{answers_always}
use Rattle.policy_book.proofs.Halves.{lent, found_at, found_nowhere}
use Rattle.policy_book.proofs.numbered.find.Goals as goal

pub returns-in-Ok : goal.returns-in-Ok
returns-in-Ok g c =
    let equal = c.in-Ok.ensures.position g.T.Numbered.number_of (answers_always _ _ _ (λ f a r h called. search rules)) in
    lent c.args.items.now c.in-Ok.place c.get.result c.in-Ok.ensures.bound c.get.ensures.lookup
    ∙ found_at g.T.Numbered.number_of c.args.number c.args.items.now c.in-Ok.place c.requires c.in-Ok.ensures.bound equal

pub returns-in-Err : goal.returns-in-Err
returns-in-Err g c =
    sym (found_nowhere g.T.Numbered.number_of c.args.number c.args.items.now _ c.requires
    (c.in-Err.ensures.position g.T.Numbered.number_of (answers_always _ _ _ (λ f a r h called. search rules))))
