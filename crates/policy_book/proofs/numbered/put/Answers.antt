use Rattle.policy_book.proofs.Ascending.{insert-put_by}
use Rattle.policy_book.proofs.numbered.put.Goals as goal

pub returns-clause-ok : goal.returns-clause-ok
returns-clause-ok g c =
    rw (c.in_ok-insert.ensures.items, c.place_for-place.ensures, c.deref.ensures.value) (insert-put_by g.T.Numbered.number_of _ _ _ c.number.ensures)
