use Rattle.std.proofs.Common.{◌≡◌, sym, ◌∙◌, subst, ap, IfOk}
use Rattle.logbook.specs.Pages.{Book}
use Rattle.left_right.specs.Sides.{view}
use Rattle.screen_read.specs.Ends.{BoardPages}
use Rattle.screen_read.specs.Rule.{IsSeenOf}
use Rattle.screen_read.proofs.Growing.{same_begins}
use Rattle.screen_read.proofs.writer.open.Goals as goal

pub invariant_of-reader : goal.invariant_of-reader
invariant_of-reader g c =
    let three : BoardPages = c.in_ok-three-inside.field-0 in
    let known : BoardPages = c.in_ok-known.known in
    let same : three ≡ known = c.in_ok-three-inside.ensures ∙ sym c.in_ok-known.ensures in
    let book : Book = c.drop-3.inside.part.book in
    let board : book ≡ known.table = ap (λ (s : BoardPages). s.table) (c.drop-3.view_is ∙ same) in
    let seen : IsSeenOf book (view c.in-Ok.taker.place) = subst (λ r. IfOk r (λ t. IsSeenOf book (view t.place))) c.in-Ok.is c.begin-shower.ensures.taker in
    (subst (λ (b : Book). IsSeenOf b (view c.in-Ok.taker.place)) board seen, same_begins c.of.result.value known c.of.ensures, tt)
