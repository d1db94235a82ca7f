use Rattle.std.proofs.Common.{◌≡◌, Some, ◌∙◌, ap, ℕ, List}
use Rattle.std.specs.Prelude.{slice_get}
use Rattle.elem_show.proofs.Letters.{past_end, at_place}
use Rattle.elem_show.proofs.counts.letter_at.Goals as goal

pub returns-in-None : goal.returns-in-None
returns-in-None c =
    past_end _ _ _ c.in-None.ensures.ran.0 c.args.i c.iter.ensures.rest c.in-None.ensures.ran.1.1 c.in-None.ensures.ran.1.2.0 c.in-None.ensures.ran.2

pub returns-in-Some : goal.returns-in-Some
returns-in-Some c =
    let here : Some (c.in-Some.name.now, c.in-Some.piece.now) ≡ slice_get c.args.letters.now.entries c.args.i =
    at_place _ _ _ _ c.in-Some.ensures.ran.0 c.args.i (c.in-Some.name.now, c.in-Some.piece.now) c.iter.ensures.rest c.in-Some.ensures.ran.1.1 c.in-Some.ensures.ran.1.2 c.in-Some.ensures.ran.2 in
    ap (λ (v : List ℕ). Some (c.in-Some.name.now, v)) c.piece.ensures ∙ here
