use Rattle.std.proofs.Common.{◌≡◌, ◌<◌, ◌∙◌, ◌++◌, ap, sym, arith, length, [], ◌∷◌, List, get_or, Some}
use Rattle.std.specs.Prelude.{slice_get}
use Rattle.std.proofs.lemmas.Bool.Decides.{nat_tests}
use Rattle.name_index.specs.Chunks.{flat}
use Rattle.name_index.proofs.map.first_of.Goals as goal

first_is : {A : Type 0} (cs : List (List A)) (x : List A) (e : A) → 0 < length cs → x ≡ get_or cs 0 x → slice_get x 0 ≡ Some e → slice_get (flat cs) 0 ≡ Some e
first_is [] x e l is h = absurd (omega (arith, l))
first_is {A = A} (y ∷ ys) x e l is h = by y (ap (λ z. slice_get z 0) (sym is) ∙ h)
  where
    by : (z : List A) → slice_get z 0 ≡ Some e → slice_get (z ++ flat ys) 0 ≡ Some e
    by [] h = absurd cc
    by (z ∷ zs) h = h

pub returns : goal.returns
returns g c =
    let some : 0 < length c.args.chunks.now = grind (arith, nat_tests, c.is_empty.ensures, c.if-is_empty.false) in
    sym (first_is c.args.chunks.now c.index-chunks-0.result c.first_entry.result some c.index-chunks-0.is c.first_entry.ensures)
