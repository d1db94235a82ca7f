-- Equality of lists of names.
use Rattle.std.proofs.Common.{◌≡◌, Bool, List, arith, nat_eq}
use Rattle.std.specs.Bool.{Decides}
use Rattle.std.specs.Ordering.{on, eq_of_both}
use Rattle.std.specs.Cmp.Lexicographic.{pointwise}
use Rattle.std.proofs.lemmas.Bool.Decides.{nat_tests}
use Rattle.std.proofs.lemmas.Slice.Eq.{slice_eq-Decides}
use Rattle.element_name.specs.Name.{Name}

abbrev pub same_name : Name → Name → Bool
same_name = eq_of_both (on (λ n. n.stamp) nat_eq) (on (λ n. n.site) nat_eq)

name_Decides : (a b : Name) → Decides (same_name a b) (a ≡ b)
name_Decides a b = (λ h. grind (arith, nat_tests, h), λ e. grind (arith, nat_tests, e))

-- the comparison of two lists name by name says whether they are equal
pub names_Decides : (xs ys : List Name) (r : Bool) → r ≡ pointwise same_name xs ys → Decides r (xs ≡ ys)
names_Decides xs ys r e = slice_eq-Decides name_Decides xs ys r e
