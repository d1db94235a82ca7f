-- Names are totally ordered.
use Rattle.std.proofs.Common.{◌≡◌, ℕ, true, false, ◌∙◌, ap, arith}
use Rattle.std.specs.Ordering.{is_eq, is_lt}
use Rattle.std.specs.Cmp.{IsTotalOrder}
use Rattle.std.proofs.lemmas.Cmp.{then_total, on_total, nat_cmp_total}
use Rattle.std.proofs.lemmas.Bool.Decides.{nat_tests}
use Rattle.element_name.specs.Name.{Name, name_eq, name_lt}
use Rattle.element_name.specs.Named.{name_cmp}

pub name_cmp_total : IsTotalOrder name_cmp
name_cmp_total = then_total (on_total (λ (n : Name). n.stamp) nat_cmp_total) (on_total (λ (n : Name). n.site) nat_cmp_total)

pub is_eq-name_cmp : (a b : Name) → is_eq (name_cmp a b) ≡ name_eq a b
is_eq-name_cmp a b = grind (arith, nat_tests)

pub is_lt-name_cmp : (a b : Name) → is_lt (name_cmp a b) ≡ name_lt a b
is_lt-name_cmp a b = grind (arith, nat_tests)

pub name_eq-comm : (a b : Name) → name_eq a b ≡ name_eq b a
name_eq-comm a b = grind (arith, nat_tests)

pub name_eq-refl : (a : Name) → name_eq a a ≡ true
name_eq-refl a = grind (arith, nat_tests)

pub same_name : (a b : Name) → name_eq a b ≡ true → a ≡ b
same_name a b h =
    let e : a.stamp ≡ b.stamp = grind (arith, nat_tests) in
    let f : a.site ≡ b.site = grind (arith, nat_tests) in
    let stamped : ℕ → Name = λ s. record { stamp = s; site = a.site } in
    let sited : ℕ → Name = λ s. record { stamp = b.stamp; site = s } in
    ap stamped e ∙ ap sited f

pub name_lt-irrefl : (a : Name) → name_lt a a ≡ false
name_lt-irrefl a = grind (arith, nat_tests)

pub name_lt-apart : (a b : Name) → name_lt a b ≡ true → name_eq a b ≡ false
name_lt-apart a b h = grind (arith, nat_tests)

pub name_lt-asym : (a b : Name) → name_lt a b ≡ true → name_lt b a ≡ false
name_lt-asym a b h = grind (arith, nat_tests)

pub name_lt-trans : (a b c : Name) → name_lt a b ≡ true → name_lt b c ≡ true → name_lt a c ≡ true
name_lt-trans a b c h k = grind (arith, nat_tests)

-- neither less nor the same: greater
pub name_gt : (a b : Name) → name_lt a b ≡ false → name_eq a b ≡ false → name_lt b a ≡ true
name_gt a b h k = grind (arith, nat_tests)
