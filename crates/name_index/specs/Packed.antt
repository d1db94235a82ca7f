-- Names in eight bytes: the stamp above the 16 bits of the site.
use Rattle.std.specs.Prelude.{◌≡◌, ℕ, ◌+◌, ◌*◌, ◌/◌, ◌%◌}
use Rattle.std.proofs.Common.{refl, sym, ap}
use Rattle.std.specs.Cmp.{IsEquivalence, IsPartialEquivalence, IsPartialOrder, partial_equiv_from_equiv, partial_order_from_agreeing_total}
use Rattle.std.specs.Ordering.{is_eq, as_partial_cmp}
use Rattle.std.proofs.lemmas.Nat.{div-add-mod'}
use Rattle.element_name.specs.Name.{Name, name_eq}
use Rattle.element_name.specs.Named.{name_cmp}
use Rattle.element_name.proofs.NameOrder.{name_cmp_total, is_eq-name_cmp, name_eq-refl, name_eq-comm, same_name}

abbrev pub unpacked : ℕ → Name
unpacked bits = record { stamp = bits / 65536; site = bits % 65536 }

abbrev pub packed : Name → ℕ
packed n = n.stamp * 65536 + n.site

pub packed_again : (bits : ℕ) → packed (unpacked bits) ≡ bits
packed_again bits = div-add-mod' bits 65536

-- ---- the laws of their order, which is that of names

pub eq_matches : (x y : Name) → name_eq x y ≡ is_eq (name_cmp x y)
eq_matches x y = sym (is_eq-name_cmp x y)

pub name_eq_equiv : IsEquivalence name_eq
name_eq_equiv = record {
  refl = name_eq-refl;
  symm = name_eq-comm;
  congr = λ x y z e. ap (λ (n : Name). name_eq n z) (same_name x y e);
}

pub name_eq_per : IsPartialEquivalence name_eq
name_eq_per = partial_equiv_from_equiv name_eq_equiv

pub name_partial_order : IsPartialOrder name_eq (as_partial_cmp name_cmp)
name_partial_order = partial_order_from_agreeing_total name_cmp name_cmp_total (λ x y. refl) eq_matches
