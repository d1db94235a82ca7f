-- Keys and their bits, `specs/PackedKey.antt`.
use Rattle.std.proofs.Common.{◌≡◌, ℕ, ◌+◌, ◌-◌, ◌*◌, ◌/◌, ◌%◌, ◌<◌, true, false, ◌&&◌, ◌||◌, ◌==◌, refl, ap, sym, subst, ◌∙◌, arith, if◌then◌else◌}
use Rattle.std.specs.Cmp.{both_ways}
use Rattle.std.specs.Prelude.{nat_lt, nat_le}
use Rattle.std.proofs.lemmas.Bool.{and_parts, eqb-true, eq-eqb}
use Rattle.std.proofs.lemmas.Bool.Decides.{nat_tests}
use Rattle.std.proofs.lemmas.Nat.{div-mul-add, mod-mul-add}
use Rattle.element_name.specs.declared.limits.TheConstants.{MAX_STAMP}
use Rattle.element_name.specs.Name.{is_in_range}
use Rattle.policy_book.specs.Lists.{is_short}
use Rattle.edit_message.specs.declared.message.Key.{Key}
use Rattle.edit_message.specs.declared.message.Key.TheVariants as keys
use Rattle.edit_message.specs.Message.{key_eq}
use Rattle.element_name.proofs.NameOrder.{name_eq-refl, same_name}
use Rattle.peer_tables.specs.Items.{packed_eq}
use Rattle.peer_tables.specs.PackedKey.{bits_of_key, key_of_bits, is_packable}

-- a key that can be packed is that of its bits
unpacked : (key : Key) → is_packable key ≡ true → key_of_bits (bits_of_key key) ≡ key
unpacked (keys.Admin v) h =
    let t : (nat_lt 0 (v + 1) && nat_lt (v + 1) 65536) ≡ true = grind (arith, nat_tests, h) in
    let back : v + 1 - 1 ≡ v = omega arith in
    ap (λ b. if b then keys.Admin (v + 1 - 1) else keys.Coop (record { stamp = (v + 1) / 65536; site = (v + 1) % 65536 })) t ∙ ap keys.Admin back
unpacked (keys.Coop n) h =
    let parts = and_parts (is_in_range n.stamp n.site) (is_short n.site) h in
    let low : n.site < 65536 = grind (arith, nat_tests, parts.1) in
    let alone = (and_parts (nat_le n.stamp MAX_STAMP) (nat_lt 0 n.stamp || (n.site == 0)) parts.0).1 in
    let c : ℕ = n.stamp * 65536 + n.site in
    let f : (nat_lt 0 c && nat_lt c 65536) ≡ false = grind (arith, nat_tests, alone) in
    ap (λ b. if b then keys.Admin (c - 1) else keys.Coop (record { stamp = c / 65536; site = c % 65536 })) f
    ∙ (λ i. keys.Coop (record { stamp = div-mul-add n.stamp 65536 n.site low i; site = mod-mul-add n.stamp 65536 n.site low i }))

-- ---- what packed keys are compared by

-- a key compares equal to itself
pub own_key : (a : Key) → key_eq a a ≡ true
own_key (keys.Coop n) = name_eq-refl n
own_key (keys.Admin v) = eq-eqb v v refl

-- keys that compare equal are one
pub same_key : (a b : Key) → key_eq a b ≡ true → a ≡ b
same_key (keys.Coop a) (keys.Coop b) h = ap keys.Coop (same_name a b h)
same_key (keys.Admin a) (keys.Admin b) h = ap keys.Admin (eqb-true a b h)
same_key (keys.Coop a) (keys.Admin b) h = absurd (cc)
same_key (keys.Admin a) (keys.Coop b) h = absurd (cc)

-- packed keys compare as the keys do
pub same_test : (a b : Key) → is_packable a ≡ true → is_packable b ≡ true → packed_eq a b ≡ key_eq b a
same_test a b there here = both_ways (packed_eq a b) (key_eq b a)
    (λ e. subst (λ (k : Key). key_eq k a ≡ true) (sym (unpacked a there) ∙ ap key_of_bits (eqb-true (bits_of_key a) (bits_of_key b) e) ∙ unpacked b here) (own_key a))
    (λ e. subst (λ (k : Key). packed_eq a k ≡ true) (sym (same_key b a e)) (eq-eqb (bits_of_key a) (bits_of_key a) refl))
