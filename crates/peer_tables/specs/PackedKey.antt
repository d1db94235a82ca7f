-- Keys in eight bytes.
use Rattle.std.specs.Prelude.{◌≡◌, ℕ, ◌+◌, ◌-◌, ◌*◌, ◌/◌, ◌%◌, Bool, true, false, ◌&&◌, nat_lt, if◌then◌else◌}
use Rattle.std.proofs.Common.{refl, arith}
use Rattle.std.proofs.lemmas.Bool.Decides.{nat_tests}
use Rattle.std.proofs.lemmas.Nat.{div-add-mod'}
use Rattle.policy_book.specs.Lists.{is_name}
use Rattle.edit_message.specs.declared.message.Key.{Key}
use Rattle.edit_message.specs.declared.message.Key.TheVariants as keys

-- a name's stamp and site, side by side; an entry's version among the numbers that are no name's
abbrev pub bits_of_key : Key → ℕ
bits_of_key (keys.Coop n) = n.stamp * 65536 + n.site
bits_of_key (keys.Admin v) = v + 1

-- the key of these bits
abbrev pub key_of_bits : ℕ → Key
key_of_bits b = if nat_lt 0 b && nat_lt b 65536 then keys.Admin (b - 1) else keys.Coop (record { stamp = b / 65536; site = b % 65536 })

-- a name can be packed, and each of the first 65,535 versions
abbrev pub is_packable : Key → Bool
is_packable (keys.Coop n) = is_name n
is_packable (keys.Admin v) = nat_lt v 65535

-- bits are those of their key
pub bits_again : (b : ℕ) → bits_of_key (key_of_bits b) ≡ b
bits_again b = by (nat_lt 0 b && nat_lt b 65536) refl
  where
    by : (t : Bool) → (nat_lt 0 b && nat_lt b 65536) ≡ t
        → bits_of_key (if t then keys.Admin (b - 1) else keys.Coop (record { stamp = b / 65536; site = b % 65536 })) ≡ b
    by true h = grind (arith, nat_tests, h)
    by false h = div-add-mod' b 65536
