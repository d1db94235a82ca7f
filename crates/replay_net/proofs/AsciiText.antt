-- ASCII bytes are text.
use Rattle.std.proofs.Common.{◌≡◌, ℕ, ◌<◌, zero, suc, true, List, [], ◌∷◌, get_or, arith}
use Rattle.std.specs.Prelude.{nat_lt}
use Rattle.std.specs.List.{list_all}
use Rattle.std.specs.Str.{is_utf8}
use Rattle.std.proofs.lemmas.Bool.{and_parts, ltb-true}
use Rattle.std.proofs.lemmas.Str.{IsUtf8-from_ascii, is_utf8-from_IsUtf8}

each_low : (bytes : List ℕ) → list_all (λ b. nat_lt b 128) bytes ≡ true → (i : ℕ) → get_or bytes i 0 < 128
each_low [] h i = omega arith
each_low (b ∷ bytes) h zero = ltb-true b 128 (and_parts (nat_lt b 128) (list_all (λ c. nat_lt c 128) bytes) h).0
each_low (b ∷ bytes) h (suc i) = each_low bytes (and_parts (nat_lt b 128) (list_all (λ c. nat_lt c 128) bytes) h).1 i

-- bytes below 128 are text
pub ascii_is_text : (bytes : List ℕ) → list_all (λ b. nat_lt b 128) bytes ≡ true → is_utf8 bytes ≡ true
ascii_is_text bytes h = is_utf8-from_IsUtf8 bytes (IsUtf8-from_ascii bytes (each_low bytes h))
