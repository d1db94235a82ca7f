-- Letters among bytes of UTF-8.
use Rattle.std.specs.Prelude.{◌≡◌, ℕ, ◌≤◌, Bool, List, length, take, count_by, nat_lt, nat_le, ◌||◌}

-- a letter begins with this byte
abbrev pub is_lead : ℕ → Bool
is_lead byte = nat_lt byte 128 || nat_le 192 byte

-- how many letters begin in bytes
abbrev pub letter_count : List ℕ → ℕ
letter_count bytes = count_by is_lead bytes

-- so many letters begin in front of the place, which is within the bytes
pub record IsLetterPlace (bytes : List ℕ) (number at : ℕ) : Type 0 where
  pub within : at ≤ length bytes
  pub before : letter_count (take at bytes) ≡ number
