-- Numbers and names, as words.
use Rattle.std.specs.Prelude.{ℕ, ◌+◌, ◌-◌, take, drop, position, Bool, not, ◌&&◌, ◌||◌, List, map, Option, ◌==◌, nat_lt, nat_le, length, slice_index}
use Rattle.std.specs.List.{list_all}
use Rattle.std.specs.Char.{is_ascii_digit}
use Rattle.std.specs.Int.Digits.{number_from_digits}
use Rattle.element_name.specs.declared.limits.TheConstants.{MAX_STAMP}
use Rattle.element_name.specs.Cases.{when, ◌>>=◌}
use Rattle.element_name.specs.Name.{Name, is_in_range}
use Rattle.line_spelling.specs.declared.signs.TheConstants.{POINT}
use Rattle.line_read.specs.declared.numbers.TheConstants.{ZERO_DIGIT, MAX_SHORT, MAX_WIDE}
use Rattle.line_read.specs.Words.{one_word, two_words}

-- digits, at least one, with no leading zero but that of `0`
abbrev pub is_numeral : List ℕ → Bool
is_numeral word = (nat_lt 0 (length word) && list_all is_ascii_digit word) && (length word == 1 || not (slice_index word 0 == ZERO_DIGIT))

-- what each digit stands for
abbrev pub digits_of : List ℕ → List ℕ
digits_of word = map (λ d. d - ZERO_DIGIT) word

-- a number of at most this size
unfoldable pub read_number : ℕ → List ℕ → Option ℕ
read_number limit word = do
  n ← when (is_numeral word) (number_from_digits 10 (digits_of word))
  when (nat_le n limit) n

-- U, OBJECT, PLACE, G: a number of 16 bits
abbrev pub read_short : List ℕ → Option ℕ
read_short word = read_number MAX_SHORT word

-- AT: a number of 32 bits
abbrev pub read_wide : List ℕ → Option ℕ
read_wide word = read_number MAX_WIDE word

-- NAME: a stamp, a point and a site; stamp 0 has site 0 alone
unfoldable pub read_name : List ℕ → Option Name
read_name word = do
  point ← position (λ b. b == POINT) word
  stamp ← read_number MAX_STAMP (take point word)
  site ← read_short (drop (point + 1) word)
  when (is_in_range stamp site) (record { stamp = stamp; site = site })

-- ---- arguments: one word or two, and no more

abbrev pub one_short : List (List ℕ) → Option ℕ
one_short = one_word read_short

abbrev pub two_shorts : List (List ℕ) → Option (ℕ × ℕ)
two_shorts = two_words read_short read_short

abbrev pub one_wide : List (List ℕ) → Option ℕ
one_wide = one_word read_wide

abbrev pub one_name : List (List ℕ) → Option Name
one_name = one_word read_name

abbrev pub two_names : List (List ℕ) → Option (Name × Name)
two_names = two_words read_name read_name
