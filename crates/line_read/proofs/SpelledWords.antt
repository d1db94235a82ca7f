-- Pieces, numbers and names are read back from their spellings.
use Rattle.std.proofs.Common.{◌≡◌, ℕ, zero, suc, ◌+◌, ◌-◌, ◌/◌, ◌%◌, ◌<◌, ◌≤◌, ◌^◌, Bool, true, false, not, ◌||◌, List, [], ◌∷◌, ◌++◌, drop, length, Some, refl, subst, arith}
use Rattle.std.specs.Prelude.{◌==◌, nat_lt, nat_le, decimal, position, slice_index}
use Rattle.std.specs.List.{list_all, position_or_len}
use Rattle.std.specs.Char.{is_ascii_digit}
use Rattle.std.specs.Int.Digits.{number_from_digits}
use Rattle.std.proofs.lemmas.Fmt.{decimal_by_steps, decimal_digit, decimal_nonempty, first_decimal}
use Rattle.std.proofs.lemmas.Int.Digits.{number_push}
use Rattle.std.proofs.lemmas.List.Folds.{list_all-append}
use Rattle.std.proofs.Math.Seq.{take-append_seam, drop-append-add}
use Rattle.std.proofs.lemmas.List.{length-append, map-append}
use Rattle.std.proofs.lemmas.Bool.{and_parts, leb-true, ltb-true}
use Rattle.std.proofs.lemmas.Bool.Decides.{nat_tests}
use Rattle.element_name.specs.declared.limits.TheConstants.{MAX_STAMP}
use Rattle.element_name.specs.Name.{Name, is_in_range}
use Rattle.policy_book.specs.Lists.{is_short, is_name}
use Rattle.coop_request.specs.Piece.{is_piece}
use Rattle.line_spelling.specs.declared.signs.TheConstants.{LINE_END, SPACE, POINT, BACKSLASH}
use Rattle.line_spelling.specs.Values.{piece_byte, piece_text, name_text}
use Rattle.line_read.specs.declared.numbers.TheConstants.{ZERO_DIGIT, MAX_SHORT}
use Rattle.line_read.specs.Numbers.{is_numeral, digits_of, read_number, read_name}
use Rattle.line_read.specs.Pieces.{unescaped_bytes, read_piece}

same_number : (a b : ℕ) → (a == b) ≡ true → b ≡ a
same_number a b e = grind (arith, nat_tests)

-- one more byte in front
unescaped_bytes-byte : (b : ℕ) (rest bytes : List ℕ) → unescaped_bytes false rest ≡ Some bytes → (space line_end backslash : Bool)
    → (b == SPACE) ≡ space → (b == LINE_END) ≡ line_end → (b == BACKSLASH) ≡ backslash → unescaped_bytes false (piece_byte b ++ rest) ≡ Some (b ∷ bytes)
unescaped_bytes-byte b rest bytes read true line_end backslash is_space is_line_end is_backslash =
    subst (λ (n : ℕ). unescaped_bytes false (piece_byte n ++ rest) ≡ Some (n ∷ bytes)) (same_number b SPACE is_space) (rw read refl)
unescaped_bytes-byte b rest bytes read false true backslash is_space is_line_end is_backslash =
    subst (λ (n : ℕ). unescaped_bytes false (piece_byte n ++ rest) ≡ Some (n ∷ bytes)) (same_number b LINE_END is_line_end) (rw read refl)
unescaped_bytes-byte b rest bytes read false false true is_space is_line_end is_backslash =
    subst (λ (n : ℕ). unescaped_bytes false (piece_byte n ++ rest) ≡ Some (n ∷ bytes)) (same_number b BACKSLASH is_backslash) (rw read refl)
unescaped_bytes-byte b rest bytes read false false false is_space is_line_end is_backslash =
    rw (is_space, is_line_end, is_backslash, is_backslash, read) refl

pub unescaped_bytes-piece_text : (bytes : List ℕ) → unescaped_bytes false (piece_text bytes) ≡ Some bytes
unescaped_bytes-piece_text [] = refl
unescaped_bytes-piece_text (b ∷ bytes) = unescaped_bytes-byte b (piece_text bytes) bytes (unescaped_bytes-piece_text bytes) (b == SPACE) (b == LINE_END) (b == BACKSLASH) refl refl refl

pub read_piece-piece_text : (piece : List ℕ) → is_piece piece ≡ true → read_piece (piece_text piece) ≡ Some piece
unfolding read_piece
read_piece-piece_text piece is = rw (unescaped_bytes-piece_text piece, is) refl

-- ---- numbers

-- digits that spell a number
record Spells (n : ℕ) (ds : List ℕ) : Type 0 where
  all : list_all is_ascii_digit ds ≡ true
  value : number_from_digits 10 (digits_of ds) ≡ n

digit : (n : ℕ) → n < 10 → is_ascii_digit (48 + n) ≡ true
digit n small = grind (arith, nat_tests)

one_digit : (n : ℕ) → n < 10 → Spells n ((48 + n) ∷ [])
one_digit n small = record {
  all = rw (digit n small) refl;
  value = omega arith;
}

more_digits : (n : ℕ) (ds : List ℕ) → 10 ≤ n → Spells (n / 10) ds → Spells n (ds ++ ((48 + n % 10) ∷ []))
more_digits n ds large spells = record {
  all = rw (list_all-append is_ascii_digit ds ((48 + n % 10) ∷ []), spells.all, digit (n % 10) (omega arith)) refl;
  value =
      rw (map-append (λ d. d - 48) ds ((48 + n % 10) ∷ []), number_push 10 (digits_of ds) (48 + n % 10 - 48), spells.value) (omega arith);
}

spelled : (n : ℕ) → n < 2 ^ 64 → Spells n (decimal n)
spelled n small = decimal_by_steps Spells one_digit more_digits n small

no_leading_zero : (n : ℕ) → n < 2 ^ 64 → (length (decimal n) == 1 || not (slice_index (decimal n) 0 == ZERO_DIGIT)) ≡ true
no_leading_zero zero small = rw (decimal_digit 0 (omega arith)) refl
no_leading_zero (suc n) small =
    let first = first_decimal (suc n) (omega arith) small in
    let other : (slice_index (decimal (suc n)) 0 == ZERO_DIGIT) ≡ false = grind (arith, nat_tests, first) in
    rw other (grind (arith, nat_tests))

is_numeral-decimal : (n : ℕ) → n < 2 ^ 64 → is_numeral (decimal n) ≡ true
is_numeral-decimal n small =
    let some : nat_lt 0 (length (decimal n)) ≡ true = grind (arith, nat_tests, decimal_nonempty n small) in
    rw (some, (spelled n small).all, no_leading_zero n small) refl

pub read_number-decimal : (limit n : ℕ) → n ≤ limit → n < 2 ^ 64 → read_number limit (decimal n) ≡ Some n
unfolding read_number
read_number-decimal limit n within small =
    let below : nat_le n limit ≡ true = grind (arith, nat_tests) in
    rw (is_numeral-decimal n small, (spelled n small).value, below) refl

-- ---- names

-- the first point is the one behind the digits
digits_first : (ds rest : List ℕ) → list_all is_ascii_digit ds ≡ true → position_or_len (λ b. b == POINT) (ds ++ (POINT ∷ rest)) ≡ length ds
digits_first [] rest all = refl
digits_first (d ∷ ds) rest all =
    let parts = and_parts (is_ascii_digit d) (list_all is_ascii_digit ds) all in
    let other : (d == POINT) ≡ false = grind (arith, nat_tests, parts.0) in
    rw (other, digits_first ds rest parts.1) (omega arith)

-- so it stands there
point_behind : (ds rest : List ℕ) → list_all is_ascii_digit ds ≡ true → position (λ b. b == POINT) (ds ++ (POINT ∷ rest)) ≡ Some (length ds)
point_behind ds rest all =
    let within : nat_lt (length ds) (length (ds ++ (POINT ∷ rest))) ≡ true = simp length-append (grind (arith, nat_tests)) in
    rw (digits_first ds rest all, within) refl

-- what stands behind it
behind_point : (ds rest : List ℕ) → drop (length ds + 1) (ds ++ (POINT ∷ rest)) ≡ rest
behind_point ds rest = drop-append-add ds (POINT ∷ rest) 1

pub read_name-name_text : (n : Name) → is_name n ≡ true → read_name (name_text n) ≡ Some n
unfolding read_name
read_name-name_text n is =
    let parts = and_parts (is_in_range n.stamp n.site) (is_short n.site) is in
    let range = and_parts (nat_le n.stamp MAX_STAMP) (nat_lt 0 n.stamp || (n.site == 0)) parts.0 in
    let stamp_low : n.stamp ≤ MAX_STAMP = leb-true n.stamp MAX_STAMP range.0 in
    let site_low : n.site < 2 ^ 16 = ltb-true n.site (2 ^ 16) parts.1 in
    let stamp : read_number MAX_STAMP (decimal n.stamp) ≡ Some n.stamp = read_number-decimal MAX_STAMP n.stamp stamp_low (omega arith) in
    let site : read_number MAX_SHORT (decimal n.site) ≡ Some n.site = read_number-decimal MAX_SHORT n.site (omega arith) (omega arith) in
    rw (
      point_behind (decimal n.stamp) (decimal n.site) (spelled n.stamp (omega arith)).all,
      take-append_seam (decimal n.stamp) (POINT ∷ decimal n.site),
      stamp,
      behind_point (decimal n.stamp) (decimal n.site),
      site,
      parts.0,
    )
    refl
