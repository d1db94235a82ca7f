-- Pieces of one scalar value.
use Rattle.std.proofs.Common.{◌≡◌, ℕ, false, ◌&&◌, List, [], ◌∷◌, ◌++◌, length, Some, None, refl, sym, ap, ◌∙◌, arith}
use Rattle.std.specs.Prelude.{slice_index, nat_lt, nat_le, IsTrue}
use Rattle.std.specs.Str.{chars, IsUtf8, is_utf8}
use Rattle.std.proofs.lemmas.Str.{chars_past_char, chars-nil, IsUtf8-past_char, IsUtf8-from_is_utf8}
use Rattle.std.proofs.lemmas.Bool.{and_parts}
use Rattle.std.proofs.lemmas.List.{nil_from_length}
use Rattle.element_name.specs.Cases.{when}
use Rattle.coop_request.specs.Piece.{is_piece}
use Rattle.edit_frame.specs.Spelling.{is_one_char}
use lib.Utf8.{encode}

pub only_one : (bs piece rest : List ℕ) (c : ℕ) → IsUtf8 piece → bs ≡ piece → bs ≡ encode c ++ rest → length rest ≡ 0 → Some c ≡ when (is_one_char piece) (slice_index (chars piece) 0)
only_one bs piece rest c u same e none =
    let split : piece ≡ encode c ++ rest = sym same ∙ e in
    let nothing : rest ≡ [] = nil_from_length rest none in
    let one : chars piece ≡ c ∷ [] = chars_past_char piece rest c u split ∙ ap (λ (r : List ℕ). c ∷ chars r) nothing ∙ ap (λ (r : List ℕ). c ∷ r) chars-nil in
    rw one refl

pub not_one : (bs piece rest more : List ℕ) (c d : ℕ) → IsUtf8 piece → bs ≡ piece → bs ≡ encode c ++ rest → rest ≡ encode d ++ more → None ≡ when (is_one_char piece) (slice_index (chars piece) 0)
not_one bs piece rest more c d u same e e2 =
    let split : piece ≡ encode c ++ rest = sym same ∙ e in
    let u2 : IsUtf8 rest = IsUtf8-past_char piece rest c u split in
    let two : chars piece ≡ c ∷ d ∷ chars more = chars_past_char piece rest c u split ∙ ap (λ (r : List ℕ). c ∷ r) (chars_past_char rest more d u2 e2) in
    let more_than_one : is_one_char piece ≡ false = rw two (grind arith) in
    rw more_than_one refl

pub not_empty : (bs piece : List ℕ) → IsTrue (is_piece piece) → bs ≡ piece → length bs ≡ 0 → None ≡ when (is_one_char piece) (slice_index (chars piece) 0)
not_empty bs piece h same none =
    let nothing : piece ≡ [] = nil_from_length piece (ap length (sym same) ∙ none) in
    rw (nothing, chars-nil) refl

pub piece_utf8 : (piece : List ℕ) → IsTrue (is_piece piece) → IsUtf8 piece
piece_utf8 piece h = IsUtf8-from_is_utf8 piece (and_parts (nat_lt 0 (length piece) && nat_le (length piece) 255) (is_utf8 piece) h).1
