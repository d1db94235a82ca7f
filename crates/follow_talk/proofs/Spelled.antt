-- Texts are read back from their spellings.
use Rattle.std.proofs.Common.{◌≡◌, ℕ, Bool, true, false, List, [], ◌∷◌, ◌++◌, Some, refl, subst, arith}
use Rattle.std.specs.Prelude.{◌==◌}
use Rattle.std.proofs.lemmas.Bool.Decides.{nat_tests}
use Rattle.line_spelling.specs.declared.signs.TheConstants.{LINE_END, BACKSLASH}
use Rattle.line_spelling.specs.Values.{text_byte, text_text}
use Rattle.follow_talk.specs.InputRows.{spelled_bytes, read_text}
use Rattle.follow_talk.specs.Laws.{TextLaw}

same_byte : (a b : ℕ) → (a == b) ≡ true → b ≡ a
same_byte a b e = grind (arith, nat_tests)

-- one more byte in front
byte_before : (b : ℕ) (rest bytes : List ℕ) → spelled_bytes false rest ≡ Some bytes → (line_end backslash : Bool) → (b == LINE_END) ≡ line_end → (b == BACKSLASH) ≡ backslash
    → spelled_bytes false (text_byte b ++ rest) ≡ Some (b ∷ bytes)
byte_before b rest bytes read true backslash is_line_end is_backslash =
    subst (λ (n : ℕ). spelled_bytes false (text_byte n ++ rest) ≡ Some (n ∷ bytes)) (same_byte b LINE_END is_line_end) (rw read refl)
byte_before b rest bytes read false true is_line_end is_backslash =
    subst (λ (n : ℕ). spelled_bytes false (text_byte n ++ rest) ≡ Some (n ∷ bytes)) (same_byte b BACKSLASH is_backslash) (rw read refl)
byte_before b rest bytes read false false is_line_end is_backslash = rw (is_line_end, is_backslash, is_backslash, read) refl

spelled_text : (bytes : List ℕ) → spelled_bytes false (text_text bytes) ≡ Some bytes
spelled_text [] = refl
spelled_text (b ∷ bytes) = byte_before b (text_text bytes) bytes (spelled_text bytes) (b == LINE_END) (b == BACKSLASH) refl refl

pub text_law : TextLaw
unfolding read_text
text_law text is = rw (is, spelled_text text) refl
