-- Words without a backslash stand for themselves.
use Rattle.std.proofs.Common.{◌≡◌, ℕ, false, List, [], ◌∷◌, Some, refl}
use Rattle.std.specs.Prelude.{◌==◌}
use Rattle.std.specs.List.{list_any}
use Rattle.std.proofs.lemmas.Bool.{or_parts}
use Rattle.line_spelling.specs.declared.signs.TheConstants.{BACKSLASH}
use Rattle.line_read.specs.Pieces.{unescaped_bytes}

pub unescaped_bytes-plain : (word : List ℕ) → list_any (λ b. b == BACKSLASH) word ≡ false → unescaped_bytes false word ≡ Some word
unescaped_bytes-plain [] plain = refl
unescaped_bytes-plain (b ∷ bs) plain =
    let parts = or_parts (b == BACKSLASH) (list_any (λ c. c == BACKSLASH) bs) plain in
    rw (parts.0, unescaped_bytes-plain bs parts.1) refl
