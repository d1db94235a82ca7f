-- The test of UTF-8, from what it decides.
use Rattle.std.proofs.Common.{◌≡◌, Bool, true, false, List, ℕ, sym, ◌↔◌}
use Rattle.std.specs.Str.{is_utf8, IsUtf8}
use Rattle.std.proofs.lemmas.Bool.{cases_from_iff}
use Rattle.std.proofs.lemmas.Str.{is_utf8-from_IsUtf8}
use Rattle.coop_request.proofs.PieceRow.{not_text}

pub is_utf8-from_iff : (b : Bool) (bytes : List ℕ) → ((b ≡ true) ↔ IsUtf8 bytes) → b ≡ is_utf8 bytes
is_utf8-from_iff true bytes h = sym (is_utf8-from_IsUtf8 bytes (cases_from_iff h))
is_utf8-from_iff false bytes h = not_text bytes (cases_from_iff h)
