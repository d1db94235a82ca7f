-- How long bodies are.
use Rattle.std.proofs.Common.{◌≡◌, ℕ, ◌≤◌, true, List, ◌∷◌, length, ap, arith, length-append, leb-true}
use Rattle.std.specs.Prelude.{IsTrue, ◌&&◌, nat_lt, nat_le}
use Rattle.std.specs.Int.{w32, to_be_bytes}
use Rattle.std.specs.Str.{is_utf8}
use Rattle.std.proofs.lemmas.Bool.{and_parts}
use Rattle.coop_request.specs.Piece.{is_piece}
use Rattle.edit_frame.specs.declared.frame.Frame.{Frame}
use Rattle.edit_frame.specs.declared.frame.Frame.TheVariants.{Item}
use Rattle.edit_frame.specs.Spelling.{body, spelling}
use Rattle.edit_frame.specs.Spells.{is_frame}
use Rattle.edit_frame.proofs.Lengths.{short_body}
use Rattle.peer_step.specs.declared.step.LocalEdit.TheVariants.{Insert, Delete, Update}
use Rattle.peer_step.specs.declared.step.Step.{Step}
use Rattle.peer_step.specs.declared.step.Step.TheVariants.{Edit, Administer, Receive, Settle, ValidateNext, Look, Show}
use Rattle.peer_store.specs.Body.{IsBody, made_entry}

piece_short : (piece : List ℕ) → IsTrue (is_piece piece) → length piece ≤ 255
piece_short piece is =
    let sized = (and_parts (nat_lt 0 (length piece) && nat_le (length piece) 255) (is_utf8 piece) is).0 in
    leb-true (length piece) 255 (and_parts (nat_lt 0 (length piece)) (nat_le (length piece) 255) sized).1

frame_short : (f : Frame) → is_frame f ≡ true → length (spelling f) ≤ 280
unfolding spelling
frame_short f is = omega (arith, short_body f is, length-append (to_be_bytes w32 (length (body f))) (body f))

pub body_short : (version : ℕ) (step : Step) (bytes : List ℕ) → IsBody version step bytes → length bytes ≤ 281
body_short version (Edit (Insert at piece)) bytes is =
    omega (arith, ap length is.spelled, length-append (to_be_bytes w32 at) (length piece ∷ piece), piece_short piece is.has.1)
body_short version (Edit (Delete at)) bytes is = omega (arith, ap length is.spelled)
body_short version (Edit (Update at piece)) bytes is =
    omega (arith, ap length is.spelled, length-append (to_be_bytes w32 at) (length piece ∷ piece), piece_short piece is.has.1)
body_short version (Administer op) bytes is = omega (arith, ap length is.spelled, frame_short (Item (made_entry version op)) is.has)
body_short version (Receive m) bytes is = omega (arith, ap length is.spelled, frame_short (Item m) is.has)
body_short version Settle bytes is = omega (arith, ap length is.spelled)
body_short version ValidateNext bytes is = omega (arith, ap length is.spelled)
body_short version (Look from) bytes is = absurd is.has
body_short version Show bytes is = absurd is.has
