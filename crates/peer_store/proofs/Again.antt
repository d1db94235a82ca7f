-- What is spelled as a body is read from it.
use Rattle.std.proofs.Common.{◌≡◌, ℕ, ◌<◌, ◌^◌, Bool, List, ◌∷◌, ◌++◌, length, Some, refl, ap, ◌∙◌, eq-eqb}
use Rattle.std.specs.Prelude.{IsTrue, option_map}
use Rattle.std.specs.Int.{w32, to_be_bytes, from_be_bytes}
use Rattle.std.proofs.lemmas.Nat.{from_be_bytes-to_be_bytes_4}
use Rattle.element_name.specs.Cases.{when, given}
use Rattle.coop_request.specs.Piece.{is_piece}
use Rattle.edit_message.specs.declared.message.Message.{Message}
use Rattle.edit_message.specs.Formed.{is_message}
use Rattle.edit_frame.specs.declared.frame.Frame.TheVariants.{Item}
use Rattle.edit_frame.specs.Spelling.{spelling}
use Rattle.edit_frame.specs.Reading.{message_of_frame, framed_message}
use Rattle.edit_frame.proofs.Frames.{decoded_again}
use Rattle.peer_step.specs.declared.step.LocalEdit.TheVariants.{Insert, Delete, Update}
use Rattle.peer_step.specs.declared.step.Step.{Step}
use Rattle.peer_step.specs.declared.step.Step.TheVariants.{Edit, Administer, Receive, Settle, ValidateNext, Look, Show}
use Rattle.peer_store.specs.Body.{IsBody, made_entry}
use Rattle.peer_store.specs.Reading.{whole_place, placed_piece_in, operation_of_entry, receive_by, step_in_body}

placed_again : (at : ℕ) (piece : List ℕ) → at < 2 ^ 32 → IsTrue (is_piece piece) → placed_piece_in (to_be_bytes w32 at ++ length piece ∷ piece) ≡ Some (at, piece)
placed_again at piece small is =
    ap (λ (b : Bool). given b (when (is_piece piece) (from_be_bytes w32 (to_be_bytes w32 at), piece))) (eq-eqb (length piece) (length piece) refl)
    ∙ ap (λ (b : Bool). when b (from_be_bytes w32 (to_be_bytes w32 at), piece)) is
    ∙ ap (λ (n : ℕ). Some (n, piece)) (from_be_bytes-to_be_bytes_4 at small)

place_again : (at : ℕ) → at < 2 ^ 32 → whole_place (to_be_bytes w32 at) ≡ Some at
place_again at small = ap (λ (n : ℕ). Some n) (from_be_bytes-to_be_bytes_4 at small)

message_again : (m : Message) → IsTrue (is_message m) → framed_message (spelling (Item m)) ≡ Some m
message_again m formed = ap message_of_frame (decoded_again (spelling (Item m)) (Item m) (record { spelled = refl; formed = formed }))

pub read_again : (version : ℕ) (step : Step) (bytes : List ℕ) → IsBody version step bytes → step_in_body version bytes ≡ Some step
read_again version (Edit (Insert at piece)) bytes is =
    ap (step_in_body version) is.spelled ∙ ap (option_map (λ x. Edit (Insert x.0 x.1))) (placed_again at piece is.has.0 is.has.1)
read_again version (Edit (Delete at)) bytes is =
    ap (step_in_body version) is.spelled ∙ ap (option_map (λ n. Edit (Delete n))) (place_again at is.has)
read_again version (Edit (Update at piece)) bytes is =
    ap (step_in_body version) is.spelled ∙ ap (option_map (λ x. Edit (Update x.0 x.1))) (placed_again at piece is.has.0 is.has.1)
read_again version (Administer op) bytes is =
    ap (step_in_body version) is.spelled
    ∙ ap (operation_of_entry version) (message_again (made_entry version op) is.has)
    ∙ ap (λ (b : Bool). when b (Administer op)) (eq-eqb version version refl)
read_again version (Receive m) bytes is = ap (step_in_body version) is.spelled ∙ ap receive_by (message_again m is.has)
read_again version Settle bytes is = ap (step_in_body version) is.spelled
read_again version ValidateNext bytes is = ap (step_in_body version) is.spelled
read_again version (Look from) bytes is = absurd is.has
read_again version Show bytes is = absurd is.has
