-- What is read from bytes has them as its body.
use Rattle.std.proofs.Common.{◌≡◌, ◌⊎◌, inl, inr, ℕ, suc, ◌<◌, ◌^◌, Bool, true, false, cond, List, [], ◌∷◌, ◌++◌, length, Option, Some, None, refl, sym, ap, subst, ◌∙◌, arith, eqb-true}
use Rattle.std.specs.Prelude.{IsTrue, IfSome, option_map, ◌==◌, Result, Ok, Err}
use Rattle.std.specs.Int.{w32, to_be_bytes, from_be_bytes}
use Rattle.std.proofs.lemmas.Option.{same_Some, none-some}
use Rattle.element_name.specs.Cases.{when, given}
use Rattle.element_name.proofs.CaseLemmas.{when-Some}
use Rattle.coop_request.specs.Piece.{is_piece}
use Rattle.edit_message.specs.declared.message.Message.{Message}
use Rattle.edit_message.specs.declared.message.Message.TheVariants.{Coop, Admin}
use Rattle.edit_frame.specs.declared.frame.Frame.{Frame}
use Rattle.edit_frame.specs.declared.frame.Frame.TheVariants.{Item, Turn, End}
use Rattle.edit_frame.specs.declared.frame.FrameKind.{FrameKind}
use Rattle.edit_frame.specs.Spells.{IsBytes, Spells}
use Rattle.edit_frame.specs.Reading.{decoded_frame, message_of_frame, framed_message}
use Rattle.edit_frame.proofs.Frames.{decoded_spells}
use Rattle.edit_frame.proofs.Readers.{wide32}
use Rattle.peer_step.specs.declared.step.LocalEdit.TheVariants.{Insert, Delete, Update}
use Rattle.peer_step.specs.declared.step.Step.{Step}
use Rattle.peer_step.specs.declared.step.Step.TheVariants.{Edit, Administer, Receive, Settle, ValidateNext}
use Rattle.peer_store.specs.Body.{IsBody, made_entry}
use Rattle.peer_store.specs.Reading.{whole_place, placed_piece_in, insert_in, delete_in, update_in, operation_of_entry, receive_by, alone_in, step_of_kind, step_in_body}

-- the branch that gave it
chosen : {A : Type 0} (test : Bool) (x y z : A) → cond test x y ≡ z → ((test ≡ true) × (x ≡ z)) ⊎ (y ≡ z)
chosen true x y z is = inl (refl, is)
chosen false x y z is = inr is

given-Some : {A : Type 0} (test : Bool) (value : Option A) (x : A) → given test value ≡ Some x → (test ≡ true) × (value ≡ Some x)
given-Some true value x is = (refl, is)
given-Some false value x is = absurd (cc is)

mapped : {A B : Type 0} (f : A → B) (value : Option A) (y : B) → option_map f value ≡ Some y → (x : A) × (value ≡ Some x) × (f x ≡ y)
mapped f None y is = absurd (cc is)
mapped f (Some x) y is = (x, refl, same_Some _ _ is)

-- the bytes behind the first
rest_of : (byte : ℕ) (bytes : List ℕ) → IsBytes (byte ∷ bytes) → IsBytes bytes
rest_of byte bytes fits i = fits (suc i)

-- ---- fields

record IsPlace (fields : List ℕ) (at : ℕ) : Type 0 where
  bytes : fields ≡ to_be_bytes w32 at
  small : at < 2 ^ 32

four : (a b c d : ℕ) → IsBytes (a ∷ b ∷ c ∷ d ∷ []) → IsPlace (a ∷ b ∷ c ∷ d ∷ []) (from_be_bytes w32 (a ∷ b ∷ c ∷ d ∷ []))
four a b c d fits = record {
  bytes = sym (wide32.back (a ∷ b ∷ c ∷ d ∷ []) refl fits);
  small = wide32.below (a ∷ b ∷ c ∷ d ∷ []) fits;
}

place_taken : (fields : List ℕ) (at : ℕ) → IsBytes fields → whole_place fields ≡ Some at → IsPlace fields at
place_taken [] at fits is = absurd (cc is)
place_taken (a ∷ []) at fits is = absurd (cc is)
place_taken (a ∷ b ∷ []) at fits is = absurd (cc is)
place_taken (a ∷ b ∷ c ∷ []) at fits is = absurd (cc is)
place_taken (a ∷ b ∷ c ∷ d ∷ []) at fits is = subst (IsPlace (a ∷ b ∷ c ∷ d ∷ [])) (same_Some _ _ is) (four a b c d fits)
place_taken (a ∷ b ∷ c ∷ d ∷ e ∷ more) at fits is = absurd (cc is)

record IsPlacedPiece (fields : List ℕ) (x : ℕ × List ℕ) : Type 0 where
  bytes : fields ≡ to_be_bytes w32 x.0 ++ length x.1 ∷ x.1
  small : x.0 < 2 ^ 32
  piece : IsTrue (is_piece x.1)

placed_taken : (fields : List ℕ) (x : ℕ × List ℕ) → IsBytes fields → placed_piece_in fields ≡ Some x → IsPlacedPiece fields x
placed_taken [] x fits is = absurd (cc is)
placed_taken (a ∷ []) x fits is = absurd (cc is)
placed_taken (a ∷ b ∷ []) x fits is = absurd (cc is)
placed_taken (a ∷ b ∷ c ∷ []) x fits is = absurd (cc is)
placed_taken (a ∷ b ∷ c ∷ d ∷ []) x fits is = absurd (cc is)
placed_taken (a ∷ b ∷ c ∷ d ∷ len ∷ rest) x fits is =
    let at = from_be_bytes w32 (a ∷ b ∷ c ∷ d ∷ []) in
    let long = given-Some (length rest == len) (when (is_piece rest) (at, rest)) x is in
    let formed = when-Some (is_piece rest) (at, rest) x long.1 in
    let place : IsPlace (a ∷ b ∷ c ∷ d ∷ []) at = four a b c d (λ i. first_four a b c d len rest fits i) in
    subst (IsPlacedPiece (a ∷ b ∷ c ∷ d ∷ len ∷ rest)) formed.1 (record {
      bytes = ap (λ (l : List ℕ). l ++ len ∷ rest) place.bytes ∙ ap (λ (n : ℕ). to_be_bytes w32 at ++ n ∷ rest) (sym (eqb-true (length rest) len long.0));
      small = place.small;
      piece = formed.0;
    })
  where
    first_four : (a b c d len : ℕ) (rest : List ℕ) → IsBytes (a ∷ b ∷ c ∷ d ∷ len ∷ rest) → IsBytes (a ∷ b ∷ c ∷ d ∷ [])
    first_four a b c d len rest fits i = grind (arith, fits 0, fits 1, fits 2, fits 3)

message_read : (fields : List ℕ) (read : Result Frame FrameKind) (m : Message) → message_of_frame read ≡ Some m → read ≡ Ok (Item m)
message_read fields (Ok (Item n)) m is = ap (λ (x : Message). Ok (Item x)) (same_Some _ _ is)
message_read fields (Ok Turn) m is = absurd (cc is)
message_read fields (Ok End) m is = absurd (cc is)
message_read fields (Err fault) m is = absurd (cc is)

message_taken : (fields : List ℕ) (m : Message) → IsBytes fields → framed_message fields ≡ Some m → Spells fields (Item m)
message_taken fields m fits is = decoded_spells fields (Item m) fits (message_read fields (decoded_frame fields) m is)

-- ---- kinds

insert_taken : (version : ℕ) (fields : List ℕ) (step : Step) → IsBytes fields → insert_in fields ≡ Some step → IsBody version step (1 ∷ fields)
insert_taken version fields step fits is =
    let found = mapped (λ x. Edit (Insert x.0 x.1)) (placed_piece_in fields) step is in
    let placed = placed_taken fields found.0 fits found.1 in
    subst (λ (s : Step). IsBody version s (1 ∷ fields)) found.2 (record { spelled = ap (λ (l : List ℕ). 1 ∷ l) placed.bytes; has = (placed.small, placed.piece) })

delete_taken : (version : ℕ) (fields : List ℕ) (step : Step) → IsBytes fields → delete_in fields ≡ Some step → IsBody version step (2 ∷ fields)
delete_taken version fields step fits is =
    let found = mapped (λ at. Edit (Delete at)) (whole_place fields) step is in
    let place = place_taken fields found.0 fits found.1 in
    subst (λ (s : Step). IsBody version s (2 ∷ fields)) found.2 (record { spelled = ap (λ (l : List ℕ). 2 ∷ l) place.bytes; has = place.small })

update_taken : (version : ℕ) (fields : List ℕ) (step : Step) → IsBytes fields → update_in fields ≡ Some step → IsBody version step (3 ∷ fields)
update_taken version fields step fits is =
    let found = mapped (λ x. Edit (Update x.0 x.1)) (placed_piece_in fields) step is in
    let placed = placed_taken fields found.0 fits found.1 in
    subst (λ (s : Step). IsBody version s (3 ∷ fields)) found.2 (record { spelled = ap (λ (l : List ℕ). 3 ∷ l) placed.bytes; has = (placed.small, placed.piece) })

-- the entry of an operation that was read
entry_taken : (version : ℕ) (fields : List ℕ) (message : Option Message) (step : Step) → ((m : Message) → message ≡ Some m → Spells fields (Item m)) → operation_of_entry version message ≡ Some step → IsBody version step (4 ∷ fields)
entry_taken version fields None step spells is = absurd (cc is)
entry_taken version fields (Some (Coop q)) step spells is = absurd (cc is)
entry_taken version fields (Some (Admin e)) step spells is =
    let found = when-Some (e.version == version) (Administer e.op) step is in
    let same : e.version ≡ version = eqb-true e.version version found.0 in
    let spelled : Spells fields (Item (made_entry version e.op)) = subst (λ (v : ℕ). Spells fields (Item (made_entry v e.op))) same (spells (Admin e) refl) in
    subst (λ (s : Step). IsBody version s (4 ∷ fields)) found.1 (record { spelled = ap (λ (l : List ℕ). 4 ∷ l) spelled.spelled; has = spelled.formed })

operation_taken : (version : ℕ) (fields : List ℕ) (step : Step) → IsBytes fields → operation_of_entry version (framed_message fields) ≡ Some step → IsBody version step (4 ∷ fields)
operation_taken version fields step fits is = entry_taken version fields (framed_message fields) step (λ m e. message_taken fields m fits e) is

receive_taken : (version : ℕ) (fields : List ℕ) (step : Step) → IsBytes fields → receive_by (framed_message fields) ≡ Some step → IsBody version step (5 ∷ fields)
receive_taken version fields step fits is =
    let found = mapped Receive (framed_message fields) step is in
    let spelled = message_taken fields found.0 fits found.1 in
    subst (λ (s : Step). IsBody version s (5 ∷ fields)) found.2 (record { spelled = ap (λ (l : List ℕ). 5 ∷ l) spelled.spelled; has = spelled.formed })

settle_taken : (version : ℕ) (fields : List ℕ) (step : Step) → alone_in fields Settle ≡ Some step → IsBody version step (6 ∷ fields)
settle_taken version [] step is = subst (λ (s : Step). IsBody version s (6 ∷ [])) (same_Some _ _ is) (record { spelled = refl; has = tt })
settle_taken version (f ∷ fields) step is = absurd (cc is)

validation_taken : (version : ℕ) (fields : List ℕ) (step : Step) → alone_in fields ValidateNext ≡ Some step → IsBody version step (7 ∷ fields)
validation_taken version [] step is = subst (λ (s : Step). IsBody version s (7 ∷ [])) (same_Some _ _ is) (record { spelled = refl; has = tt })
validation_taken version (f ∷ fields) step is = absurd (cc is)

-- a kind that is this number
of_kind : (version kind n : ℕ) (fields : List ℕ) (step : Step) → (kind == n) ≡ true → IsBody version step (n ∷ fields) → IsBody version step (kind ∷ fields)
of_kind version kind n fields step test is = subst (λ (k : ℕ). IsBody version step (k ∷ fields)) (sym (eqb-true kind n test)) is

kind_taken : (version kind : ℕ) (fields : List ℕ) (step : Step) → IsBytes fields → step_of_kind version kind fields ≡ Some step → IsBody version step (kind ∷ fields)
kind_taken version kind fields step fits is =
    elim (chosen (kind == 1) (insert_in fields) _ (Some step) is) [
      | inl w ↦ of_kind version kind 1 fields step w.0 (insert_taken version fields step fits w.1)
      | inr more1 ↦ elim (chosen (kind == 2) (delete_in fields) _ (Some step) more1) [
        | inl w ↦ of_kind version kind 2 fields step w.0 (delete_taken version fields step fits w.1)
        | inr more2 ↦ elim (chosen (kind == 3) (update_in fields) _ (Some step) more2) [
          | inl w ↦ of_kind version kind 3 fields step w.0 (update_taken version fields step fits w.1)
          | inr more3 ↦ elim (chosen (kind == 4) (operation_of_entry version (framed_message fields)) _ (Some step) more3) [
            | inl w ↦ of_kind version kind 4 fields step w.0 (operation_taken version fields step fits w.1)
            | inr more4 ↦ elim (chosen (kind == 5) (receive_by (framed_message fields)) _ (Some step) more4) [
              | inl w ↦ of_kind version kind 5 fields step w.0 (receive_taken version fields step fits w.1)
              | inr more5 ↦ elim (chosen (kind == 6) (alone_in fields Settle) _ (Some step) more5) [
                | inl w ↦ of_kind version kind 6 fields step w.0 (settle_taken version fields step w.1)
                | inr more6 ↦ elim (chosen (kind == 7) (alone_in fields ValidateNext) _ (Some step) more6) [
                  | inl w ↦ of_kind version kind 7 fields step w.0 (validation_taken version fields step w.1)
                  | inr none ↦ absurd (none-some _ none)
                ]
              ]
            ]
          ]
        ]
      ]
    ]

pub read_taken : (version : ℕ) (bytes : List ℕ) (step : Step) → IsBytes bytes → step_in_body version bytes ≡ Some step → IsBody version step bytes
read_taken version [] step fits is = absurd (cc is)
read_taken version (kind ∷ fields) step fits is = kind_taken version kind fields step (rest_of kind fields fits) is

pub read_found : (version : ℕ) (bytes : List ℕ) (found : Option Step) → IsBytes bytes → found ≡ step_in_body version bytes → IfSome found (λ step. IsBody version step bytes)
read_found version bytes None fits is = tt
read_found version bytes (Some step) fits is = read_taken version bytes step fits (sym is)
