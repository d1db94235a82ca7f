-- A fault stays whatever bytes follow.
use Rattle.std.proofs.Common.{◌≡◌, ℕ, ◌+◌, ◌≤◌, Bool, true, false, ◌||◌, List, [], ◌∷◌, ◌++◌, length, take, drop, Option, Some, None, Err, refl, sym, ap, ◌∙◌, arith, ◌⊎◌, inl, inr}
use Rattle.std.specs.Prelude.{nat_lt}
use Rattle.std.specs.Int.{w32, from_be_bytes}
use Rattle.std.proofs.lemmas.Bool.{ltb-false, le-ltb}
use Rattle.std.proofs.lemmas.List.{take-append-le, drop-append-le, length-append, length-drop}
use Rattle.element_name.specs.Cases.{when, first_of}
use Rattle.edit_frame.specs.declared.frame.FrameKind.{FrameKind}
use Rattle.edit_frame.specs.declared.frame.FrameKind.TheVariants.{BadLength, Truncated}
use Rattle.edit_frame.specs.Reading.{fault_or, frame_of, length_field, cut_fault, inner, frame_at}
use Rattle.edit_frame.specs.Splitter.{is_truncated}
use Rattle.edit_frame.proofs.Cut.{IsWhole, whole_by, by_whole}
use Rattle.edit_frame.proofs.Streams.{not_both, cut_at}

abbrev table : Bool → Bool → Bool → Option FrameKind
table short bad cut = first_of (when short Truncated ∷ when bad BadLength ∷ when cut Truncated ∷ [])

cases_of : (short bad cut : Bool) → (table short bad cut ≡ Some Truncated) ⊎ (((table short bad cut ≡ Some BadLength) × (short ≡ false) × (bad ≡ true)) ⊎ (table short bad cut ≡ None))
cases_of true bad cut = inl refl
cases_of false true cut = inr (inl (refl, refl, refl))
cases_of false false true = inl refl
cases_of false false false = inr (inr refl)

same_field : (bytes more : List ℕ) → 4 ≤ length bytes → length_field (bytes ++ more) ≡ length_field bytes
same_field bytes more h = ap (from_be_bytes w32) (take-append-le 4 bytes more h)

bad_length_again : (bytes more : List ℕ) → nat_lt (length bytes) 4 ≡ false → (nat_lt (length_field bytes) 2 || nat_lt 276 (length_field bytes)) ≡ true → cut_fault (bytes ++ more) ≡ Some BadLength
unfolding cut_fault
bad_length_again bytes more long bad =
    let four : 4 ≤ length bytes = ltb-false _ _ long in
    let longer : nat_lt (length (bytes ++ more)) 4 ≡ false = le-ltb _ _ (omega (arith, length-append bytes more)) in
    let field = same_field bytes more four in
    let badly : (nat_lt (length_field (bytes ++ more)) 2 || nat_lt 276 (length_field (bytes ++ more))) ≡ true = ap (λ (n : ℕ). nat_lt n 2 || nat_lt 276 n) field ∙ bad in
    rw (longer, badly) refl

whole_again : (bytes more : List ℕ) → IsWhole bytes → IsWhole (bytes ++ more) × (inner (bytes ++ more) ≡ inner bytes)
whole_again bytes more w =
    let field = same_field bytes more w.field in
    let size = length-append bytes more in
    let room : length_field bytes ≤ length (drop 4 bytes) = omega (arith, length-drop 4 bytes, w.room) in
    let cut : drop 4 (bytes ++ more) ≡ drop 4 bytes ++ more = drop-append-le 4 bytes more w.field in
    let w1 = w.field in
    let w2 = w.low in
    let w3 = w.high in
    let w4 = w.room in
    let taken : take (length_field bytes) (drop 4 bytes ++ more) ≡ take (length_field bytes) (drop 4 bytes) = take-append-le (length_field bytes) (drop 4 bytes) more room in (
      record { field = omega arith; low = omega arith; high = omega arith; room = omega arith },
      ap (λ (n : ℕ). take n (drop 4 (bytes ++ more))) field ∙ ap (take (length_field bytes)) cut ∙ taken,
    )

whole_frame : (bytes : List ℕ) → cut_fault bytes ≡ None → frame_at bytes ≡ frame_of false (inner bytes)
unfolding frame_at
whole_frame bytes e = ap (λ (r : Option FrameKind). fault_or r (frame_of false (inner bytes))) e

pub stays : (bytes more : List ℕ) (kind : FrameKind) → frame_at bytes ≡ Err kind → is_truncated kind ≡ false → frame_at (bytes ++ more) ≡ Err kind
unfolding cut_fault
stays bytes more kind e h = elim (cases_of (nat_lt (length bytes) 4) (nat_lt (length_field bytes) 2 || nat_lt 276 (length_field bytes)) (nat_lt (length bytes) (4 + length_field bytes))) [
  | inl c ↦ absurd (not_both kind (sym (cut_at bytes Truncated c) ∙ e) h)
  | inr d ↦ elim d [
    | inl c ↦ cut_at (bytes ++ more) BadLength (bad_length_again bytes more c.1 c.2) ∙ sym (cut_at bytes BadLength c.0) ∙ e
    | inr c ↦ (
        let g = whole_again bytes more (whole_by bytes c) in
        whole_frame (bytes ++ more) (by_whole (bytes ++ more) g.0) ∙ ap (frame_of false) g.1 ∙ sym (whole_frame bytes c) ∙ e)
  ]
]
