-- What stands before a frame: its length field, and enough bytes.
use Rattle.std.proofs.Common.{◌≡◌, ℕ, ◌+◌, ◌≤◌, Bool, ◌&&◌, ◌||◌, List, [], ◌∷◌, length, Option, None, Result, refl, sym, ap, subst}
use Rattle.std.specs.Prelude.{nat_lt, is_none}
use Rattle.std.proofs.lemmas.Bool.{ltb-false, le-ltb, or_parts}
use Rattle.element_name.specs.Cases.{when}
use Rattle.element_name.proofs.CaseLemmas.{when-None, first_of-None}
use Rattle.edit_frame.specs.declared.frame.FrameKind.TheVariants.{BadLength, Truncated}
use Rattle.edit_frame.specs.declared.frame.Frame.{Frame}
use Rattle.edit_frame.specs.declared.lent_frame.LentFrame.{LentFrame}
use Rattle.edit_frame.specs.declared.frame.FrameKind.{FrameKind}
use Rattle.edit_frame.specs.declared.fail.FrameFail.{FrameFail}
use Rattle.edit_frame.specs.Gives.{GivesLent}
use Rattle.edit_frame.specs.Reading.{fault_or, frame_of, length_field, cut_fault, inner, prefix_frame, has_listing, takes_memory}

-- the bytes begin with a whole frame
pub record IsWhole (bytes : List ℕ) : Type 0 where
  pub field : 4 ≤ length bytes
  pub low : 2 ≤ length_field bytes
  pub high : length_field bytes ≤ 276
  pub room : 4 + length_field bytes ≤ length bytes

pub whole_by : (bytes : List ℕ) → cut_fault bytes ≡ None → IsWhole bytes
unfolding cut_fault
whole_by bytes e =
    let cut : Option FrameKind = when (nat_lt (length bytes) (4 + length_field bytes)) Truncated in
    let bad : Bool = nat_lt (length_field bytes) 2 || nat_lt 276 (length_field bytes) in
    let a = first_of-None (when (nat_lt (length bytes) 4) Truncated) (when bad BadLength ∷ cut ∷ []) e in
    let b = first_of-None (when bad BadLength) (cut ∷ []) a.1 in
    let c = first_of-None cut [] b.1 in
    let d = or_parts (nat_lt (length_field bytes) 2) (nat_lt 276 (length_field bytes)) (when-None bad BadLength b.0) in
    record {
      field = ltb-false _ _ (when-None (nat_lt (length bytes) 4) Truncated a.0);
      low = ltb-false _ _ d.0;
      high = ltb-false _ _ d.1;
      room = ltb-false _ _ (when-None (nat_lt (length bytes) (4 + length_field bytes)) Truncated c.0);
    }

pub by_whole : (bytes : List ℕ) → IsWhole bytes → cut_fault bytes ≡ None
unfolding cut_fault
by_whole bytes h = rw (le-ltb _ _ h.field, le-ltb _ _ h.low, le-ltb _ _ h.high, le-ltb _ _ h.room) refl

-- ---- whether reading takes memory

takes_inside : (bytes : List ℕ) → cut_fault bytes ≡ None → takes_memory bytes ≡ has_listing (inner bytes)
unfolding takes_memory
takes_inside bytes e = ap (λ (k : Option FrameKind). is_none k && has_listing (inner bytes)) e

-- what is answered about the bytes after the length field is the answer about the whole frame
pub whole_gives_lent : (more : Bool) (bytes inside : List ℕ) (r : Result LentFrame FrameFail) → cut_fault bytes ≡ None → inside ≡ inner bytes
    → GivesLent (has_listing inside) r (frame_of more inside) → GivesLent (takes_memory bytes) r (prefix_frame more bytes)
whole_gives_lent more bytes inside r e same h =
    let at_inner = subst (λ (x : List ℕ). GivesLent (has_listing x) r (frame_of more x)) same h in
    let whole : frame_of more (inner bytes) ≡ prefix_frame more bytes = ap (λ (k : Option FrameKind). fault_or k (frame_of more (inner bytes))) (sym e) in
    let at_prefix = subst (λ (x : Result Frame FrameKind). GivesLent (has_listing (inner bytes)) r x) whole at_inner in
    subst (λ (b : Bool). GivesLent b r (prefix_frame more bytes)) (sym (takes_inside bytes e)) at_prefix
