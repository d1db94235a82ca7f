-- What is written of a stream, by what it begins with.
use Rattle.std.proofs.Common.{◌≡◌, ℕ, ◌+◌, ◌-◌, ◌<◌, ◌≤◌, Bool, true, false, List, [], ◌∷◌, ◌++◌, length, Option, Some, None, Err, Ok, refl, sym, ap, ◌∙◌, append_assoc, arith}
use Rattle.std.specs.Prelude.{not, ◌&&◌, is_none, option_and_then}
use Rattle.std.proofs.lemmas.List.{length-append, append-nil}
use Rattle.element_name.specs.Cases.{when}
use Rattle.line_engine.specs.declared.status.Status.TheVariants.{Done}
use Rattle.line_engine.specs.Output.{Output, after_bytes, after_part, too_long}
use Rattle.edit_frame.specs.declared.frame.Frame.{Frame}
use Rattle.edit_frame.specs.declared.frame.FrameKind.{FrameKind}
use Rattle.edit_frame.specs.declared.frame.FrameKind.TheVariants.{Truncated}
use Rattle.edit_frame.specs.Reading.{length_field, frame_at, Stream, stream_with, stream}
use Rattle.edit_frame.specs.Splitter.{is_truncated}
use Rattle.edit_frame.proofs.Streams.{rest_fault_by}
use Rattle.edit_frame.proofs.Stays.{stays}
use Rattle.form_feed.specs.Stream.{FrameTurn, frames_turn, counted_fault, bad_frame, closing, stream_ending, output_from, stream_part, stream_after}
use Rattle.form_feed.proofs.Streams.{behind, behind_size, stream_none, stream_more, rest_short}

-- ---- two replies, and a place

-- two replies are one
after_both : (a b : List ℕ) (o : Output) → after_bytes (a ++ b) o ≡ after_bytes a (after_bytes b o)
after_both a b o = ap (λ (l : List ℕ). let out : Output = record { written = l; status = o.status } in out) (append_assoc a b o.written)

part_both : (sound : Bool) (a b : List ℕ) → when sound (a ++ b) ≡ after_part a (when sound b)
part_both true a b = refl
part_both false a b = refl

-- the rest stands at the same place
same_place : (offset size more taken rest : ℕ) → more + taken ≡ size → rest ≤ more → offset + (size - rest) ≡ offset + taken + (more - rest)
same_place offset size more taken rest e le = omega arith

-- ---- a fault

-- a fault other than that the bytes end counts in any case
counts_by : (cut short : Bool) (kind : FrameKind) → short ≡ false → when (not (cut && short)) kind ≡ Some kind
counts_by true short kind h = ap (λ (b : Bool). when (not b) kind) h
counts_by false short kind h = refl

fault_counts : (cut : Bool) (bytes : List ℕ) (kind : FrameKind) → frame_at bytes ≡ Err kind → is_truncated kind ≡ false → counted_fault cut bytes ≡ Some kind
fault_counts cut bytes kind e h =
    ap (λ (o : Option FrameKind). option_and_then (λ k. when (not (cut && is_truncated k)) k) o) (rest_fault_by bytes kind e h)
    ∙ counts_by cut (is_truncated kind) kind h

-- where the stream goes on behind a rest that is empty or cut, it is no fault
cut_counts : (bytes : List ℕ) → frame_at bytes ≡ Err Truncated → counted_fault true bytes ≡ None
cut_counts [] e = refl
cut_counts (b ∷ bytes) e = ap (λ r. option_and_then (λ k. when (not (true && is_truncated k)) k) (elim r as (λ _. Option FrameKind) [ Ok f ↦ None | Err fault ↦ Some fault ])) e

-- where the stream ends a cut one is one
end_counts : (bytes : List ℕ) → frame_at bytes ≡ Err Truncated → 0 < length bytes → counted_fault false bytes ≡ Some Truncated
end_counts [] e lt = absurd (omega (arith, lt))
end_counts (b ∷ bytes) e lt = ap (λ r. option_and_then (λ k. when (not (false && is_truncated k)) k) (elim r as (λ _. Option FrameKind) [ Ok f ↦ None | Err fault ↦ Some fault ])) e

module _ {I : Type 0} (turn : I → Frame → FrameTurn I) (lines : I → List ℕ) where
  -- ---- by a stream's frames and its rest

  -- what is written, where the stream has so many bytes
  abbrev output_by : Bool → I → ℕ → ℕ → Stream → Output
  output_by cut i offset size s = let all = frames_turn turn i s.frames in
      after_bytes all.reply (stream_ending (closing cut (lines all.after)) (offset + (size - length s.rest)) (counted_fault cut s.rest))

  abbrev part_by : I → Stream → Option (List ℕ)
  part_by i s = when (is_none (counted_fault true s.rest)) (frames_turn turn i s.frames).reply

  output_is : (cut : Bool) (i : I) (offset : ℕ) (bytes : List ℕ) → output_from turn lines cut i offset bytes ≡ output_by cut i offset (length bytes) (stream bytes)
  unfolding output_from
  output_is cut i offset bytes = refl

  part_is : (i : I) (bytes : List ℕ) → stream_part turn i bytes ≡ part_by i (stream bytes)
  unfolding stream_part
  part_is i bytes = refl

  after_is : (i : I) (bytes : List ℕ) → stream_after turn i bytes ≡ (frames_turn turn i (stream bytes).frames).after
  unfolding stream_after
  after_is i bytes = refl

  -- ---- bytes that begin with a frame

  output_next : (cut : Bool) (i : I) (offset size more taken : ℕ) (f : Frame) (s : Stream) → more + taken ≡ size → length s.rest ≤ more
      → output_by cut i offset size (stream_with f s) ≡ after_bytes (turn i f).reply (output_by cut (turn i f).after (offset + taken) more s)
  output_next cut i offset size more taken f s e le =
      let later = frames_turn turn (turn i f).after s.frames in
      ap (λ (place : ℕ). after_bytes ((turn i f).reply ++ later.reply) (stream_ending (closing cut (lines later.after)) place (counted_fault cut s.rest))) (same_place offset size more taken (length s.rest) e le)
      ∙ after_both (turn i f).reply later.reply (stream_ending (closing cut (lines later.after)) (offset + taken + (more - length s.rest)) (counted_fault cut s.rest))

  pub output_prefix : (cut : Bool) (i : I) (offset : ℕ) (rest more : List ℕ) (f : Frame) → frame_at rest ≡ Ok f
      → output_from turn lines cut i offset (rest ++ more)
      ≡ after_bytes (turn i f).reply (output_from turn lines cut (turn i f).after (offset + (4 + length_field rest)) (behind rest ++ more))
  output_prefix cut i offset rest more f e =
      let size : length (behind rest ++ more) + (4 + length_field rest) ≡ length (rest ++ more)
      = omega (arith, behind_size rest f e, length-append rest more, length-append (behind rest) more) in
      output_is cut i offset (rest ++ more)
      ∙ ap (output_by cut i offset (length (rest ++ more))) (stream_more rest more f e)
      ∙ output_next cut i offset (length (rest ++ more)) (length (behind rest ++ more)) (4 + length_field rest) f (stream (behind rest ++ more)) size
      (rest_short (behind rest ++ more))
      ∙ ap (after_bytes (turn i f).reply) (sym (output_is cut (turn i f).after (offset + (4 + length_field rest)) (behind rest ++ more)))

  pub part_prefix : (i : I) (rest more : List ℕ) (f : Frame) → frame_at rest ≡ Ok f
      → stream_part turn i (rest ++ more) ≡ after_part (turn i f).reply (stream_part turn (turn i f).after (behind rest ++ more))
  part_prefix i rest more f e =
      let s : Stream = stream (behind rest ++ more) in
      part_is i (rest ++ more)
      ∙ ap (part_by i) (stream_more rest more f e)
      ∙ part_both (is_none (counted_fault true s.rest)) (turn i f).reply (frames_turn turn (turn i f).after s.frames).reply
      ∙ ap (after_part (turn i f).reply) (sym (part_is (turn i f).after (behind rest ++ more)))

  pub after_prefix : (i : I) (rest more : List ℕ) (f : Frame) → frame_at rest ≡ Ok f → stream_after turn i (rest ++ more) ≡ stream_after turn (turn i f).after (behind rest ++ more)
  after_prefix i rest more f e =
      after_is i (rest ++ more) ∙ ap (λ (s : Stream). (frames_turn turn i s.frames).after) (stream_more rest more f e) ∙ sym (after_is (turn i f).after (behind rest ++ more))

  -- ---- bytes that begin with none

  -- nothing is taken in, and the rest begins where the bytes do
  output_none : (cut : Bool) (i : I) (offset : ℕ) (bytes : List ℕ) (kind : FrameKind) (found : Option FrameKind) → frame_at bytes ≡ Err kind
      → counted_fault cut bytes ≡ found → output_from turn lines cut i offset bytes ≡ stream_ending (closing cut (lines i)) offset found
  output_none cut i offset bytes kind found e counted =
      let here : offset + (length bytes - length bytes) ≡ offset = omega arith in
      output_is cut i offset bytes
      ∙ ap (output_by cut i offset (length bytes)) (stream_none bytes kind e)
      ∙ ap (λ (place : ℕ). stream_ending (closing cut (lines i)) place (counted_fault cut bytes)) here
      ∙ ap (stream_ending (closing cut (lines i)) offset) counted

  part_none : (i : I) (bytes : List ℕ) (kind : FrameKind) → frame_at bytes ≡ Err kind → counted_fault true bytes ≡ None → stream_part turn i bytes ≡ Some []
  part_none i bytes kind e counted = part_is i bytes ∙ ap (part_by i) (stream_none bytes kind e) ∙ ap (λ (o : Option FrameKind). when (is_none o) (let none : List ℕ = [] in none)) counted

  after_none : (i : I) (bytes : List ℕ) (kind : FrameKind) → frame_at bytes ≡ Err kind → stream_after turn i bytes ≡ i
  after_none i bytes kind e = after_is i bytes ∙ ap (λ (s : Stream). (frames_turn turn i s.frames).after) (stream_none bytes kind e)

  -- ---- a bad frame

  pub output_bad : (cut : Bool) (i : I) (offset : ℕ) (rest more : List ℕ) (kind : FrameKind) → frame_at rest ≡ Err kind → is_truncated kind ≡ false
      → output_from turn lines cut i offset (rest ++ more) ≡ bad_frame offset kind
  output_bad cut i offset rest more kind e h =
      let still = stays rest more kind e h in
      output_none cut i offset (rest ++ more) kind (Some kind) still (fault_counts cut (rest ++ more) kind still h)

  pub after_bad : (i : I) (rest more : List ℕ) (kind : FrameKind) → frame_at rest ≡ Err kind → is_truncated kind ≡ false → stream_after turn i (rest ++ more) ≡ i
  after_bad i rest more kind e h = after_none i (rest ++ more) kind (stays rest more kind e h)

  -- ---- a rest that is empty or cut

  pub output_cut : (i : I) (offset : ℕ) (rest : List ℕ) → frame_at rest ≡ Err Truncated → output_from turn lines true i offset (rest ++ []) ≡ too_long
  output_cut i offset rest e = ap (output_from turn lines true i offset) (append-nil rest) ∙ output_none true i offset rest Truncated None e (cut_counts rest e)

  pub output_short : (i : I) (offset : ℕ) (rest : List ℕ) → frame_at rest ≡ Err Truncated → 0 < length rest
      → output_from turn lines false i offset (rest ++ []) ≡ bad_frame offset Truncated
  output_short i offset rest e lt =
      ap (output_from turn lines false i offset) (append-nil rest) ∙ output_none false i offset rest Truncated (Some Truncated) e (end_counts rest e lt)

  pub output_end : (i : I) (offset : ℕ) (rest : List ℕ) → frame_at rest ≡ Err Truncated → rest ≡ []
      → output_from turn lines false i offset (rest ++ []) ≡ record { written = lines i; status = Done }
  output_end i offset rest e none =
      ap (output_from turn lines false i offset) (append-nil rest)
      ∙ output_none false i offset rest Truncated None e (ap (counted_fault false) none)

  pub part_waits : (i : I) (rest : List ℕ) → frame_at rest ≡ Err Truncated → stream_part turn i (rest ++ []) ≡ Some []
  part_waits i rest e = ap (stream_part turn i) (append-nil rest) ∙ part_none i rest Truncated e (cut_counts rest e)

  pub after_waits : (i : I) (rest : List ℕ) → frame_at rest ≡ Err Truncated → stream_after turn i (rest ++ []) ≡ i
  after_waits i rest e = ap (stream_after turn i) (append-nil rest) ∙ after_none i rest Truncated e
