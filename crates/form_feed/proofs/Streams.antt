-- How a stream's frames go on behind its first one.
use Rattle.std.proofs.Common.{◌≡◌, ℕ, zero, suc, ◌+◌, ◌≤◌, false, List, [], ◌++◌, length, take, drop, Option, Some, None, Result, Ok, Err, refl, sym, ap, ◌∙◌, arith}
use Rattle.std.specs.Int.{w32, from_be_bytes}
use Rattle.std.proofs.lemmas.List.{take-append-le, drop-append-le, length-append, length-drop}
use Rattle.edit_frame.specs.declared.frame.Frame.{Frame}
use Rattle.edit_frame.specs.declared.frame.FrameKind.{FrameKind}
use Rattle.edit_frame.specs.Reading.{fault_or, frame_of, length_field, cut_fault, inner, frame_at, Stream, stream_with, stream_of, stream}
use Rattle.edit_frame.proofs.Cut.{IsWhole, whole_by, by_whole}
use Rattle.edit_frame.proofs.Outcomes.{no_frame}

-- ---- a frame that bytes begin with

-- where a frame is read there is no fault of its length
no_cut : (cut : Option FrameKind) (read : Result Frame FrameKind) (f : Frame) → fault_or cut read ≡ Ok f → cut ≡ None
no_cut None read f e = refl
no_cut (Some kind) read f e = absurd (no_frame kind f e)

-- it is whole
pub frame_whole : (bytes : List ℕ) (f : Frame) → frame_at bytes ≡ Ok f → IsWhole bytes
unfolding frame_at
frame_whole bytes f e = whole_by bytes (no_cut (cut_fault bytes) (frame_of false (inner bytes)) f e)

-- a whole frame is read by what stands in it
read_whole : (bytes : List ℕ) → IsWhole bytes → frame_at bytes ≡ frame_of false (inner bytes)
unfolding frame_at
read_whole bytes w = ap (λ (r : Option FrameKind). fault_or r (frame_of false (inner bytes))) (by_whole bytes w)

-- bytes behind a whole frame change nothing of its length
field_more : (bytes more : List ℕ) → IsWhole bytes → length_field (bytes ++ more) ≡ length_field bytes
field_more bytes more w = ap (from_be_bytes w32) (take-append-le 4 bytes more w.field)

whole_more : (bytes more : List ℕ) → IsWhole bytes → IsWhole (bytes ++ more)
whole_more bytes more w =
    let field = field_more bytes more w in
    let size = length-append bytes more in
    let w1 = w.field in
    let w2 = w.low in
    let w3 = w.high in
    let w4 = w.room in
    record { field = omega arith; low = omega arith; high = omega arith; room = omega arith }

inner_more : (bytes more : List ℕ) → IsWhole bytes → inner (bytes ++ more) ≡ inner bytes
inner_more bytes more w =
    let room : length_field bytes ≤ length (drop 4 bytes) = omega (arith, length-drop 4 bytes, w.room) in
    ap (λ (n : ℕ). take n (drop 4 (bytes ++ more))) (field_more bytes more w)
    ∙ ap (take (length_field bytes)) (drop-append-le 4 bytes more w.field)
    ∙ take-append-le (length_field bytes) (drop 4 bytes) more room

-- a frame stays, whatever bytes follow
pub frame_more : (bytes more : List ℕ) (f : Frame) → frame_at bytes ≡ Ok f → frame_at (bytes ++ more) ≡ Ok f
frame_more bytes more f e =
    let w = frame_whole bytes f e in
    read_whole (bytes ++ more) (whole_more bytes more w) ∙ ap (frame_of false) (inner_more bytes more w) ∙ sym (read_whole bytes w) ∙ e

-- ---- the frames of a stream

-- the bytes behind the frame that they begin with
abbrev pub behind : List ℕ → List ℕ
behind bytes = drop (4 + length_field bytes) bytes

pub behind_size : (bytes : List ℕ) (f : Frame) → frame_at bytes ≡ Ok f → length (behind bytes) + (4 + length_field bytes) ≡ length bytes
behind_size bytes f e =
    let w = frame_whole bytes f e in
    omega (arith, length-drop (4 + length_field bytes) bytes, w.room)

pub behind_more : (bytes more : List ℕ) (f : Frame) → frame_at bytes ≡ Ok f → behind (bytes ++ more) ≡ behind bytes ++ more
behind_more bytes more f e =
    let w = frame_whole bytes f e in
    ap (λ (n : ℕ). drop (4 + n) (bytes ++ more)) (field_more bytes more w) ∙ drop-append-le (4 + length_field bytes) bytes more w.room

-- bytes that begin with no frame have none
of_none : (n : ℕ) (bytes : List ℕ) (kind : FrameKind) → frame_at bytes ≡ Err kind → stream_of n bytes ≡ record { frames = []; rest = bytes }
unfolding stream_of
of_none zero bytes kind e = refl
of_none (suc n) bytes kind e = ap (λ (r : Result Frame FrameKind). elim r as (λ _. Stream) [ Ok f ↦ stream_with f (stream_of n (behind bytes)) | Err fault ↦ record { frames = []; rest = bytes } ]) e

of_prefix : (n : ℕ) (bytes : List ℕ) (f : Frame) → frame_at bytes ≡ Ok f → stream_of (suc n) bytes ≡ stream_with f (stream_of n (behind bytes))
unfolding stream_of
of_prefix n bytes f e = ap (λ (r : Result Frame FrameKind). elim r as (λ _. Stream) [ Ok f ↦ stream_with f (stream_of n (behind bytes)) | Err fault ↦ record { frames = []; rest = bytes } ]) e

-- no bytes are no frame
no_bytes : (bytes : List ℕ) (f : Frame) → frame_at bytes ≡ Ok f → length bytes ≤ 0 → ⊥
no_bytes bytes f e none = omega (arith, behind_size bytes f e, none)

-- with as many as there are bytes, all frames are found
enough : (n m : ℕ) (bytes : List ℕ) (read : Result Frame FrameKind) → frame_at bytes ≡ read → length bytes ≤ n → length bytes ≤ m → stream_of n bytes ≡ stream_of m bytes
enough n m bytes (Err kind) e le lf = of_none n bytes kind e ∙ sym (of_none m bytes kind e)
enough zero m bytes (Ok f) e le lf = absurd (no_bytes bytes f e le)
enough (suc n) zero bytes (Ok f) e le lf = absurd (no_bytes bytes f e lf)
enough (suc n) (suc m) bytes (Ok f) e le lf =
    let size = behind_size bytes f e in
    of_prefix n bytes f e
    ∙ ap (stream_with f) (enough n m (behind bytes) (frame_at (behind bytes)) refl (omega (arith, size, le)) (omega (arith, size, lf)))
    ∙ sym (of_prefix m bytes f e)

-- a stream that begins with no frame has none
pub stream_none : (bytes : List ℕ) (kind : FrameKind) → frame_at bytes ≡ Err kind → stream bytes ≡ record { frames = []; rest = bytes }
unfolding stream
stream_none bytes kind e = of_none (length bytes) bytes kind e

-- a stream that begins with a frame has it, and then those of what stands behind it
stream_prefix : (bytes : List ℕ) (f : Frame) → frame_at bytes ≡ Ok f → stream bytes ≡ stream_with f (stream (behind bytes))
unfolding stream
stream_prefix bytes f e =
    let size = behind_size bytes f e in
    enough (length bytes) (suc (length bytes)) bytes (frame_at bytes) refl (omega arith) (omega arith)
    ∙ of_prefix (length bytes) bytes f e
    ∙ ap (stream_with f) (enough (length bytes) (length (behind bytes)) (behind bytes) (frame_at (behind bytes)) refl (omega (arith, size)) (omega arith))

pub stream_more : (bytes more : List ℕ) (f : Frame) → frame_at bytes ≡ Ok f → stream (bytes ++ more) ≡ stream_with f (stream (behind bytes ++ more))
stream_more bytes more f e =
    stream_prefix (bytes ++ more) f (frame_more bytes more f e) ∙ ap (λ (xs : List ℕ). stream_with f (stream xs)) (behind_more bytes more f e)

-- a rest is no longer than the stream
of_short : (n : ℕ) (bytes : List ℕ) (read : Result Frame FrameKind) → frame_at bytes ≡ read → length (stream_of n bytes).rest ≤ length bytes
unfolding stream_of
of_short zero bytes read e = omega arith
of_short (suc n) bytes (Err kind) e = omega (arith, ap (λ (s : Stream). length s.rest) (of_none (suc n) bytes kind e))
of_short (suc n) bytes (Ok f) e =
    omega (arith, ap (λ (s : Stream). length s.rest) (of_prefix n bytes f e), of_short n (behind bytes) (frame_at (behind bytes)) refl, behind_size bytes f e)

pub rest_short : (bytes : List ℕ) → length (stream bytes).rest ≤ length bytes
unfolding stream
rest_short bytes = of_short (length bytes) bytes (frame_at bytes) refl
