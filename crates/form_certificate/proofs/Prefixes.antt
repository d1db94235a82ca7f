-- The frames of bytes that begin with spellings, and what stands before the first End and behind it.
use Rattle.std.proofs.Common.{◌≡◌, ℕ, ◌+◌, Bool, true, false, not, ◌||◌, List, [], ◌∷◌, ◌++◌, length, drop, Ok, refl, sym, ap, ◌∙◌, append_assoc, arith}
use Rattle.std.specs.Prelude.{if◌then◌else◌}
use Rattle.std.specs.Int.{w32, to_be_bytes}
use Rattle.std.specs.List.{flat_map, list_all, list_any}
use Rattle.std.proofs.lemmas.Bool.{and_parts}
use Rattle.std.proofs.lemmas.List.{append-nil, length-append, drop_at, nil_from_length}
use Rattle.std.proofs.lemmas.List.Concat.{flat_map-cons}
use Rattle.std.proofs.lemmas.List.Sums.{take_while-cons}
use Rattle.edit_frame.specs.declared.frame.Frame.{Frame}
use Rattle.edit_frame.specs.declared.frame.Frame.TheVariants.{Item, Turn, End}
use Rattle.edit_frame.specs.Spelling.{body, spelling}
use Rattle.edit_frame.specs.Spells.{is_frame}
use Rattle.edit_frame.specs.Reading.{length_field, frame_at, Stream, stream_with, stream}
use Rattle.edit_frame.proofs.Frames.{spelled_again, frame_at_again}
use Rattle.form_feed.proofs.Streams.{behind, behind_size, stream_more}
use Rattle.audit_cert.specs.Audit.{is_end_frame}
use Rattle.form_certificate.specs.Answer.{prefix_of, told_behind}

-- ---- frames that bytes begin with

spelling_size : (f : Frame) → length (spelling f) ≡ 4 + length (body f)
unfolding spelling
spelling_size f = length-append (to_be_bytes w32 (length (body f))) (body f)

alone : (f : Frame) → is_frame f ≡ true → frame_at (spelling f) ≡ Ok f
alone f formed = ap frame_at (sym (append-nil (spelling f))) ∙ frame_at_again f [] formed

-- nothing stands behind a spelling
none_behind : (f : Frame) → is_frame f ≡ true → behind (spelling f) ≡ []
none_behind f formed =
    let field : length_field (spelling f) ≡ length (body f) = ap length_field (sym (append-nil (spelling f))) ∙ (spelled_again f [] formed).field in
    nil_from_length (behind (spelling f)) (omega (arith, behind_size (spelling f) f (alone f formed), field, spelling_size f))

pub stream_one : (f : Frame) (rest : List ℕ) → is_frame f ≡ true → stream (spelling f ++ rest) ≡ stream_with f (stream rest)
stream_one f rest formed =
    stream_more (spelling f) rest f (alone f formed) ∙ ap (λ (xs : List ℕ). stream_with f (stream (xs ++ rest))) (none_behind f formed)

-- a stream with more frames before it
abbrev pub behind_frames : List Frame → Stream → Stream
behind_frames frames s = record { frames = frames ++ s.frames; rest = s.rest }

pub stream_frames : (frames : List Frame) (rest : List ℕ) → list_all is_frame frames ≡ true
    → stream (flat_map spelling frames ++ rest) ≡ behind_frames frames (stream rest)
stream_frames [] rest formed = refl
stream_frames (f ∷ frames) rest formed =
    let parts = and_parts (is_frame f) (list_all is_frame frames) formed in
    ap (λ (xs : List ℕ). stream (xs ++ rest)) (flat_map-cons spelling f frames)
    ∙ ap stream (append_assoc (spelling f) (flat_map spelling frames) rest)
    ∙ stream_one f (flat_map spelling frames ++ rest) parts.0
    ∙ ap (stream_with f) (stream_frames frames rest parts.1)

-- ---- before the first End

prefix_next : (f : Frame) (frames : List Frame) → is_end_frame f ≡ false → prefix_of (f ∷ frames) ≡ f ∷ prefix_of frames
prefix_next f frames other =
    take_while-cons (λ (g : Frame). not (is_end_frame g)) f frames ∙ ap (λ (b : Bool). if not b then f ∷ prefix_of frames else []) other

prefix_end : (frames : List Frame) → prefix_of (End ∷ frames) ≡ []
prefix_end frames = take_while-cons (λ (g : Frame). not (is_end_frame g)) End frames

pub prefix_is : (frames later : List Frame) → list_any is_end_frame frames ≡ false → prefix_of (frames ++ End ∷ later) ≡ frames
prefix_is [] later none = prefix_end later
prefix_is (Item m ∷ frames) later none = prefix_next (Item m) (frames ++ End ∷ later) refl ∙ ap (λ (fs : List Frame). Item m ∷ fs) (prefix_is frames later none)
prefix_is (Turn ∷ frames) later none = prefix_next Turn (frames ++ End ∷ later) refl ∙ ap (λ (fs : List Frame). Turn ∷ fs) (prefix_is frames later none)
prefix_is (End ∷ frames) later none = absurd cc

-- frames among which an End is go on behind the prefix with it
pub record GoesOn (frames : List Frame) : Type 0 where
  pub later : List Frame
  pub whole : frames ≡ prefix_of frames ++ End ∷ later
  pub before_end : list_any is_end_frame (prefix_of frames) ≡ false

next_goes_on : (f : Frame) (frames : List Frame) → is_end_frame f ≡ false → GoesOn frames → GoesOn (f ∷ frames)
next_goes_on f frames other on =
    let prefix = prefix_next f frames other in
    record {
      later = on.later;
      whole = ap (λ (fs : List Frame). f ∷ fs) on.whole ∙ ap (λ (fs : List Frame). fs ++ End ∷ on.later) (sym prefix);
      before_end = ap (list_any is_end_frame) prefix ∙ ap (λ b. b || list_any is_end_frame (prefix_of frames)) other ∙ on.before_end;
    }

pub goes_on : (frames : List Frame) → list_any is_end_frame frames ≡ true → GoesOn frames
goes_on [] some = absurd cc
goes_on (Item m ∷ frames) some = next_goes_on (Item m) frames refl (goes_on frames some)
goes_on (Turn ∷ frames) some = next_goes_on Turn frames refl (goes_on frames some)
goes_on (End ∷ frames) some = record {
  later = frames;
  whole = ap (λ (fs : List Frame). fs ++ End ∷ frames) (sym (prefix_end frames));
  before_end = ap (list_any is_end_frame) (prefix_end frames);
}

-- ---- behind it

pub told_is : (frames : List Frame) (bytes told : List ℕ) → bytes ≡ flat_map spelling frames ++ (spelling End ++ told) → told_behind frames bytes ≡ told
told_is frames bytes told whole =
    let prefix = flat_map spelling frames in
    ap (drop (length prefix + length (spelling End))) (whole ∙ sym (append_assoc prefix (spelling End) told))
    ∙ drop_at (prefix ++ spelling End) told (length prefix + length (spelling End)) (length-append prefix (spelling End))
