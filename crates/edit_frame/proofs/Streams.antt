-- A stream in pieces: what was given, and what is left.
use Rattle.std.proofs.Common.{◌≡◌, ℕ, zero, suc, ◌+◌, ◌≤◌, Bool, true, false, cond, not, ◌&&◌, ◌||◌, inl, inr, List, [], ◌∷◌, ◌++◌, length, take, drop, Option, Some, None, Result, Ok, Err, refl, sym, ap, subst, ◌∙◌, append_assoc, arith}
use Rattle.std.specs.Prelude.{nat_lt, nat_le, option_map}
use Rattle.std.specs.Int.{w32, to_be_bytes}
use Rattle.std.specs.List.{flat_map, list_all}
use Rattle.std.proofs.lemmas.Bool.{true≢false, and_parts, and_from}
use Rattle.std.proofs.lemmas.Grind.{flat_map-append}
use Rattle.std.proofs.lemmas.List.{append-nil, length-append, length-drop, take_at, drop_at}
use Rattle.std.proofs.lemmas.List.Concat.{flat_map-cons}
use Rattle.std.proofs.lemmas.List.Folds.{list_all-append}
use Rattle.coop_request.specs.declared.request.RequestFault.{RequestFault}
use Rattle.coop_request.specs.Request.{request_fault}
use Rattle.edit_frame.specs.declared.frame.Frame.{Frame}
use Rattle.edit_frame.specs.declared.frame.FrameKind.{FrameKind}
use Rattle.edit_frame.specs.declared.lent_frame.LentFrame.{LentFrame}
use Rattle.edit_frame.specs.declared.frame.FrameKind.TheVariants.{BadLength, BadKind, BadField, LeftOver, Truncated, BadRequest}
use Rattle.edit_frame.specs.declared.fail.FrameFail.{FrameFail}
use Rattle.edit_frame.specs.declared.fail.FrameFail.TheVariants as fails
use Rattle.edit_frame.specs.Gives.{FrameFails}
use Rattle.edit_frame.specs.Fields.{Field}
use Rattle.edit_frame.specs.Reading.{request_at, other_at, is_kind, fault_or, request_frame, unless_left_over, frame_by, frame_of, length_field, cut_fault, inner, prefix_frame, frame_at, takes_memory, Stream, stream_with, stream_of, stream, rest_fault}
use Rattle.edit_frame.specs.Spelling.{body, spelling}
use Rattle.edit_frame.specs.Spells.{IsBytes, is_frame, Spells}
use Rattle.edit_frame.specs.Splitter.{Splitter, is_truncated, FirstGives, FirstLent, IsSplit, IsAllOf}
use Rattle.edit_frame.proofs.Readers.{IsBytes-drop, chosen}
use Rattle.edit_frame.proofs.Outcomes.{good, bad, same_kind, no_frame}
use Rattle.edit_frame.proofs.Cut.{whole_by}
use Rattle.edit_frame.proofs.Frames.{prefix_taken, frame_at_taken, spelled_again, frame_at_again}

other_kind : (j k : FrameKind) → is_truncated j ≡ false → bad j ≡ bad k → is_truncated k ≡ false
other_kind j k h e = subst (λ (x : FrameKind). is_truncated x ≡ false) (same_kind j k e) h

-- ---- a whole frame's fault isn't that it is cut

ended_whole : {A : Type 0} (more : Bool) (make : A → Result Frame FrameKind) (read : Field A) (k : FrameKind) → ((x : A) → make x ≡ Err k → is_truncated k ≡ false) → unless_left_over more make read ≡ Err k → is_truncated k ≡ false
ended_whole more make None k each e = other_kind BadField k refl e
ended_whole more make (Some x) k each e = elim (chosen (nat_lt 0 (length x.1) || more) (bad LeftOver) (make x.0) (Err k) e) [
  | inl c ↦ other_kind LeftOver k refl c.1
  | inr c ↦ each x.0 c.1
]

accepted_whole : (fault : Option RequestFault) (f : Frame) (k : FrameKind) → fault_or (option_map BadRequest fault) (good f) ≡ Err k → is_truncated k ≡ false
accepted_whole None f k e = absurd (no_frame k f (sym e))
accepted_whole (Some r) f k e = other_kind (BadRequest r) k refl e

pub frame_whole : (more : Bool) (xs : List ℕ) (k : FrameKind) → frame_of more xs ≡ Err k → is_truncated k ≡ false
unfolding frame_by
frame_whole more [] k e = other_kind BadKind k refl e
frame_whole more (v ∷ []) k e = other_kind BadKind k refl e
frame_whole more (v ∷ kind ∷ bytes) k e = elim (chosen (not (is_kind v kind)) (bad BadKind) (cond (nat_le kind 3) (unless_left_over more request_frame (request_at v kind bytes)) (unless_left_over more (λ g. Ok g) (other_at kind bytes))) (Err k) e) [
  | inl c ↦ other_kind BadKind k refl c.1
  | inr c ↦ elim (chosen (nat_le kind 3) (unless_left_over more request_frame (request_at v kind bytes)) (unless_left_over more (λ g. Ok g) (other_at kind bytes)) (Err k) c.1) [
    | inl d ↦ ended_whole more request_frame (request_at v kind bytes) k (λ q m. accepted_whole (request_fault q) _ k m) d.1
    | inr d ↦ ended_whole more (λ g. good g) (other_at kind bytes) k (λ g m. absurd (no_frame k g (sym m))) d.1
  ]
]

-- ---- the first frame

pub cut_at : (bytes : List ℕ) (k : FrameKind) → cut_fault bytes ≡ Some k → frame_at bytes ≡ Err k
unfolding frame_at
cut_at bytes k e = ap (λ (r : Option FrameKind). fault_or r (frame_of false (inner bytes))) e

pub truncated_is : (k : FrameKind) → is_truncated k ≡ true → k ≡ Truncated
truncated_is Truncated h = refl
truncated_is BadLength h = absurd cc
truncated_is BadKind h = absurd cc
truncated_is BadField h = absurd cc
truncated_is LeftOver h = absurd cc
truncated_is (BadRequest r) h = absurd cc

pub waits_at : (bytes : List ℕ) (k : FrameKind) → cut_fault bytes ≡ Some k → is_truncated k ≡ true → frame_at bytes ≡ Err Truncated
waits_at bytes k e h = cut_at bytes k e ∙ ap bad (truncated_is k h)

pub prefix_at : (bytes : List ℕ) (r : Result Frame FrameKind) → prefix_frame false bytes ≡ r → frame_at bytes ≡ r
unfolding frame_at
prefix_at bytes r e = e

pub fault_at : (bytes : List ℕ) (k : FrameKind) → cut_fault bytes ≡ None → prefix_frame false bytes ≡ Err k → (frame_at bytes ≡ Err k) × (is_truncated k ≡ false)
fault_at bytes k c e = (prefix_at bytes (Err k) e, frame_whole false (inner bytes) k (ap (λ (r : Option FrameKind). fault_or r (frame_of false (inner bytes))) (sym c) ∙ e))

pub fails_at : (bytes : List ℕ) (fail : FrameFail) → cut_fault bytes ≡ None → FrameFails (takes_memory bytes) fail (prefix_frame false bytes) → FirstGives bytes (Err fail)
fails_at bytes fails.NoMemory c h = h
fails_at bytes (fails.Fault k) c h = fault_at bytes k c h

pub taken_at : (bytes : List ℕ) (f : Frame) → IsBytes bytes → cut_fault bytes ≡ None → prefix_frame false bytes ≡ Ok f
    → (frame_at bytes ≡ Ok f) × (4 + length_field bytes ≡ 4 + length_field bytes) × (4 + length_field bytes ≤ length bytes) × (bytes ≡ spelling f ++ drop (4 + length_field bytes) bytes) × (is_frame f ≡ true)
taken_at bytes f fits c e =
    let t = prefix_taken false bytes f fits e in
    (prefix_at bytes (Ok f) e, refl, (whole_by bytes c).room, t.split, t.formed)

-- ---- what was given and what is left

flat_one : (f : Frame) → flat_map spelling (f ∷ []) ≡ spelling f
flat_one f = flat_map-cons spelling f [] ∙ append-nil (spelling f)

flat_push : (frames : List Frame) (f : Frame) → flat_map spelling (frames ++ f ∷ []) ≡ flat_map spelling frames ++ spelling f
flat_push frames f = flat_map-append spelling frames (f ∷ []) ∙ ap (λ (x : List ℕ). flat_map spelling frames ++ x) (flat_one f)

each_push : (frames : List Frame) (f : Frame) → list_all is_frame frames ≡ true → is_frame f ≡ true → list_all is_frame (frames ++ f ∷ []) ≡ true
each_push frames f h g = list_all-append is_frame frames (f ∷ []) ∙ and_from (list_all is_frame frames) (is_frame f && true) h (and_from (is_frame f) true g refl)

length_spelling : (f : Frame) → length (spelling f) ≡ 4 + length (body f)
unfolding spelling
length_spelling f = length-append (to_be_bytes w32 (length (body f))) (body f)

spelled_len : (text bytes : List ℕ) (len : ℕ) → bytes ≡ text ++ drop len bytes → len ≤ length bytes → length text ≡ len
spelled_len text bytes len e h = omega (arith, ap length e, length-append text (drop len bytes), length-drop len bytes)

both_up : (a b x y : ℕ) → a ≡ x → b ≡ y → a + b ≡ x + y
both_up a b x y h g = omega arith

pub split_push : (fed : List ℕ) (frames : List Frame) (s t : Splitter) (f : Frame) (len : ℕ) → IsSplit fed frames s
    → s.rest ≡ spelling f ++ drop len s.rest → len ≤ length s.rest → is_frame f ≡ true → t.offset ≡ s.offset + len → t.rest ≡ drop len s.rest → IsSplit fed (frames ++ f ∷ []) t
split_push fed frames s t f len i split room range offset rest =
    let size : length (spelling f) ≡ len = spelled_len (spelling f) s.rest len split room in
    record {
      whole = i.whole ∙ ap (λ (x : List ℕ). flat_map spelling frames ++ x) split ∙ sym (append_assoc (flat_map spelling frames) (spelling f) (drop len s.rest)) ∙ ap (λ (x : List ℕ). x ++ drop len s.rest) (sym (flat_push frames f)) ∙ ap (λ (x : List ℕ). flat_map spelling (frames ++ f ∷ []) ++ x) (sym rest);
      each = each_push frames f i.each range;
      place = offset ∙ both_up s.offset len (length (flat_map spelling frames)) (length (spelling f)) i.place (sym size) ∙ sym (length-append (flat_map spelling frames) (spelling f)) ∙ ap length (sym (flat_push frames f));
    }

pub split_more : (fed piece : List ℕ) (frames : List Frame) (s t : Splitter) → IsSplit fed frames s → t.offset ≡ s.offset → t.rest ≡ s.rest ++ piece → IsSplit (fed ++ piece) frames t
split_more fed piece frames s t i offset rest = record {
  whole = ap (λ (x : List ℕ). x ++ piece) i.whole ∙ append_assoc (flat_map spelling frames) s.rest piece ∙ ap (λ (x : List ℕ). flat_map spelling frames ++ x) (sym rest);
  each = i.each;
  place = offset ∙ i.place;
}

-- ---- the stream of what was fed

go : List ℕ → ℕ → Result Frame FrameKind → Stream
go bytes n (Ok f) = stream_with f (stream_of n (drop (4 + length_field bytes) bytes))
go bytes n (Err k) = record { frames = []; rest = bytes }

stream_go : (n : ℕ) (bytes : List ℕ) (f : Frame) → frame_at bytes ≡ Ok f → stream_of (suc n) bytes ≡ stream_with f (stream_of n (drop (4 + length_field bytes) bytes))
unfolding stream_of
stream_go n bytes f e = ap (λ (r : Result Frame FrameKind). elim r as (λ _. Stream) [ Ok g ↦ stream_with g (stream_of n (drop (4 + length_field bytes) bytes)) | Err k ↦ record { frames = []; rest = bytes } ]) e

stream_stop : (n : ℕ) (bytes : List ℕ) (k : FrameKind) → frame_at bytes ≡ Err k → stream_of n bytes ≡ record { frames = []; rest = bytes }
unfolding stream_of
stream_stop zero bytes k e = refl
stream_stop (suc n) bytes k e = ap (λ (r : Result Frame FrameKind). elim r as (λ _. Stream) [ Ok g ↦ stream_with g (stream_of n (drop (4 + length_field bytes) bytes)) | Err j ↦ record { frames = []; rest = bytes } ]) e

past_spelling : (f : Frame) (rest : List ℕ) → is_frame f ≡ true → drop (4 + length_field (spelling f ++ rest)) (spelling f ++ rest) ≡ rest
past_spelling f rest h = drop_at (spelling f) rest (4 + length_field (spelling f ++ rest)) (length_spelling f ∙ ap (λ (n : ℕ). 4 + n) (sym (spelled_again f rest h).field))

stream_all : (n : ℕ) (frames : List Frame) (rest : List ℕ) (k : FrameKind) → length frames ≤ n → list_all is_frame frames ≡ true → frame_at rest ≡ Err k → stream_of n (flat_map spelling frames ++ rest) ≡ record { frames = frames; rest = rest }
stream_all n [] rest k le h e = stream_stop n rest k e
stream_all zero (f ∷ fs) rest k le h e = absurd (omega arith)
stream_all (suc n) (f ∷ fs) rest k le h e =
    let hs = and_parts (is_frame f) (list_all is_frame fs) h in
    let after : List ℕ = flat_map spelling fs ++ rest in
    let grouped : flat_map spelling (f ∷ fs) ++ rest ≡ spelling f ++ after = ap (λ (x : List ℕ). x ++ rest) (flat_map-cons spelling f fs) ∙ append_assoc (spelling f) (flat_map spelling fs) rest in
    let one : stream_of (suc n) (spelling f ++ after) ≡ stream_with f (stream_of n (drop (4 + length_field (spelling f ++ after)) (spelling f ++ after))) = stream_go n (spelling f ++ after) f (frame_at_again f after hs.0) in
    ap (stream_of (suc n)) grouped ∙ one ∙ ap (λ (x : List ℕ). stream_with f (stream_of n x)) (past_spelling f after hs.0) ∙ ap (stream_with f) (stream_all n fs rest k (omega arith) hs.1 e)

few_frames : (frames : List Frame) → length frames ≤ length (flat_map spelling frames)
few_frames [] = omega arith
few_frames (f ∷ fs) = omega (arith, few_frames fs, ap length (flat_map-cons spelling f fs), length-append (spelling f) (flat_map spelling fs), length_spelling f)

pub all_of : (fed : List ℕ) (frames : List Frame) (s : Splitter) (k : FrameKind) → IsSplit fed frames s → frame_at s.rest ≡ Err k → IsAllOf fed frames s.rest
unfolding stream
all_of fed frames s k i e =
    let le : length frames ≤ length fed = omega (arith, few_frames frames, ap length i.whole, length-append (flat_map spelling frames) s.rest) in
    ap (stream_of (length fed)) i.whole ∙ stream_all (length fed) frames s.rest k le i.each e

pub nothing_waits : frame_at [] ≡ Err Truncated
unfolding frame_at cut_fault
nothing_waits = refl

pub not_both : (k : FrameKind) → bad Truncated ≡ bad k → is_truncated k ≡ false → ⊥
not_both k e h = let t : is_truncated Truncated ≡ false = subst (λ (x : FrameKind). is_truncated x ≡ false) (sym (same_kind Truncated k e)) h in true≢false t

pub rest_fault_by : (rest : List ℕ) (k : FrameKind) → frame_at rest ≡ Err k → is_truncated k ≡ false → rest_fault rest ≡ Some k
rest_fault_by [] k e h = absurd (not_both k (sym nothing_waits ∙ e) h)
rest_fault_by (b ∷ bytes) k e h = ap (λ (r : Result Frame FrameKind). elim r as (λ _. Option FrameKind) [ Ok f ↦ None | Err fault ↦ Some fault ]) e

-- ---- what follows at a splitter's answers

pub none_follows : (bytes : List ℕ) (o : Option (LentFrame × ℕ)) (s : Splitter) → o ≡ None → FirstLent bytes (Ok o) → bytes ≡ s.rest → (fed : List ℕ) (frames : List Frame) → IsSplit fed frames s → IsSplit fed frames s × IsAllOf fed frames s.rest
none_follows bytes None s is h same fed frames i = (i, all_of fed frames s Truncated i (ap frame_at (sym same) ∙ h))
none_follows bytes (Some x) s is h same fed frames i = absurd cc

pub fault_follows : (bytes : List ℕ) (fail : FrameFail) (kind : FrameKind) (s : Splitter) → fail ≡ fails.Fault kind → FirstGives bytes (Err fail) → bytes ≡ s.rest → (fed : List ℕ) (frames : List Frame) → IsSplit fed frames s
    → IsSplit fed frames s × IsAllOf fed frames s.rest × (rest_fault s.rest ≡ Some kind) × (is_truncated kind ≡ false)
fault_follows bytes fail kind s is h same fed frames i =
    let g : (frame_at bytes ≡ Err kind) × (is_truncated kind ≡ false) = subst (λ (x : FrameFail). FirstGives bytes (Err x)) is h in
    let e : frame_at s.rest ≡ Err kind = ap frame_at (sym same) ∙ g.0 in
    (i, all_of fed frames s kind i e, rest_fault_by s.rest kind e g.1, g.1)

-- ---- what is read of bytes is spelled so

pub prefix_spells : (bytes : List ℕ) (f : Frame) → IsBytes bytes → frame_at bytes ≡ Ok f → Spells (take (4 + length_field bytes) bytes) f
prefix_spells bytes f fits e =
    let t = frame_at_taken bytes f fits e in
    let n = 4 + length_field bytes in
    let cut : take n bytes ≡ take n (spelling f ++ drop n bytes) = ap (take n) t.split in
    record { spelled = cut ∙ take_at (spelling f) (drop n bytes) n t.len; formed = t.formed }

-- the frames are well formed, and their spellings with the rest are the bytes
abbrev IsSpelledBy : List ℕ → Stream → Type 0
IsSpelledBy bytes s = (list_all is_frame s.frames ≡ true) × (bytes ≡ flat_map spelling s.frames ++ s.rest)

spelled_next : (n : ℕ) (bytes : List ℕ) (r : Result Frame FrameKind) → ((after : List ℕ) → IsBytes after → IsSpelledBy after (stream_of n after))
    → IsBytes bytes → frame_at bytes ≡ r → IsSpelledBy bytes (stream_of (suc n) bytes)
spelled_next n bytes (Err k) again fits e = subst (λ (s : Stream). IsSpelledBy bytes s) (sym (stream_stop (suc n) bytes k e)) (refl, refl)
spelled_next n bytes (Ok f) again fits e =
    let t = frame_at_taken bytes f fits e in
    let after : List ℕ = drop (4 + length_field bytes) bytes in
    let more = again after (IsBytes-drop (4 + length_field bytes) bytes fits) in
    let s : Stream = stream_of n after in
    let whole : bytes ≡ flat_map spelling (f ∷ s.frames) ++ s.rest =
    t.split ∙ ap (λ (x : List ℕ). spelling f ++ x) more.1 ∙ sym (append_assoc (spelling f) (flat_map spelling s.frames) s.rest) ∙ ap (λ (x : List ℕ). x ++ s.rest) (sym (flat_map-cons spelling f s.frames)) in
    subst (λ (x : Stream). IsSpelledBy bytes x) (sym (stream_go n bytes f e)) (and_from (is_frame f) (list_all is_frame s.frames) t.formed more.0, whole)

spelled_by : (n : ℕ) (bytes : List ℕ) → IsBytes bytes → IsSpelledBy bytes (stream_of n bytes)
unfolding stream_of
spelled_by zero bytes fits = (refl, refl)
spelled_by (suc n) bytes fits = spelled_next n bytes (frame_at bytes) (spelled_by n) fits refl

pub stream_spelled : (bytes : List ℕ) → IsBytes bytes → (list_all is_frame (stream bytes).frames ≡ true) × (bytes ≡ flat_map spelling (stream bytes).frames ++ (stream bytes).rest)
unfolding stream
stream_spelled bytes fits = spelled_by (length bytes) bytes fits

abbrev HasNoFrame : List ℕ → Type 0
HasNoFrame bytes = (kind : FrameKind) × (frame_at bytes ≡ Err kind)

rest_next : (n : ℕ) (bytes : List ℕ) (r : Result Frame FrameKind) → ((after : List ℕ) → IsBytes after → length after ≤ n → HasNoFrame (stream_of n after).rest)
    → IsBytes bytes → length bytes ≤ suc n → frame_at bytes ≡ r → HasNoFrame (stream_of (suc n) bytes).rest
rest_next n bytes (Err k) again fits le e = subst (λ (s : Stream). HasNoFrame s.rest) (sym (stream_stop (suc n) bytes k e)) (k, e)
rest_next n bytes (Ok f) again fits le e =
    let t = frame_at_taken bytes f fits e in
    let len = 4 + length_field bytes in
    let after : List ℕ = drop len bytes in
    let shorter : length after ≤ n = omega (arith, length-drop len bytes, le, ap length t.split, length-append (spelling f) after, t.len) in
    subst (λ (s : Stream). HasNoFrame s.rest) (sym (stream_go n bytes f e)) (again after (IsBytes-drop len bytes fits) shorter)

rest_by : (n : ℕ) (bytes : List ℕ) → IsBytes bytes → length bytes ≤ n → HasNoFrame (stream_of n bytes).rest
unfolding stream_of
rest_by zero [] fits le = (Truncated, nothing_waits)
rest_by zero (b ∷ bytes) fits le = absurd (omega arith)
rest_by (suc n) bytes fits le = rest_next n bytes (frame_at bytes) (rest_by n) fits le refl

pub stream_rest : (bytes : List ℕ) → IsBytes bytes → (kind : FrameKind) × (frame_at (stream bytes).rest ≡ Err kind)
unfolding stream
stream_rest bytes fits = rest_by (length bytes) bytes fits (omega arith)
