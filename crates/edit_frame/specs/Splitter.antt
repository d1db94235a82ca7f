-- A stream that comes in chunks: how far its frames were given, and the bytes that were fed since.
use Rattle.std.specs.Prelude.{◌≡◌, ℕ, ◌+◌, ◌≤◌, Bool, true, false, IsTrue, List, [], ◌∷◌, ◌++◌, Option, Some, None, Result, Ok, Err, length, drop}
use Rattle.std.specs.List.{flat_map, list_all}
use Rattle.edit_frame.specs.declared.frame.Frame.{Frame}
use Rattle.edit_frame.specs.declared.frame.FrameKind.{FrameKind}
use Rattle.edit_frame.specs.declared.frame.FrameKind.TheVariants.{BadLength, BadKind, BadField, LeftOver, Truncated, BadRequest}
use Rattle.edit_frame.specs.declared.limits.TheConstants.{LENGTH_BYTES}
use Rattle.edit_frame.specs.declared.fail.FrameFail.{FrameFail}
use Rattle.edit_frame.specs.declared.fail.FrameFail.TheVariants as frames
use Rattle.edit_frame.specs.declared.frame.DecodeFail.{DecodeFail}
use Rattle.edit_frame.specs.declared.frame.DecodeFail.TheVariants as decodes
use Rattle.edit_frame.specs.declared.lent_frame.LentFrame.{LentFrame}
use Rattle.edit_frame.specs.Lent.{frame_lent}
use Rattle.edit_frame.specs.Spelling.{spelling}
use Rattle.edit_frame.specs.Spells.{is_frame}
use Rattle.edit_frame.specs.Reading.{length_field, frame_at, takes_memory, stream, rest_fault}

-- how many bytes the frames that were given have, and the bytes that were fed after them
pub record Splitter : Type 0 where
  pub offset : ℕ
  pub rest : List ℕ

-- past the first frame
abbrev pub past_frame : Splitter → Splitter
past_frame s = record { offset = s.offset + (LENGTH_BYTES + length_field s.rest); rest = drop (LENGTH_BYTES + length_field s.rest) s.rest }

-- the rest is empty or cut, and nothing else is wrong with it
abbrev pub IsWaiting : Splitter → Type 0
IsWaiting s = frame_at s.rest ≡ Err Truncated

-- it is the fault of bytes that end too early
abbrev pub is_truncated : FrameKind → Bool
is_truncated Truncated = true
is_truncated BadLength = false
is_truncated BadKind = false
is_truncated BadField = false
is_truncated LeftOver = false
is_truncated (BadRequest fault) = false

-- what is answered about the first frame of the bytes: a frame and its length, nothing yet, its fault, or that memory is wanting
abbrev pub FirstGives : List ℕ → Result (Option (Frame × ℕ)) FrameFail → Type 0
FirstGives bytes (Ok (Some x)) =
    (frame_at bytes ≡ Ok x.0) × (x.1 ≡ LENGTH_BYTES + length_field bytes) × (x.1 ≤ length bytes)
    × (bytes ≡ spelling x.0 ++ drop x.1 bytes) × (is_frame x.0 ≡ true)
FirstGives bytes (Ok None) = frame_at bytes ≡ Err Truncated
FirstGives bytes (Err (frames.Fault kind)) = (frame_at bytes ≡ Err kind) × (is_truncated kind ≡ false)
FirstGives bytes (Err frames.NoMemory) = IsTrue (takes_memory bytes)

-- what is answered about the first frame of the bytes, where it is lent
abbrev pub FirstLent : List ℕ → Result (Option (LentFrame × ℕ)) FrameFail → Type 0
FirstLent bytes (Ok (Some x)) = FirstGives bytes (Ok (Some (frame_lent x.0, x.1)))
FirstLent bytes (Ok None) = FirstGives bytes (Ok None)
FirstLent bytes (Err fail) = FirstGives bytes (Err fail)

-- past so many bytes
abbrev pub past_bytes : ℕ → Splitter → Splitter
past_bytes len s = record { offset = s.offset + len; rest = drop len s.rest }

-- the same answer with the frame's piece in place, and without its length
abbrev pub answer_lent : Result (Option (LentFrame × ℕ)) DecodeFail → Result (Option Frame) DecodeFail
answer_lent (Ok (Some x)) = Ok (Some (frame_lent x.0))
answer_lent (Ok None) = Ok None
answer_lent (Err fail) = Err fail

-- past the frame that is answered, if one is
abbrev pub past_answer : Result (Option (LentFrame × ℕ)) DecodeFail → Splitter → Splitter
past_answer (Ok (Some x)) s = past_bytes x.1 s
past_answer (Ok None) s = s
past_answer (Err fail) s = s

-- the frame that is answered, if one is, lies within the bytes
abbrev pub IsLentWithin : List ℕ → Result (Option (LentFrame × ℕ)) DecodeFail → Type 0
IsLentWithin bytes (Ok (Some x)) = x.1 ≤ length bytes
IsLentWithin bytes (Ok None) = Unit {0}
IsLentWithin bytes (Err fail) = Unit {0}

-- what is answered about the next frame, and what is left
abbrev pub NextGives : Splitter → Result (Option Frame) DecodeFail → Splitter → Type 0
NextGives old (Ok (Some f)) new = (frame_at old.rest ≡ Ok f) × (new ≡ past_frame old)
NextGives old (Ok None) new = IsWaiting old × (new ≡ old)
NextGives old (Err (decodes.Fault fault)) new =
    (frame_at old.rest ≡ Err fault.kind) × (is_truncated fault.kind ≡ false) × (fault.offset ≡ old.offset) × (new ≡ old)
NextGives old (Err decodes.NoMemory) new = IsTrue (takes_memory old.rest) × (new ≡ old)

-- a frame that is given is taken from the rest, so that asking again and again ends
abbrev pub Shortens : Splitter → Result (Option Frame) DecodeFail → Splitter → Type 0
Shortens old (Ok (Some f)) new = length new.rest + LENGTH_BYTES ≤ length old.rest
Shortens old (Ok None) new = Unit {0}
Shortens old (Err fail) new = Unit {0}

-- what was fed is the spellings of the frames that were given, and the rest
pub record IsSplit (fed : List ℕ) (frames : List Frame) (s : Splitter) : Type 0 where
  pub whole : fed ≡ flat_map spelling frames ++ s.rest
  pub each : list_all is_frame frames ≡ true
  pub place : s.offset ≡ length (flat_map spelling frames)

-- the stream is these frames and then the rest, which doesn't begin with one
abbrev pub IsAllOf : List ℕ → List Frame → List ℕ → Type 0
IsAllOf fed frames rest = stream fed ≡ record { frames = frames; rest = rest }

-- where these frames of what was fed were given before: the next one, or that these are all, with the fault of the rest
abbrev pub GivesNextFrame : List ℕ → List Frame → Result (Option Frame) DecodeFail → Splitter → Type 0
GivesNextFrame fed frames (Ok (Some f)) new = IsSplit fed (frames ++ f ∷ []) new
GivesNextFrame fed frames (Ok None) new = IsSplit fed frames new × IsAllOf fed frames new.rest
GivesNextFrame fed frames (Err (decodes.Fault fault)) new =
    IsSplit fed frames new × IsAllOf fed frames new.rest × (rest_fault new.rest ≡ Some fault.kind) × (is_truncated fault.kind ≡ false)
GivesNextFrame fed frames (Err decodes.NoMemory) new = IsSplit fed frames new
