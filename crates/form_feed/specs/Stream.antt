-- What is written of a stream of frames, by what is written of each and what takes them in.
use Rattle.std.specs.Prelude.{ℕ, ◌+◌, ◌-◌, Bool, true, not, ◌&&◌, List, [], ◌∷◌, ◌++◌, Option, Some, None, length, is_none, option_and_then, if◌then◌else◌}
use Rattle.element_name.specs.Cases.{when}
use Rattle.line_engine.specs.declared.status.Status.TheVariants.{Done, BadInput}
use Rattle.line_engine.specs.Output.{Output, after_bytes, too_long}
use Rattle.line_engine.specs.Input.{is_cut, counted_bytes}
use Rattle.edit_frame.specs.declared.frame.Frame.{Frame}
use Rattle.edit_frame.specs.declared.frame.FrameKind.{FrameKind}
use Rattle.edit_frame.specs.Reading.{stream, rest_fault}
use Rattle.edit_frame.specs.Splitter.{is_truncated}
use Rattle.report_text.specs.Frame.{frame_fault_line}

-- what is written of frames, and the intake after them
pub record FrameTurn (I : Type 0) : Type 0 where
  pub reply : List ℕ
  pub after : I

-- frames, one after the other
abbrev pub frames_turn : {I : Type 0} → (I → Frame → FrameTurn I) → I → List Frame → FrameTurn I
frames_turn turn i [] = record { reply = []; after = i }
frames_turn turn i (f ∷ fs) = let later = frames_turn turn (turn i f).after fs in record {
  reply = (turn i f).reply ++ later.reply;
  after = later.after;
}

-- the fault of a rest that counts: where the stream goes on behind it, it is none that the rest is cut
abbrev pub counted_fault : Bool → List ℕ → Option FrameKind
counted_fault cut rest = option_and_then (λ kind. when (not (cut && is_truncated kind)) kind) (rest_fault rest)

-- the line of a bad frame, and the status
abbrev pub bad_frame : ℕ → FrameKind → Output
bad_frame offset kind = record { written = frame_fault_line (record { offset = offset; kind = kind }); status = BadInput }

-- what is written at the end, of the input or of the part of it that counts, where the rest of it has no fault
abbrev pub closing : Bool → List ℕ → Output
closing cut lines = if cut then too_long else record { written = lines; status = Done }

-- what is written at the rest, which begins at this place of the stream and has this fault or none
abbrev pub stream_ending : Output → ℕ → Option FrameKind → Output
stream_ending end offset (Some kind) = bad_frame offset kind
stream_ending end offset None = end

-- what is written of a stream's bytes from this place on: of its frames, and then at its rest
unfoldable pub output_from : {I : Type 0} → (I → Frame → FrameTurn I) → (I → List ℕ) → Bool → I → ℕ → List ℕ → Output
output_from turn lines cut i offset bytes =
    let s = stream bytes in
    let all = frames_turn turn i s.frames in
    after_bytes all.reply (stream_ending (closing cut (lines all.after)) (offset + (length bytes - length s.rest)) (counted_fault cut s.rest))

-- what is written of an input
abbrev pub stream_output : {I : Type 0} → (I → Frame → FrameTurn I) → (I → List ℕ) → I → List ℕ → Output
stream_output turn lines i input = output_from turn lines (is_cut input) i 0 (counted_bytes input)

-- what is written of bytes after which reading fails: of their frames; none where their rest has a fault, other than that it is cut
unfoldable pub stream_part : {I : Type 0} → (I → Frame → FrameTurn I) → I → List ℕ → Option (List ℕ)
stream_part turn i bytes = let s = stream bytes in when (is_none (counted_fault true s.rest)) (frames_turn turn i s.frames).reply

-- the intake after the frames of a stream's bytes
unfoldable pub stream_after : {I : Type 0} → (I → Frame → FrameTurn I) → I → List ℕ → I
stream_after turn i bytes = (frames_turn turn i (stream bytes).frames).after
