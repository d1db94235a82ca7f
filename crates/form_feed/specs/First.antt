-- What becomes of the first frame of the bytes that are held.
use Rattle.std.specs.Prelude.{◌≡◌, ℕ, ◌≤◌, ◌<◌, false, List, [], Ok, Err, length}
use Rattle.edit_frame.specs.declared.frame.Frame.{Frame}
use Rattle.edit_frame.specs.declared.frame.FrameFault.{FrameFault}
use Rattle.edit_frame.specs.Reading.{frame_at}
use Rattle.edit_frame.specs.Splitter.{Splitter, past_frame, past_bytes, IsWaiting, is_truncated}
use Rattle.report_text.specs.Frame.{frame_fault_line}
use Rattle.form_feed.specs.declared.feeding.First.{First}
use Rattle.form_feed.specs.declared.feeding.First.TheVariants.{Taken, Waiting, Bad}
use Rattle.form_feed.specs.Stream.{FrameTurn}

-- a frame of so many bytes stands first, and is taken in
pub record IsTakenIn {I : Type 0} (turn : I → Frame → FrameTurn I) (s : Splitter) (old : I) (len : ℕ) (new : I) (written : List ℕ) : Type 0 where
  pub frame : Frame
  pub first : frame_at s.rest ≡ Ok frame
  pub past : past_bytes len s ≡ past_frame s
  pub within : len ≤ length s.rest
  pub shortens : length (past_bytes len s).rest < length s.rest
  pub after : new ≡ (turn old frame).after
  pub reply : written ≡ (turn old frame).reply

-- a bad frame stands first, and its line is written
pub record IsTold (s : Splitter) (written : List ℕ) : Type 0 where
  pub fault : FrameFault
  pub first : frame_at s.rest ≡ Err fault.kind
  pub whole : is_truncated fault.kind ≡ false
  pub place : fault.offset ≡ s.offset
  pub line : written ≡ frame_fault_line fault

-- what became of the first frame
abbrev pub TakesFirst : {I : Type 0} → (I → Frame → FrameTurn I) → Splitter → I → First → I → List ℕ → Type 0
TakesFirst turn s old (Taken len) new written = IsTakenIn turn s old len new written
TakesFirst turn s old Waiting new written = IsWaiting s × (new ≡ old) × (written ≡ [])
TakesFirst turn s old Bad new written = IsTold s written × (new ≡ old)
