-- What the form means that feeds a stream to an intake.
use Rattle.std.specs.Prelude.{◌≡◌, ℕ, List, ◌++◌}
use Rattle.line_engine.specs.Form.{Meaning}
use Rattle.edit_frame.specs.declared.frame.Frame.{Frame}
use Rattle.edit_frame.specs.Splitter.{IsWaiting}
use Rattle.form_feed.specs.declared.feeding.Feeding.{Feeding}
use Rattle.form_feed.specs.Stream.{FrameTurn, output_from, stream_part, stream_after}

-- the bytes that are held come before those that are still to come
abbrev pub feed_meaning : {I : Type 0} → (I → Frame → FrameTurn I) → (I → List ℕ) → Meaning (Feeding I)
feed_meaning turn lines = record {
  output = λ f cut more. output_from turn lines cut f.intake f.splitter.offset (f.splitter.rest ++ more);
  part = λ f more. stream_part turn f.intake (f.splitter.rest ++ more);
  leaves = λ f cut more last. last.intake ≡ stream_after turn f.intake (f.splitter.rest ++ more);
  waits = λ f. IsWaiting f.splitter;
}
