-- Frames whose piece is lent.
use Rattle.edit_message.specs.declared.message.Message.TheVariants.{Coop, Admin}
use Rattle.edit_frame.specs.declared.frame.Frame.{Frame}
use Rattle.edit_frame.specs.declared.frame.Frame.TheVariants as frames
use Rattle.edit_frame.specs.declared.lent_frame.LentFrame.{LentFrame}
use Rattle.edit_frame.specs.declared.lent_frame.LentFrame.TheVariants as lent

-- the same frame with its piece in place
abbrev pub frame_lent : LentFrame → Frame
frame_lent (lent.Request q) = frames.Item (Coop q)
frame_lent (lent.Entry e) = frames.Item (Admin e)
frame_lent lent.Turn = frames.Turn
frame_lent lent.End = frames.End
