-- How the checker keeps a frame.
use Rattle.edit_frame.specs.declared.frame.Frame.{Frame}
use Rattle.edit_frame.specs.declared.frame.Frame.TheVariants.{Item, Turn, End}
use Rattle.audit_cert.specs.declared.kept_frame.Part.{Part}
use Rattle.audit_cert.specs.declared.kept_frame.Part.TheVariants as parts

-- the frame that is kept so
abbrev pub frame_of_part : Part → Frame
frame_of_part (parts.Item m) = Item m
frame_of_part parts.Turn = Turn
frame_of_part parts.End = End
