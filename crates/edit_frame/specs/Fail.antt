-- Which fault of a frame it is that a field can't be read.
use Rattle.edit_frame.specs.declared.fail.FieldFail.{FieldFail}
use Rattle.edit_frame.specs.declared.fail.FieldFail.TheVariants as fields
use Rattle.edit_frame.specs.declared.fail.FrameFail.{FrameFail}
use Rattle.edit_frame.specs.declared.fail.FrameFail.TheVariants as frames
use Rattle.edit_frame.specs.declared.frame.FrameKind.TheVariants.{BadField}

-- a field that isn't there, or isn't allowed, is a bad field of its frame
abbrev pub fault_by : FieldFail → FrameFail
fault_by fields.NoMemory = frames.NoMemory
fault_by fields.Bad = frames.Fault BadField
