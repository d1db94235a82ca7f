-- What a frame has.
use Rattle.std.specs.Prelude.{Option, Some, None}
use Rattle.edit_message.specs.declared.message.Message.{Message}
use Rattle.edit_frame.specs.declared.frame.Frame.{Frame}
use Rattle.edit_frame.specs.declared.frame.Frame.TheVariants.{Item, Turn, End}

-- the message of a frame, if it is one
abbrev pub item_of : Frame → Option Message
item_of (Item m) = Some m
item_of Turn = None
item_of End = None
