-- What a packed message holds.
use Rattle.edit_message.specs.declared.message.Message.{Message}
use Rattle.edit_message.specs.declared.message.Message.TheVariants.{Coop, Admin}
use Rattle.edit_message.specs.declared.packed_message.Packed.{Packed}
use Rattle.edit_message.specs.declared.packed_message.Packed.TheVariants as packed

-- the message of a packed request, or of the entry in a box
abbrev pub message_in : Packed → Message
message_in (packed.Coop request) = Coop request
message_in (packed.Admin entry) = Admin entry.value
