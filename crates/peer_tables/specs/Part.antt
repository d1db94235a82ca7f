-- What an item of a journal holds.
use Rattle.edit_message.specs.declared.message.Message.{Message}
use Rattle.edit_message.specs.declared.message.Message.TheVariants.{Coop, Admin}
use Rattle.peer_tables.specs.declared.item.Part.{Part}
use Rattle.peer_tables.specs.declared.item.Part.TheVariants as parts

-- the message of a borrowed request or entry
abbrev pub message_of_part : Part → Message
message_of_part (parts.Request request) = Coop request.now
message_of_part (parts.Entry entry) = Admin entry.now
