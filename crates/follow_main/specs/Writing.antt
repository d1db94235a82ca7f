-- What the messages of a journal write.
use Rattle.std.specs.Prelude.{ℕ, List, Option, Some, None, option_and_then, slice_get, if◌then◌else◌}
use Rattle.element_name.specs.declared.name.Name.{Name}
use Rattle.coop_request.specs.declared.edit.Edit.{Edit}
use Rattle.coop_request.specs.declared.edit.Edit.TheVariants.{Insert, Update, Delete}
use Rattle.edit_message.specs.declared.message.Message.{Message}
use Rattle.edit_message.specs.declared.message.Message.TheVariants.{Coop, Admin}
use Rattle.follow_core.specs.declared.event.FollowEvent.{FollowEvent}
use Rattle.follow_core.specs.Past.{follow_peer, is_request_of}

-- the element and the piece of what the edit of a request of this name writes; none of a deletion
abbrev pub edit_writes : Name → Edit → Option (Name × List ℕ)
edit_writes id (Insert after letter) = Some (id, letter)
edit_writes id (Update target letter) = Some (target, letter)
edit_writes id (Delete target) = None

-- the same of a message; none of an entry
abbrev pub writes : Message → Option (Name × List ℕ)
writes (Coop request) = edit_writes request.id request.edit
writes (Admin entry) = None

-- what the message at a place of a follower's journal writes, if it is the device's own
abbrev pub own_writes : List FollowEvent → ℕ → Option (Name × List ℕ)
own_writes events place =
    option_and_then (λ m. if is_request_of (follow_peer events).site m then writes m else None) (slice_get (follow_peer events).journal place)
