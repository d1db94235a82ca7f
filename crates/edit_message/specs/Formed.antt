-- Messages that are well formed: names, versions and numbers in their ranges, pieces of text, ascending lists, accepted requests, numbered entries.
use Rattle.std.specs.Prelude.{Bool, ◌&&◌, is_none}
use Rattle.policy_book.specs.Lists.{is_name}
use Rattle.policy_book.specs.Entry.{is_entry}
use Rattle.coop_request.specs.Piece.{is_piece}
use Rattle.coop_request.specs.Request.{Request, request_fault}
use Rattle.coop_request.specs.declared.edit.Edit.{Edit}
use Rattle.coop_request.specs.declared.edit.Edit.TheVariants.{Insert, Delete, Update}
use Rattle.edit_message.specs.declared.message.Message.{Message}
use Rattle.edit_message.specs.declared.message.Message.TheVariants.{Coop, Admin}

abbrev pub is_edit : Edit → Bool
is_edit (Insert after letter) = is_name after && is_piece letter
is_edit (Delete target) = is_name target
is_edit (Update target letter) = is_name target && is_piece letter

-- its parts are in their ranges, and it is accepted
abbrev pub is_request : Request → Bool
is_request q = is_name q.id && (is_edit q.edit && is_none (request_fault q))

-- what a peer may be given
abbrev pub is_message : Message → Bool
is_message (Coop q) = is_request q
is_message (Admin e) = is_entry e
