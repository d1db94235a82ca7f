-- What is kept of a journal while it is read.
use Rattle.std.specs.Prelude.{◌≡◌, ℕ, Bool, true, ◌&&◌, nat_lt, nat_le, is_none, List, [], length}
use Rattle.std.specs.List.{concat, list_any}
use Rattle.element_name.specs.Name.{Name, name_eq, has_name}
use Rattle.coop_request.specs.declared.edit.Edit.{Edit}
use Rattle.coop_request.specs.declared.edit.Edit.TheVariants.{Insert, Delete, Update}
use Rattle.coop_request.specs.declared.request.TheConstants.{MAX_REQUESTS}
use Rattle.coop_request.specs.Request.{Request, element_of}
use Rattle.coop_request.specs.History.{text_order}
use Rattle.policy_book.specs.Entry.{Entry}
use Rattle.edit_message.specs.declared.message.Key.{Key}
use Rattle.edit_message.specs.declared.message.Key.TheVariants as keys
use Rattle.edit_message.specs.declared.message.Message.{Message}
use Rattle.edit_message.specs.declared.message.Message.TheVariants.{Coop, Admin}
use Rattle.edit_message.specs.Message.{requests_of, entries_of}
use Rattle.edit_message.specs.Missing.{missing_end}
use Rattle.admin_log.specs.Log.{push_fault}
use Rattle.tomb_seq.specs.Insert.{insert_fault}
use Rattle.peer_tables.specs.Journal.{IsWithin}
use Rattle.audit_cert.specs.Certificate.{request_lines}

-- of a journal within its limits: its log, its elements in text order, and the names of its requests
pub record IsBasisOf (J : List Message) (log : List Entry) (names : List Name) (ids : List Name) : Type 0 where
  pub within : IsWithin J
  pub entries : log ≡ entries_of J
  pub elements : names ≡ text_order (requests_of J)
  pub known : (n : Name) → has_name ids n ≡ list_any (λ r. name_eq r.id n) (requests_of J)
  pub count : length ids ≡ length (requests_of J)

-- an insert's element may be put in, another edit's target is there
abbrev pub is_placeable : List Name → Name → Edit → Bool
is_placeable names id (Insert after letter) = is_none (insert_fault names id after)
is_placeable names id (Delete target) = has_name names target
is_placeable names id (Update target letter) = has_name names target

-- a message of this key was read
abbrev pub is_known : ℕ → List Name → Key → Bool
is_known front ids (keys.Coop id) = has_name ids id
is_known front ids (keys.Admin version) = nat_le version front

-- there is room for one more request, its version is there, and so is what it is placed by
abbrev pub may_join : ℕ → List Name → ℕ → Request → Bool
may_join front names requests q = nat_lt requests MAX_REQUESTS && (nat_le q.version front && is_placeable names q.id q.edit)

-- the ends of its span are there, and it may be the next entry
abbrev pub may_extend : List Entry → List Name → Entry → Bool
may_extend log names e = is_none (missing_end names e.op) && is_none (push_fault log e)

-- the request carries a version of the log, and its element is one of these
abbrev pub is_judgeable : List Name → ℕ → Request → Bool
is_judgeable names front q = nat_le q.version front && has_name names (element_of q)

-- so is a message, if it is a request
abbrev pub may_be_judged : List Name → ℕ → Message → Bool
may_be_judged names front (Coop q) = is_judgeable names front q
may_be_judged names front (Admin e) = true

-- the bytes of the lines of a message, which are those of its request
abbrev pub message_bytes : List Name → List Entry → Message → List ℕ
message_bytes names log (Coop q) = concat (request_lines names log q)
message_bytes names log (Admin e) = []
