-- Messages and their keys, and the requests and the entries in a list of them.
use Rattle.std.specs.Prelude.{Bool, false, ◌==◌, List, Option, Some, None, find, filter_map}
use Rattle.element_name.specs.Name.{name_eq}
use Rattle.coop_request.specs.Request.{Request}
use Rattle.policy_book.specs.Entry.{Entry}
use Rattle.edit_message.specs.declared.message.Message.{Message}
use Rattle.edit_message.specs.declared.message.Message.TheVariants.{Coop, Admin}
use Rattle.edit_message.specs.declared.message.Key.{Key}
use Rattle.edit_message.specs.declared.message.Key.TheVariants as keys

-- by what a message is known: a request's name, an entry's version
abbrev pub key_of : Message → Key
key_of (Coop q) = keys.Coop q.id
key_of (Admin e) = keys.Admin e.version

-- a and b are one key
abbrev pub key_eq : Key → Key → Bool
key_eq (keys.Coop a) (keys.Coop b) = name_eq a b
key_eq (keys.Admin a) (keys.Admin b) = a == b
key_eq (keys.Coop a) (keys.Admin b) = false
key_eq (keys.Admin a) (keys.Coop b) = false

-- the first message of a key
abbrev pub find_key : Key → List Message → Option Message
find_key key messages = find (λ m. key_eq (key_of m) key) messages

abbrev pub request_in : Message → Option Request
request_in (Coop q) = Some q
request_in (Admin e) = None

abbrev pub entry_in : Message → Option Entry
entry_in (Coop q) = None
entry_in (Admin e) = Some e

abbrev pub requests_of : List Message → List Request
requests_of messages = filter_map request_in messages

abbrev pub entries_of : List Message → List Entry
entries_of messages = filter_map entry_in messages
