-- Which lists of messages are journals.
use Rattle.std.specs.Prelude.{◌≡◌, ◌≤◌, Bool, false, List, None, length, IsTrue}
use Rattle.std.specs.List.{list_any, list_all}
use Rattle.element_name.specs.declared.limits.TheConstants.{MAX_VERSION}
use Rattle.element_name.specs.Growing.{EachAfter}
use Rattle.coop_request.specs.declared.request.TheConstants.{MAX_REQUESTS}
use Rattle.coop_request.specs.Request.{IsAccepted}
use Rattle.coop_request.specs.History.{elements_of}
use Rattle.policy_book.specs.Entry.{Entry}
use Rattle.edit_message.specs.declared.message.Message.{Message}
use Rattle.edit_message.specs.declared.message.Message.TheVariants.{Coop, Admin}
use Rattle.edit_message.specs.Formed.{is_message}
use Rattle.edit_message.specs.Message.{key_of, key_eq, requests_of, entries_of}
use Rattle.edit_message.specs.Missing.{missing_of}
use Rattle.admin_log.specs.Log.{entry_fault}

-- the message is known among these by its key
abbrev pub has_key_of : List Message → Message → Bool
has_key_of messages m = list_any (λ k. key_eq (key_of k) (key_of m)) messages

-- a request is accepted, an entry is legal after these
abbrev pub IsLegalAfter : List Entry → Message → Type 0
IsLegalAfter L (Coop q) = IsAccepted q
IsLegalAfter L (Admin e) = entry_fault L e.op ≡ None

-- m may follow these messages: its key is new, it misses nothing, and it is legal
pub record FollowsJournal (journal : List Message) (m : Message) : Type 0 where
  pub new : has_key_of journal m ≡ false
  pub complete : missing_of (length (entries_of journal)) (elements_of (requests_of journal)) m ≡ None
  pub legal : IsLegalAfter (entries_of journal) m

-- each message follows those before it
abbrev pub IsJournal : List Message → Type 0
IsJournal journal = EachAfter FollowsJournal journal

-- a journal of well-formed messages within its limits
pub record IsWithin (journal : List Message) : Type 0 where
  pub journal_is : IsJournal journal
  pub formed : IsTrue (list_all is_message journal)
  pub requests : length (requests_of journal) ≤ MAX_REQUESTS
  pub entries : length (entries_of journal) ≤ MAX_VERSION
