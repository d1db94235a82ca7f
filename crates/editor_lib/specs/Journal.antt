-- Journals that bytes spell.
use Rattle.std.specs.Prelude.{◌≡◌, ℕ, true, List, map}
use Rattle.std.specs.List.{flat_map, list_all}
use Rattle.edit_message.specs.declared.message.Message.{Message}
use Rattle.edit_message.specs.Formed.{is_message}
use Rattle.edit_frame.specs.declared.frame.Frame.TheVariants.{Item}
use Rattle.edit_frame.specs.Spelling.{spelling}
use Rattle.peer_tables.specs.Journal.{IsWithin}
use Rattle.peer_core.specs.declared.restore.RestoreFail.{RestoreFail}
use Rattle.peer_core.specs.declared.restore.RestoreFail.TheVariants.{NotJournal, NoMemory}
use Rattle.editor_lib.specs.declared.journal.JournalFail.{JournalFail}
use Rattle.editor_lib.specs.declared.journal.JournalFail.TheVariants as fails

-- the bytes are the frames of these messages, one behind another, and each message is well formed
pub record SpellsRow (bytes : List ℕ) (messages : List Message) : Type 0 where
  pub whole : bytes ≡ flat_map spelling (map Item messages)
  pub formed : list_all is_message messages ≡ true

-- the bytes are the frames of a journal within its limits
pub record SpellsJournal (bytes : List ℕ) (journal : List Message) : Type 0 where
  pub whole : bytes ≡ flat_map spelling (map Item journal)
  pub within : IsWithin journal

-- messages that are no journal are bad
abbrev pub fail_by : RestoreFail → JournalFail
fail_by (NotJournal place) = fails.Bad
fail_by NoMemory = fails.NoMemory
