-- Where a list of messages is no journal.
use Rattle.std.specs.Prelude.{ℕ, ◌+◌, ◌≡◌, List}
use Rattle.edit_message.specs.declared.message.Message.{Message}
use Rattle.peer_core.specs.Restore.{FailsJournalAt}
use Rattle.audit_cert.specs.declared.fail.CertFail.{CertFail}
use Rattle.audit_cert.specs.declared.fail.CertFail.TheVariants.{NotJournal, NoMemory}

-- why these messages have no certificate: they fail at message k, from 1; want of memory says nothing of them
abbrev pub IsFailOf : List Message → CertFail → Type 0
IsFailOf messages (NotJournal k) = (place : ℕ) × (k ≡ place + 1) × FailsJournalAt messages place
IsFailOf messages NoMemory = Unit {0}
