-- Peers that are made of a journal.
use Rattle.std.specs.Prelude.{◌≡◌, ℕ, ◌+◌, ◌<◌, Bool, true, false, not, ◌&&◌, is_none, is_some, List, [], ◌++◌, length, take, IsTrue}
use Rattle.coop_request.specs.Request.{Request}
use Rattle.edit_message.specs.declared.message.Message.{Message}
use Rattle.edit_message.specs.declared.message.Message.TheVariants.{Coop, Admin}
use Rattle.edit_message.specs.Message.{key_of, find_key, entries_of}
use Rattle.admin_log.specs.Log.{entry_fault}
use Rattle.peer_step.specs.declared.step.LocalEdit.{LocalEdit}
use Rattle.peer_step.specs.declared.step.Step.{Step}
use Rattle.peer_step.specs.declared.step.Step.TheVariants.{Edit, Administer, Receive, Settle, ValidateNext, Look, Show}
use Rattle.peer_step.specs.declared.answer.Answer.TheVariants.{Done}
use Rattle.peer_core.specs.declared.restore.RestoreFail.{RestoreFail}
use Rattle.peer_core.specs.declared.restore.RestoreFail.TheVariants.{NotJournal, NoMemory}
use Rattle.peer_tables.specs.Derived.{is_due}
use Rattle.peer_core.specs.Peer.{Peer}
use Rattle.peer_tables.specs.Journal.{IsWithin, has_key_of}
use Rattle.peer_core.specs.Sound.{IsSound}
use Rattle.peer_core.specs.Answers.{answer_edit, answer_of}

-- the peer of a site whose journal these messages are, and that holds nothing
abbrev pub peer_of_journal : ℕ → List Message → Peer
peer_of_journal site messages = record { site = site; journal = messages; held = [] }

-- the messages before this place, from 0, are a journal within its limits, and with the one there they aren't
pub record FailsJournalAt (messages : List Message) (place : ℕ) : Type 0 where
  pub there : place < length messages
  pub before : IsWithin (take place messages)
  pub fails : ¬ IsWithin (take (place + 1) messages)

-- why these messages give no peer; want of memory says nothing of them
abbrev pub IsRestoreFailOf : List Message → RestoreFail → Type 0
IsRestoreFailOf messages (NotJournal place) = FailsJournalAt messages place
IsRestoreFailOf messages NoMemory = Unit {0}

-- the message is an entry with a fault after the log of J
abbrev pub is_faulty : List Message → Message → Bool
is_faulty J (Coop q) = false
is_faulty J (Admin e) = is_some (entry_fault (entries_of J) e.op)

-- the message may be the next of the journal J: its key is new, it is due, and has no fault
abbrev pub may_be_next : List Message → Message → Bool
may_be_next J m = is_none (find_key (key_of m) J) && (is_due J m && not (is_faulty J m))

-- ---- laws

-- the messages fail at one place at most
abbrev pub OneFailLaw : Type 0
OneFailLaw = (messages : List Message) (i k : ℕ) → FailsJournalAt messages i → FailsJournalAt messages k → i ≡ k

-- where they are a journal within its limits they fail nowhere
abbrev pub NoFailLaw : Type 0
NoFailLaw = (messages : List Message) (i : ℕ) → IsWithin messages → ¬ FailsJournalAt messages i

-- a site's peer of a journal within its limits is sound
abbrev pub RestoredSound : Type 0
RestoredSound = (site : ℕ) (J : List Message) → IsWithin J → IsSound (peer_of_journal site J)

-- a step that neither brings a message nor settles a held one
abbrev pub is_own_step : Step → Bool
is_own_step (Edit edit) = true
is_own_step (Administer op) = true
is_own_step (Receive m) = false
is_own_step Settle = false
is_own_step ValidateNext = true
is_own_step (Look from) = true
is_own_step Show = true

-- the peer of a peer's journal answers its own steps as that peer does, whatever that one holds
abbrev pub OwnStepLaw : Type 0
OwnStepLaw = (p : Peer) (step : Step) → IsTrue (is_own_step step) → answer_of (peer_of_journal p.site p.journal) step ≡ answer_of p step

-- the name of a request that a sound peer makes is none in its journal or its hold
abbrev pub FreshNameLaw : Type 0
FreshNameLaw = (p : Peer) (edit : LocalEdit) (q : Request) → IsSound p → answer_edit p edit ≡ Done q → has_key_of (p.journal ++ p.held) (Coop q) ≡ false
