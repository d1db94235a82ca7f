-- The laws of journals.
use Rattle.std.specs.Prelude.{◌≡◌, ℕ, ◌≤◌, ◌+◌, List, [], ◌∷◌, ◌++◌, length, Contains, true}
use Rattle.element_name.specs.Name.{Name, has_name}
use Rattle.element_name.specs.Tree.{before}
use Rattle.coop_request.specs.Request.{Request}
use Rattle.coop_request.specs.History.{placed_of, elements_of, text_order, IsHistory}
use Rattle.edit_message.specs.declared.message.Message.{Message}
use Rattle.edit_message.specs.declared.message.Message.TheVariants.{Coop, Admin}
use Rattle.edit_message.specs.Message.{requests_of, entries_of}
use Rattle.policy_book.specs.Entry.{Entry}
use Rattle.auth_match.specs.Requests.{request_verdict}
use Rattle.admin_log.specs.Log.{IsLog, policy_of, validates}
use Rattle.check_remote.specs.Laws.{state_after_entry, have_span_ends}
use Rattle.check_remote.specs.State.{verdict_at}
use Rattle.peer_tables.specs.Derived.{state_in, cell_in, text_in}
use Rattle.peer_tables.specs.Journal.{IsJournal}

-- ---- what a journal consists of

-- its requests are a history
abbrev pub HistoryLaw : Type 0
HistoryLaw = (J : List Message) → IsJournal J → IsHistory (requests_of J)

-- its entries are a log
abbrev pub LogLaw : Type 0
LogLaw = (J : List Message) → IsJournal J → IsLog (entries_of J)

-- each end of a span in its log is an element
abbrev pub SpanLaw : Type 0
SpanLaw = (J : List Message) → IsJournal J → have_span_ends (elements_of (requests_of J)) (entries_of J) ≡ true

-- each request carries a version of its log
abbrev pub VersionLaw : Type 0
VersionLaw = (J : List Message) (q : Request) → IsJournal J → Contains (requests_of J) q → q.version ≤ length (entries_of J)

-- ---- stable: one more message changes nothing old but what an entry is to change

-- no order between old elements changes
abbrev pub StableBefore : Type 0
StableBefore = (J : List Message) (m : Message) (a b : Name) → IsJournal (J ++ m ∷ [])
    → has_name (elements_of (requests_of J)) a ≡ true → has_name (elements_of (requests_of J)) b ≡ true
    → before (placed_of (requests_of (J ++ m ∷ []))) a b ≡ before (placed_of (requests_of J)) a b

-- no verdict on an old request at an old version changes
abbrev pub StableVerdictAt : Type 0
StableVerdictAt = (J : List Message) (m : Message) (q : Request) (v : ℕ) → IsJournal (J ++ m ∷ []) → Contains (requests_of J) q → v ≤ length (entries_of J)
    → verdict_at (text_order (requests_of (J ++ m ∷ []))) (entries_of (J ++ m ∷ [])) q v
    ≡ verdict_at (text_order (requests_of J)) (entries_of J) q v

-- a request changes no old state
abbrev pub StableState : Type 0
StableState = (J : List Message) (q r : Request) → IsJournal (J ++ Coop r ∷ []) → Contains (requests_of J) q
    → state_in (requests_of (J ++ Coop r ∷ [])) (entries_of (J ++ Coop r ∷ [])) q ≡ state_in (requests_of J) (entries_of J) q

-- an entry changes only Tentative ones: to Invalid where its policy denies, and otherwise to Valid where it validates
abbrev pub StableUnderEntry : Type 0
StableUnderEntry = (J : List Message) (q : Request) (e : Entry) → IsJournal (J ++ Admin e ∷ []) → Contains (requests_of J) q
    → state_in (requests_of (J ++ Admin e ∷ [])) (entries_of (J ++ Admin e ∷ [])) q
    ≡ state_after_entry (state_in (requests_of J) (entries_of J) q) (length (entries_of J) + 1)
    (request_verdict (text_order (requests_of J)) (policy_of (entries_of J ++ e ∷ [])) q) (validates q.id e.op)

-- ---- set: journals with the same requests and the same log look alike

-- both are journals, with the same requests, in whatever order, and the same log
pub record HaveSameSets (J K : List Message) : Type 0 where
  pub first : IsJournal J
  pub second : IsJournal K
  pub forth : (q : Request) → Contains (requests_of J) q → Contains (requests_of K) q
  pub back : (q : Request) → Contains (requests_of K) q → Contains (requests_of J) q
  pub logs : entries_of J ≡ entries_of K

-- they give the same order, states, cells and text
pub record LookAlike (J K : List Message) : Type 0 where
  pub orders : text_order (requests_of J) ≡ text_order (requests_of K)
  pub states : (q : Request) → state_in (requests_of J) (entries_of J) q ≡ state_in (requests_of K) (entries_of K) q
  pub cells : (e : Name) → cell_in (requests_of J) (entries_of J) e ≡ cell_in (requests_of K) (entries_of K) e
  pub texts : text_in (requests_of J) (entries_of J) ≡ text_in (requests_of K) (entries_of K)

abbrev pub SetLaw : Type 0
SetLaw = (J K : List Message) → HaveSameSets J K → LookAlike J K
