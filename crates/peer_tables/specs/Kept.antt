-- What is kept of a journal beside its items.
use Rattle.std.specs.Prelude.{◌≡◌, ℕ, ◌≤◌, ◌<◌, Bool, true, false, Some, List, [], ◌∷◌, ◌++◌, Option, length, option_map, is_some, Contains, ◌^◌, ◌-◌, IsTrue, if◌then◌else◌, None}
use Rattle.std.specs.List.{list_all}
use Rattle.element_name.specs.Name.{Name, has_name}
use Rattle.element_name.specs.Tree.{with_fresh}
use Rattle.coop_request.specs.declared.edit.Edit.{Edit}
use Rattle.coop_request.specs.declared.edit.Edit.TheVariants.{Insert, Delete, Update}
use Rattle.coop_request.specs.declared.request.TheConstants.{MAX_REQUESTS}
use Rattle.coop_request.specs.Request.{Request}
use Rattle.coop_request.specs.History.{text_order, elements_of, request_of, IsHistory}
use Rattle.policy_book.specs.Entry.{Entry}
use Rattle.auth_match.specs.declared.verdict.Judged.{Judged}
use Rattle.auth_match.specs.declared.verdict.Judged.TheVariants.{There, Fresh}
use Rattle.edit_message.specs.declared.message.Message.{Message}
use Rattle.edit_message.specs.Message.{requests_of, entries_of}
use Rattle.edit_message.specs.Formed.{is_message}
use Rattle.request_state.specs.declared.kept.Kept.{Kept}
use Rattle.request_state.specs.declared.state.State.{State}
use Rattle.request_state.specs.State.{is_tentative, is_invalid}
use Rattle.admin_log.specs.Log.{FollowsLog, IsLog}
use Rattle.check_remote.specs.State.{state_of}
use Rattle.check_remote.specs.Laws.{have_span_ends}
use Rattle.std.specs.Option.{option_map_or}
use Rattle.request_state.specs.declared.state.State.TheVariants.{Valid}
use Rattle.request_state.specs.Table.{kept_of, is_in_order, with_state, has_element, kept_state as table_state}
use Rattle.elem_show.specs.Text.{shown_of}
use Rattle.tomb_seq.specs.declared.slot.Slot.{Slot}
use Rattle.tomb_seq.specs.Insert.{insert_fault}
use Rattle.tomb_seq.specs.Slots.{slots_by, with_new}
use Rattle.peer_tables.specs.Derived.{state_in, counted_in, greatest_stamp}
use Rattle.peer_tables.specs.Journal.{IsJournal}

-- ---- one more request

-- the elements in text order, with one more where the edit is an insert
abbrev pub names_after : List Name → Name → Edit → List Name
names_after names id (Insert after letter) = with_fresh names id after
names_after names id (Delete target) = names
names_after names id (Update target letter) = names

-- the same of slots: the new one doesn't show yet
abbrev pub slots_after : List Slot → Name → Edit → List Slot
slots_after slots id (Insert after letter) = with_new slots id after
slots_after slots id (Delete target) = slots
slots_after slots id (Update target letter) = slots

-- what a request is judged on: a new element, or its target
abbrev pub judged_by : Name → Edit → Judged
judged_by id (Insert after letter) = Fresh id after
judged_by id (Delete target) = There target
judged_by id (Update target letter) = There target

-- an insert's element may be put in
abbrev pub IsPlaceable : List Name → Name → Edit → Type 0
IsPlaceable names id (Insert after letter) = insert_fault names id after ≡ None
IsPlaceable names id (Delete target) = has_name names target ≡ true
IsPlaceable names id (Update target letter) = has_name names target ≡ true

-- the counted requests, with one more unless its state is Invalid
abbrev pub counted_more : List Request → Request → State → List Request
counted_more counted q state = if is_invalid state then counted else counted ++ q ∷ []

-- none has the name of q, its element is there, and few requests are
pub record IsJoinable (table : List Kept) (q : Request) : Type 0 where
  pub new : kept_of table q.id ≡ None
  pub element : has_element table q ≡ true
  pub few : length table < 2 ^ 32 - 1

-- a state that is given is that of the request
abbrev pub IsGivenState : Option State → List Name → List Entry → Request → Type 0
IsGivenState None names log q = Unit {0}
IsGivenState (Some state) names log q = state ≡ state_of names log q

-- the request of a name is Tentative
abbrev pub is_tentative_in : List Kept → Name → Bool
is_tentative_in table n = option_map_or is_tentative (table_state table n) false

-- ---- all of it

-- whether an element shows, of requests R and a log L
abbrev pub shows_in : List Request → List Entry → Name → Bool
shows_in R L e = is_some (shown_of R (counted_in R L) e)

-- a request with its state
abbrev pub kept_in : List Request → List Entry → Request → Kept
kept_in R L q = record { request = q; state = state_in R L q }

-- what is kept of requests R and a log L: the elements in text order with their marks, the states, the greatest stamp
pub record AreTablesOf (R : List Request) (L : List Entry) (slots : List Slot) (table : List Kept) (stamp : ℕ) : Type 0 where
  pub marked : slots ≡ slots_by (shows_in R L) (text_order R)
  pub states : (n : Name) → kept_of table n ≡ option_map (kept_in R L) (request_of R n)
  pub in_order : is_in_order table ≡ true
  pub size : length table ≡ length R
  pub greatest : stamp ≡ greatest_stamp R

-- what is known of the requests R and the log L of a journal: a history, a log, spans that end at elements, and carried versions of the log
pub record AreKnown (R : List Request) (L : List Entry) : Type 0 where
  pub history : IsHistory R
  pub log : IsLog L
  pub spans : have_span_ends (elements_of R) L ≡ true
  pub versions : (q : Request) → Contains R q → q.version ≤ length L

-- what is kept is that of some requests, of which few are, and the entry may follow the log
pub record IsAdvancing (log : List Entry) (slots : List Slot) (table : List Kept) (e : Entry) : Type 0 where
  pub requests : List Request
  pub stamp : ℕ
  pub kept : AreTablesOf requests log slots table stamp
  pub known : AreKnown requests log
  pub few : length requests ≤ MAX_REQUESTS
  pub follows : FollowsLog log e

-- the states, where the request of a name is Valid at the version if it was Tentative
abbrev pub states_confirmed : Option Name → ℕ → List Kept → List Kept
states_confirmed None version table = table
states_confirmed (Some n) version table = if is_tentative_in table n then with_state table n (Valid version) else table

-- what is kept of a journal within its limits
pub record IsKeptOf (J : List Message) (log : List Entry) (slots : List Slot) (table : List Kept) (stamp count : ℕ) : Type 0 where
  pub journal : IsJournal J
  pub formed : IsTrue (list_all is_message J)
  pub few : length (requests_of J) ≤ MAX_REQUESTS
  pub counted : count ≡ length (requests_of J)
  pub entries : log ≡ entries_of J
  pub kept : AreTablesOf (requests_of J) log slots table stamp
