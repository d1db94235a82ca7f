-- The lines of answers, each with its line end.
use Rattle.std.specs.Prelude.{ℕ, List, [], ◌∷◌, ◌++◌, Option, Some, None, decimal, codes}
use Rattle.std.specs.List.{concat}
use Rattle.line_spelling.specs.Line.{line_of}
use Rattle.policy_book.specs.declared.fault.EntryFault.{EntryFault}
use Rattle.policy_book.specs.declared.fault.EntryFault.TheVariants as faults
use Rattle.edit_message.specs.declared.message.Message.{Message}
use Rattle.edit_message.specs.declared.message.Message.TheVariants.{Coop, Admin}
use Rattle.edit_message.specs.declared.message.Missing.{Missing}
use Rattle.edit_message.specs.declared.message.Missing.TheVariants.{Element, Version}
use Rattle.request_state.specs.declared.state.Undone.{Undone}
use Rattle.request_state.specs.declared.state.State.{State}
use Rattle.request_state.specs.declared.state.State.TheVariants.{Tentative, Valid, Invalid}
use Rattle.peer_step.specs.declared.answer.Outcome.{Outcome}
use Rattle.peer_step.specs.declared.answer.Outcome.TheVariants as outcomes
use Rattle.peer_step.specs.declared.answer.Answer.{Answer}
use Rattle.peer_step.specs.declared.answer.Answer.TheVariants.{BadPlace, ClockEnd, HistoryFull, Denied, Done, NotAdministrator, LogFull, Refused, NotHere, NeedsNone}
use Rattle.peer_step.specs.declared.answer.Answer.TheVariants.{AlreadyInvalid, NothingTentative, Issued, Repeat, Conflict, OwnSite, OwnLog, Illegal, HoldFull, Held}
use Rattle.peer_step.specs.declared.answer.Answer.TheVariants.{Taken, Advanced, Quiet, Dropped, Settled, Item, Shown}
use Rattle.peer_step.specs.declared.lent.EditAnswer.{EditAnswer}
use Rattle.peer_step.specs.declared.lent.EditAnswer.TheVariants as told
use Rattle.peer_step.specs.declared.lent.RequestAnswer.{RequestAnswer}
use Rattle.peer_step.specs.declared.lent.RequestAnswer.TheVariants as came
use Rattle.line_spelling.specs.Values.{spaced, name_text, text_text}
use Rattle.line_spelling.specs.Steps.{message_text}

-- by which authorization something is denied
abbrev pub by_words : Option ℕ → List (List ℕ)
by_words (Some number) = codes "by" ∷ decimal number ∷ []
by_words None = codes "none" ∷ []

abbrev pub state_words : State → List (List ℕ)
state_words Tentative = codes "tentative" ∷ []
state_words (Valid at) = codes "valid" ∷ decimal at ∷ []
state_words (Invalid at by) = codes "invalid" ∷ decimal at ∷ by_words by

abbrev pub missing_words : Missing → List (List ℕ)
missing_words (Element name) = codes "element" ∷ name_text name ∷ []
missing_words (Version version) = codes "version" ∷ decimal version ∷ []

-- the fault's number, and the number that it carries
abbrev pub fault_words : EntryFault → List (List ℕ)
fault_words faults.UserThere = codes "1" ∷ []
fault_words faults.NoUser = codes "2" ∷ []
fault_words faults.IsAdministrator = codes "3" ∷ []
fault_words faults.ObjectThere = codes "4" ∷ []
fault_words faults.NoObject = codes "5" ∷ []
fault_words (faults.BadPlace len) = codes "6" ∷ decimal len ∷ []
fault_words (faults.TooMany limit) = codes "7" ∷ decimal limit ∷ []
fault_words (faults.ValidatedAt version) = codes "8" ∷ decimal version ∷ []
fault_words faults.GroupThere = codes "9" ∷ []
fault_words faults.NoGroup = codes "10" ∷ []
fault_words faults.MemberThere = codes "11" ∷ []
fault_words faults.NoMember = codes "12" ∷ []

-- the number of the issued message, where it is told
abbrev pub number_words : Option ℕ → List (List ℕ)
number_words (Some number) = decimal number ∷ []
number_words None = []

abbrev pub undone_words : Undone → List (List ℕ)
undone_words undone = codes "undone" ∷ decimal undone.count ∷ []

-- what was settled: a request's name, or the version that an entry makes
abbrev pub settled_words : Message → List (List ℕ)
settled_words (Coop q) = name_text q.id ∷ []
settled_words (Admin e) = codes "version" ∷ decimal e.version ∷ []

abbrev pub outcome_words : Outcome → List (List ℕ)
outcome_words (outcomes.Taken state) = state_words state
outcome_words (outcomes.Advanced undone) = undone_words undone

abbrev pub item_words : Option Message → List (List ℕ)
item_words (Some message) = codes "item" ∷ message_text message ∷ []
item_words None = codes "no" ∷ codes "item" ∷ []

-- a text that isn't empty
abbrev pub shown_words : List ℕ → List (List ℕ)
shown_words [] = []
shown_words (b ∷ bytes) = text_text (b ∷ bytes) ∷ []

abbrev pub answer_words : Option ℕ → Answer → List (List ℕ)
answer_words number (BadPlace len) = codes "no" ∷ codes "place" ∷ decimal len ∷ []
answer_words number ClockEnd = codes "clock" ∷ codes "end" ∷ []
answer_words number HistoryFull = codes "history" ∷ codes "full" ∷ []
answer_words number (Denied version by) = codes "denied" ∷ decimal version ∷ by_words by
answer_words number (Done q) = codes "done" ∷ number_words number ++ name_text q.id ∷ decimal q.version ∷ []
answer_words number NotAdministrator = codes "not" ∷ codes "administrator" ∷ []
answer_words number LogFull = codes "log" ∷ codes "full" ∷ []
answer_words number (Refused fault) = codes "refused" ∷ fault_words fault
answer_words number (NotHere missing) = codes "not" ∷ codes "here" ∷ missing_words missing
answer_words number NeedsNone = codes "needs" ∷ codes "none" ∷ []
answer_words number (AlreadyInvalid state) = codes "already" ∷ state_words state
answer_words number NothingTentative = codes "nothing" ∷ codes "tentative" ∷ []
answer_words number (Issued e undone) = codes "entry" ∷ number_words number ++ decimal e.version ∷ undone_words undone
answer_words number Repeat = codes "repeat" ∷ []
answer_words number (Conflict kept) = codes "conflict" ∷ message_text kept ∷ []
answer_words number OwnSite = codes "own" ∷ codes "site" ∷ []
answer_words number OwnLog = codes "own" ∷ codes "log" ∷ []
answer_words number (Illegal fault) = codes "illegal" ∷ fault_words fault
answer_words number HoldFull = codes "hold" ∷ codes "full" ∷ []
answer_words number (Held missing) = codes "held" ∷ missing_words missing
answer_words number (Taken state) = codes "taken" ∷ state_words state
answer_words number (Advanced e undone) = codes "version" ∷ decimal e.version ∷ undone_words undone
answer_words number Quiet = codes "quiet" ∷ []
answer_words number (Dropped e fault) = codes "dropped" ∷ decimal e.version ∷ fault_words fault
answer_words number (Settled message outcome) = codes "settled" ∷ settled_words message ++ outcome_words outcome
answer_words number (Item item) = item_words item
answer_words number (Shown text) = codes "show" ∷ shown_words (concat text)

abbrev pub answer_line : Option ℕ → Answer → List ℕ
answer_line number answer = line_of (spaced (answer_words number answer))

-- ---- what is told of an answer to an own edit

abbrev pub edit_answer_words : Option ℕ → EditAnswer → List (List ℕ)
edit_answer_words number (told.BadPlace len) = codes "no" ∷ codes "place" ∷ decimal len ∷ []
edit_answer_words number told.ClockEnd = codes "clock" ∷ codes "end" ∷ []
edit_answer_words number told.HistoryFull = codes "history" ∷ codes "full" ∷ []
edit_answer_words number (told.Denied version by) = codes "denied" ∷ decimal version ∷ by_words by
edit_answer_words number (told.Done id version) = codes "done" ∷ number_words number ++ name_text id ∷ decimal version ∷ []

-- ---- what is told of an answer to a request that comes

abbrev pub request_answer_words : RequestAnswer → List (List ℕ)
request_answer_words came.Repeat = codes "repeat" ∷ []
request_answer_words came.OwnSite = codes "own" ∷ codes "site" ∷ []
request_answer_words came.HistoryFull = codes "history" ∷ codes "full" ∷ []
request_answer_words came.HoldFull = codes "hold" ∷ codes "full" ∷ []
request_answer_words (came.Held missing) = codes "held" ∷ missing_words missing
request_answer_words (came.Taken state) = codes "taken" ∷ state_words state
