-- The lines of answers, by what a run keeps of them.
use Rattle.std.specs.Prelude.{◌≢◌, ℕ, List, [], ◌∷◌, None, decimal, codes}
use Rattle.line_spelling.specs.Values.{name_text}
use Rattle.line_spelling.specs.Steps.{message_text}
use Rattle.line_spelling.specs.Answers.{state_words, missing_words, fault_words, undone_words, outcome_words, edit_answer_words}
use Rattle.peer_lock.specs.declared.kept_answer.KeptAnswer.{KeptAnswer}
use Rattle.peer_lock.specs.declared.kept_answer.KeptAnswer.TheVariants.{Edit, NotAdministrator, LogFull, Refused, NotHere, NeedsNone, AlreadyInvalid, NothingTentative}
use Rattle.peer_lock.specs.declared.kept_answer.KeptAnswer.TheVariants.{Issued, Repeat, Conflict, OwnSite, OwnLog, Illegal, HoldFull, Held}
use Rattle.peer_lock.specs.declared.kept_answer.KeptAnswer.TheVariants.{Taken, Advanced, Quiet, Dropped, SettledRequest, SettledEntry, Item, NoItem, Shown}
use Rattle.peer_lock.specs.Run.{Recorded}
use Rattle.peer_lock.specs.KeptAnswers.{AnswerAt}

-- the words of an answer of which this is kept, but of one that is a text
abbrev pub kept_answer_words : KeptAnswer → List (List ℕ)
kept_answer_words (Edit told) = edit_answer_words None told
kept_answer_words NotAdministrator = codes "not" ∷ codes "administrator" ∷ []
kept_answer_words LogFull = codes "log" ∷ codes "full" ∷ []
kept_answer_words (Refused fault) = codes "refused" ∷ fault_words fault
kept_answer_words (NotHere missing) = codes "not" ∷ codes "here" ∷ missing_words missing
kept_answer_words NeedsNone = codes "needs" ∷ codes "none" ∷ []
kept_answer_words (AlreadyInvalid state) = codes "already" ∷ state_words state
kept_answer_words NothingTentative = codes "nothing" ∷ codes "tentative" ∷ []
kept_answer_words (Issued version undone) = codes "entry" ∷ decimal version ∷ undone_words undone
kept_answer_words Repeat = codes "repeat" ∷ []
kept_answer_words (Conflict message) = codes "conflict" ∷ message_text message ∷ []
kept_answer_words OwnSite = codes "own" ∷ codes "site" ∷ []
kept_answer_words OwnLog = codes "own" ∷ codes "log" ∷ []
kept_answer_words (Illegal fault) = codes "illegal" ∷ fault_words fault
kept_answer_words HoldFull = codes "hold" ∷ codes "full" ∷ []
kept_answer_words (Held missing) = codes "held" ∷ missing_words missing
kept_answer_words (Taken state) = codes "taken" ∷ state_words state
kept_answer_words (Advanced version undone) = codes "version" ∷ decimal version ∷ undone_words undone
kept_answer_words Quiet = codes "quiet" ∷ []
kept_answer_words (Dropped version fault) = codes "dropped" ∷ decimal version ∷ fault_words fault
kept_answer_words (SettledRequest id outcome) = codes "settled" ∷ name_text id ∷ outcome_words outcome
kept_answer_words (SettledEntry version outcome) = codes "settled" ∷ codes "version" ∷ decimal version ∷ outcome_words outcome
kept_answer_words (Item message) = codes "item" ∷ message_text message ∷ []
kept_answer_words NoItem = codes "no" ∷ codes "item" ∷ []
kept_answer_words Shown = []

-- no step of the run is answered by a text
abbrev pub ShowsNothing : Recorded → Type 0
ShowsNothing r = (i : ℕ) (answer : KeptAnswer) → AnswerAt r i answer → answer ≢ Shown
