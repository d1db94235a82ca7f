-- What a run keeps of answers.
use Rattle.std.specs.Prelude.{◌≡◌, ℕ, Bool, true, false, List, [], ◌∷◌, Some, None, slice_get, take}
use Rattle.edit_message.specs.declared.message.Message.TheVariants.{Coop, Admin}
use Rattle.peer_step.specs.declared.lent.EditAnswer.TheVariants as told
use Rattle.peer_step.specs.declared.answer.Answer.{Answer}
use Rattle.peer_step.specs.declared.answer.Answer.TheVariants.{BadPlace, ClockEnd, HistoryFull, Denied, Done, NotAdministrator, LogFull, Refused, NotHere, NeedsNone}
use Rattle.peer_step.specs.declared.answer.Answer.TheVariants.{AlreadyInvalid, NothingTentative, Issued, Repeat, Conflict, OwnSite, OwnLog, Illegal, HoldFull, Held}
use Rattle.peer_step.specs.declared.answer.Answer.TheVariants.{Taken, Advanced, Quiet, Dropped, Settled, Item, Shown}
use Rattle.peer_core.specs.Peer.{Peer, fresh_peer}
use Rattle.peer_core.specs.Answers.{answer_of}
use Rattle.peer_core.specs.After.{peer_after}
use Rattle.peer_lock.specs.declared.call.Call.{Call}
use Rattle.peer_lock.specs.declared.kept_answer.KeptAnswer.{KeptAnswer}
use Rattle.peer_lock.specs.declared.kept_answer.KeptAnswer.TheVariants as kept
use Rattle.peer_lock.specs.Run.{peer_after_run, Recorded}

-- what is kept of an answer: all that is told of it but a text
abbrev pub kept_answer_of : Answer → KeptAnswer
kept_answer_of (BadPlace len) = kept.Edit (told.BadPlace len)
kept_answer_of ClockEnd = kept.Edit told.ClockEnd
kept_answer_of HistoryFull = kept.Edit told.HistoryFull
kept_answer_of (Denied version by) = kept.Edit (told.Denied version by)
kept_answer_of (Done q) = kept.Edit (told.Done q.id q.version)
kept_answer_of NotAdministrator = kept.NotAdministrator
kept_answer_of LogFull = kept.LogFull
kept_answer_of (Refused fault) = kept.Refused fault
kept_answer_of (NotHere missing) = kept.NotHere missing
kept_answer_of NeedsNone = kept.NeedsNone
kept_answer_of (AlreadyInvalid state) = kept.AlreadyInvalid state
kept_answer_of NothingTentative = kept.NothingTentative
kept_answer_of (Issued e undone) = kept.Issued e.version undone
kept_answer_of Repeat = kept.Repeat
kept_answer_of (Conflict message) = kept.Conflict message
kept_answer_of OwnSite = kept.OwnSite
kept_answer_of OwnLog = kept.OwnLog
kept_answer_of (Illegal fault) = kept.Illegal fault
kept_answer_of HoldFull = kept.HoldFull
kept_answer_of (Held missing) = kept.Held missing
kept_answer_of (Taken state) = kept.Taken state
kept_answer_of (Advanced e undone) = kept.Advanced e.version undone
kept_answer_of Quiet = kept.Quiet
kept_answer_of (Dropped e fault) = kept.Dropped e.version fault
kept_answer_of (Settled (Coop q) outcome) = kept.SettledRequest q.id outcome
kept_answer_of (Settled (Admin e) outcome) = kept.SettledEntry e.version outcome
kept_answer_of (Item (Some message)) = kept.Item message
kept_answer_of (Item None) = kept.NoItem
kept_answer_of (Shown text) = kept.Shown

-- the answer gives a message, of which a copy is kept
abbrev pub gives_message : Answer → Bool
gives_message (Conflict message) = true
gives_message (Item (Some message)) = true
gives_message answer = false

-- what is kept of the answers along a run from this peer on
abbrev pub answers_along : Peer → List Call → List KeptAnswer
answers_along p [] = []
answers_along p (e ∷ es) = kept_answer_of (answer_of p e.step) ∷ answers_along (peer_after p e.step) es

-- what is kept of the answer to the step at this place: it is the plain peer's there
abbrev pub AnswerAt : Recorded → ℕ → KeptAnswer → Type 0
AnswerAt r i answer = (e : Call) × (slice_get r.run i ≡ Some e) × (answer ≡ kept_answer_of (answer_of (peer_after_run (fresh_peer r.site) (take i r.run)) e.step))
