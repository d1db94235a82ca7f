-- Own edits whose pieces lie elsewhere, and answers without the requests that they would have.
use Rattle.std.specs.Prelude.{◌≡◌, Bool, true, false, Option, Some, None}
use Rattle.peer_step.specs.declared.step.LocalEdit.{LocalEdit}
use Rattle.peer_step.specs.declared.step.LocalEdit.TheVariants as edits
use Rattle.peer_step.specs.declared.answer.Answer.{Answer}
use Rattle.peer_step.specs.declared.answer.Answer.TheVariants.{BadPlace, ClockEnd, HistoryFull, Denied, Done, Repeat, Conflict, OwnSite, HoldFull, Held, Taken}
use Rattle.peer_step.specs.declared.lent.LentLocalEdit.{LentLocalEdit}
use Rattle.peer_step.specs.declared.lent.LentLocalEdit.TheVariants.{Insert, Delete, Update}
use Rattle.peer_step.specs.declared.lent.EditAnswer.{EditAnswer}
use Rattle.peer_step.specs.declared.lent.EditAnswer.TheVariants as told
use Rattle.peer_step.specs.declared.lent.RequestAnswer.{RequestAnswer}
use Rattle.peer_step.specs.declared.lent.RequestAnswer.TheVariants as came

-- the edit with its piece
abbrev pub local_edit_lent : LentLocalEdit → LocalEdit
local_edit_lent (Insert at letter) = edits.Insert at letter
local_edit_lent (Delete at) = edits.Delete at
local_edit_lent (Update at letter) = edits.Update at letter

-- what an answer to an own edit tells; none where no own edit is answered so
abbrev pub edit_answer_of : Answer → Option EditAnswer
edit_answer_of (BadPlace len) = Some (told.BadPlace len)
edit_answer_of ClockEnd = Some told.ClockEnd
edit_answer_of HistoryFull = Some told.HistoryFull
edit_answer_of (Denied version by) = Some (told.Denied version by)
edit_answer_of (Done q) = Some (told.Done q.id q.version)
edit_answer_of answer = None

-- the answer to a request that comes, where it is told
abbrev pub answer_told : RequestAnswer → Answer
answer_told came.Repeat = Repeat
answer_told came.OwnSite = OwnSite
answer_told came.HistoryFull = HistoryFull
answer_told came.HoldFull = HoldFull
answer_told (came.Held what) = Held what
answer_told (came.Taken state) = Taken state

-- it says that another message of its key is here
abbrev pub is_conflict : Answer → Bool
is_conflict (Conflict kept) = true
is_conflict answer = false

-- what is told of an answer to a request that comes: all of it, and nothing where another one of its name is here
abbrev pub IsAnswerTold : Answer → Option RequestAnswer → Type 0
IsAnswerTold answer (Some told) = answer ≡ answer_told told
IsAnswerTold answer None = is_conflict answer ≡ true
