-- What became of an own edit.
use Rattle.peer_step.specs.declared.answer.Answer.{Answer}
use Rattle.peer_step.specs.declared.answer.Answer.TheVariants.{BadPlace, ClockEnd, HistoryFull, Denied, Done}
use Rattle.peer_core.specs.declared.peer.edits.EditRefusal.{EditRefusal}
use Rattle.peer_core.specs.declared.peer.edits.EditRefusal.TheVariants as refusals
use Rattle.peer_core.specs.declared.peer.edits.Edited.{Edited}
use Rattle.peer_core.specs.declared.peer.edits.Edited.TheVariants.{Refused, Made}

-- the answer to an edit that is refused
abbrev pub answer_refused : EditRefusal → Answer
answer_refused (refusals.BadPlace len) = BadPlace len
answer_refused refusals.ClockEnd = ClockEnd
answer_refused refusals.HistoryFull = HistoryFull
answer_refused (refusals.Denied version by) = Denied version by

-- the answer to an edit
abbrev pub answer_edited : Edited → Answer
answer_edited (Refused refusal) = answer_refused refusal
answer_edited (Made q) = Done q
