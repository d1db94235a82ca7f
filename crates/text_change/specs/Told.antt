-- Steps whose changes are told.
use Rattle.std.specs.Prelude.{◌≡◌, ◌≤◌, Bool, true, false, List, Option, None, Some, length, option_and_then}
use Rattle.coop_request.specs.Request.{Request}
use Rattle.edit_message.specs.Message.{request_in}
use Rattle.peer_step.specs.declared.answer.Answer.{Answer}
use Rattle.peer_step.specs.declared.answer.Answer.TheVariants.{Done}
use Rattle.peer_step.specs.declared.step.LocalEdit.{LocalEdit}
use Rattle.peer_step.specs.declared.step.Step.{Step}
use Rattle.peer_step.specs.declared.step.Step.TheVariants.{Edit, Administer, Receive, Settle, ValidateNext, Look, Show}
use Rattle.peer_core.specs.Changes.{due_message}
use Rattle.peer_core.specs.Peer.{Peer, history, log, text, undone_since}
use Rattle.text_change.specs.Rows.{text_told}

-- another site's request that a step may integrate
abbrev pub request_by : Peer → Step → Option Request
request_by p (Edit edit) = None
request_by p (Administer op) = None
request_by p (Receive m) = request_in m
request_by p Settle = option_and_then request_in (due_message p)
request_by p ValidateNext = None
request_by p (Look from) = None
request_by p Show = None

-- the edit of a step that edits
abbrev pub step_edit : Step → Option LocalEdit
step_edit (Edit edit) = Some edit
step_edit step = None

-- an edit is made
abbrev pub is_done : Answer → Bool
is_done (Done q) = true
is_done answer = false

-- the rows tell what changed: at most one where no entry came, and at most as many as requests were undone where no request came
pub record AreRowsOf (old new : Peer) (rows : List LocalEdit) : Type 0 where
  pub text : text_told (text old) rows ≡ text new
  pub one : log new ≡ log old → length rows ≤ 1
  pub few : history new ≡ history old → length rows ≤ undone_since old new
