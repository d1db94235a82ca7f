-- How operations, messages and steps are written.
use Rattle.std.specs.Prelude.{ℕ, Bool, List, [], ◌∷◌, decimal, codes, if◌then◌else◌}
use Rattle.coop_request.specs.declared.edit.Edit.{Edit}
use Rattle.coop_request.specs.declared.edit.Edit.TheVariants as edits
use Rattle.policy_book.specs.declared.auth.Extent.{Extent}
use Rattle.policy_book.specs.declared.auth.Extent.TheVariants.{All, Span, Elems, By}
use Rattle.policy_book.specs.declared.auth.Auth.{Auth}
use Rattle.policy_book.specs.declared.op.AdminOp.{AdminOp}
use Rattle.policy_book.specs.declared.op.AdminOp.TheVariants.{AddUser, DelUser, AddObj, DelObj, AddGroup, DelGroup, AddMember, DelMember, AddAuth, DelAuth, Validate}
use Rattle.edit_message.specs.declared.message.Message.{Message}
use Rattle.edit_message.specs.declared.message.Message.TheVariants.{Coop, Admin}
use Rattle.peer_step.specs.declared.step.LocalEdit.{LocalEdit}
use Rattle.peer_step.specs.declared.step.LocalEdit.TheVariants as local
use Rattle.peer_step.specs.declared.step.Step.{Step}
use Rattle.peer_step.specs.declared.step.Step.TheVariants as steps
use Rattle.line_spelling.specs.Values.{spaced, name_text, piece_text, numbers_text, names_text, users_text, rights_text}

abbrev pub extent_words : Extent → List (List ℕ)
extent_words All = codes "all" ∷ []
extent_words (Span first last) = codes "span" ∷ name_text first ∷ name_text last ∷ []
extent_words (Elems names) = codes "elems" ∷ names_text names ∷ []
extent_words (By user) = codes "by" ∷ decimal user ∷ []

abbrev pub sign_text : Bool → List ℕ
sign_text grant = if grant then codes "+" else codes "-"

-- SIGN USERS RIGHTS OBJECTS
abbrev pub auth_words : Auth → List (List ℕ)
auth_words auth = sign_text auth.grant ∷ users_text auth.users ∷ rights_text auth.rights ∷ numbers_text auth.objects ∷ []

abbrev pub operation_words : AdminOp → List (List ℕ)
operation_words (AddUser user) = codes "adduser" ∷ decimal user ∷ []
operation_words (DelUser user) = codes "deluser" ∷ decimal user ∷ []
operation_words (AddObj number extent) = codes "addobj" ∷ decimal number ∷ extent_words extent
operation_words (DelObj number) = codes "delobj" ∷ decimal number ∷ []
operation_words (AddGroup group) = codes "addgroup" ∷ decimal group ∷ []
operation_words (DelGroup group) = codes "delgroup" ∷ decimal group ∷ []
operation_words (AddMember group user) = codes "addmember" ∷ decimal group ∷ decimal user ∷ []
operation_words (DelMember group user) = codes "delmember" ∷ decimal group ∷ decimal user ∷ []
operation_words (AddAuth place auth) = codes "addauth" ∷ decimal place ∷ auth_words auth
operation_words (DelAuth place) = codes "delauth" ∷ decimal place ∷ []
operation_words (Validate name) = codes "validate" ∷ name_text name ∷ []

abbrev pub edit_words : Edit → List (List ℕ)
edit_words (edits.Insert after letter) = codes "insert" ∷ name_text after ∷ piece_text letter ∷ []
edit_words (edits.Delete target) = codes "delete" ∷ name_text target ∷ []
edit_words (edits.Update target letter) = codes "update" ∷ name_text target ∷ piece_text letter ∷ []

abbrev pub message_words : Message → List (List ℕ)
message_words (Coop q) = codes "request" ∷ name_text q.id ∷ decimal q.version ∷ edit_words q.edit
message_words (Admin e) = codes "entry" ∷ decimal e.version ∷ operation_words e.op

abbrev pub message_text : Message → List ℕ
message_text message = spaced (message_words message)

abbrev pub local_words : LocalEdit → List (List ℕ)
local_words (local.Insert at letter) = codes "insert" ∷ decimal at ∷ piece_text letter ∷ []
local_words (local.Delete at) = codes "delete" ∷ decimal at ∷ []
local_words (local.Update at letter) = codes "update" ∷ decimal at ∷ piece_text letter ∷ []

abbrev pub step_words : Step → List (List ℕ)
step_words (steps.Edit edit) = codes "edit" ∷ local_words edit
step_words (steps.Administer op) = codes "admin" ∷ operation_words op
step_words (steps.Receive message) = codes "message" ∷ message_words message
step_words steps.Settle = codes "settle" ∷ []
step_words steps.ValidateNext = codes "validatenext" ∷ []
step_words (steps.Look from) = codes "look" ∷ decimal from ∷ []
step_words steps.Show = codes "show" ∷ []

-- the step line of a step, without its line end
abbrev pub step_text : Step → List ℕ
step_text step = spaced (step_words step)
