-- How steps are spelled as bodies.
use Rattle.std.specs.Prelude.{◌≡◌, ⊤, ℕ, ◌<◌, ◌^◌, Bool, true, false, not, List, [], ◌∷◌, ◌++◌, length, IsTrue}
use Rattle.std.specs.Int.{w32, to_be_bytes}
use Rattle.coop_request.specs.Piece.{is_piece}
use Rattle.policy_book.specs.declared.op.AdminOp.{AdminOp}
use Rattle.policy_book.specs.Entry.{is_entry_version}
use Rattle.edit_message.specs.declared.message.Message.{Message}
use Rattle.edit_message.specs.declared.message.Message.TheVariants.{Admin}
use Rattle.edit_message.specs.Formed.{is_message}
use Rattle.edit_frame.specs.declared.frame.Frame.TheVariants.{Item}
use Rattle.edit_frame.specs.Spelling.{spelling}
use Rattle.peer_step.specs.declared.step.LocalEdit.TheVariants.{Insert, Delete, Update}
use Rattle.peer_step.specs.declared.step.Step.{Step}
use Rattle.peer_step.specs.declared.step.Step.TheVariants.{Edit, Administer, Receive, Settle, ValidateNext, Look, Show}
use Rattle.peer_store.specs.declared.body.kinds.TheConstants.{INSERT, DELETE, UPDATE, ADMINISTER, RECEIVE, SETTLE, VALIDATE_NEXT}

-- the entry by which an operation makes a version
abbrev pub made_entry : ℕ → AdminOp → Message
made_entry version op = Admin (record { version = version; op = op })

-- a step's kind and its fields: a place, a piece behind its length, or a message's frame; a look has nothing
abbrev pub body_of : ℕ → Step → List ℕ
body_of version (Edit (Insert at piece)) = INSERT ∷ to_be_bytes w32 at ++ length piece ∷ piece
body_of version (Edit (Delete at)) = DELETE ∷ to_be_bytes w32 at
body_of version (Edit (Update at piece)) = UPDATE ∷ to_be_bytes w32 at ++ length piece ∷ piece
body_of version (Administer op) = ADMINISTER ∷ spelling (Item (made_entry version op))
body_of version (Receive m) = RECEIVE ∷ spelling (Item m)
body_of version Settle = SETTLE ∷ []
body_of version ValidateNext = VALIDATE_NEXT ∷ []
body_of version (Look from) = []
body_of version Show = []

-- it is no look, and what it brings is within its range and well formed
abbrev pub HasBody : ℕ → Step → Type 0
HasBody version (Edit (Insert at piece)) = (at < 2 ^ 32) × IsTrue (is_piece piece)
HasBody version (Edit (Delete at)) = at < 2 ^ 32
HasBody version (Edit (Update at piece)) = (at < 2 ^ 32) × IsTrue (is_piece piece)
HasBody version (Administer op) = IsTrue (is_message (made_entry version op))
HasBody version (Receive m) = IsTrue (is_message m)
HasBody version Settle = ⊤
HasBody version ValidateNext = ⊤
HasBody version (Look from) = ⊥
HasBody version Show = ⊥

-- the bytes are the body of the step
pub record IsBody (version : ℕ) (step : Step) (bytes : List ℕ) : Type 0 where
  pub spelled : bytes ≡ body_of version step
  pub has : HasBody version step

-- a look has no body, and neither has an operation that would make a version that no entry can make
abbrev pub has_no_body : ℕ → Step → Bool
has_no_body version (Edit edit) = false
has_no_body version (Administer op) = not (is_entry_version version)
has_no_body version (Receive m) = false
has_no_body version Settle = false
has_no_body version ValidateNext = false
has_no_body version (Look from) = true
has_no_body version Show = true
