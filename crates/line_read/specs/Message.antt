-- MESSAGE: messages, by the words that they are written in.
use Rattle.std.specs.Prelude.{ℕ, List, [], ◌∷◌, Option, None, option_map, is_none, codes}
use Rattle.element_name.specs.declared.limits.TheConstants.{MAX_VERSION}
use Rattle.element_name.specs.Cases.{when, ◌>>=◌}
use Rattle.element_name.specs.Name.{Name}
use Rattle.coop_request.specs.declared.edit.Edit.{Edit}
use Rattle.coop_request.specs.declared.edit.Edit.TheVariants.{Insert, Delete, Update}
use Rattle.coop_request.specs.Request.{Request, request_fault}
use Rattle.policy_book.specs.Entry.{is_entry_version}
use Rattle.edit_message.specs.declared.message.Message.{Message}
use Rattle.edit_message.specs.declared.message.Message.TheVariants.{Coop, Admin}
use Rattle.line_read.specs.Words.{beside, two_words}
use Rattle.line_read.specs.Numbers.{read_number, read_name, one_name}
use Rattle.line_read.specs.Pieces.{read_piece}
use Rattle.line_read.specs.Operation.{read_operation}

-- NAME LETTER
abbrev pub name_and_piece : List (List ℕ) → Option (Name × List ℕ)
name_and_piece = two_words read_name read_piece

-- the edit of a request
unfoldable pub read_edit : List ℕ → List (List ℕ) → Option Edit
read_edit word args = beside word (
    (codes "insert", option_map (λ pair. Insert pair.0 pair.1) (name_and_piece args))
    ∷ (codes "delete", option_map Delete (one_name args))
    ∷ (codes "update", option_map (λ pair. Update pair.0 pair.1) (name_and_piece args))
    ∷ [])
    None

-- a request that is accepted
abbrev pub accepted : Request → Option Message
accepted q = when (is_none (request_fault q)) (Coop q)

-- NAME VERSION and the edit
unfoldable pub read_request : List (List ℕ) → Option Message
read_request (name ∷ number ∷ word ∷ args) = do
  id ← read_name name
  version ← read_number MAX_VERSION number
  edit ← read_edit word args
  accepted (record { id = id; version = version; edit = edit })
read_request args = None

-- VERSION OP, the version from 1
unfoldable pub read_entry : List (List ℕ) → Option Message
read_entry (number ∷ words) = do
  version ← read_number MAX_VERSION number
  op ← read_operation words
  when (is_entry_version version) (Admin (record { version = version; op = op }))
read_entry args = None

unfoldable pub read_message : List (List ℕ) → Option Message
read_message (word ∷ args) = beside word ((codes "request", read_request args) ∷ (codes "entry", read_entry args) ∷ []) None
read_message [] = None
