-- What a packed request holds.
use Rattle.std.specs.Prelude.{ℕ}
use Rattle.element_name.specs.Name.{Name, IsName}
use Rattle.coop_request.specs.declared.edit.Edit.{Edit}
use Rattle.coop_request.specs.declared.edit.Edit.TheVariants.{Insert, Delete, Update}
use Rattle.coop_request.specs.Request.{Request, IsAccepted}
use Rattle.coop_request.specs.declared.packed_request.PackedEdit.{PackedEdit}
use Rattle.coop_request.specs.declared.packed_request.PackedEdit.TheVariants as packed

-- the edit of an anchor or target
abbrev pub edit_in : Name → PackedEdit → Edit
edit_in other (packed.Insert letter) = Insert other letter
edit_in other packed.Delete = Delete other
edit_in other (packed.Update letter) = Update other letter

abbrev pub request_of_parts : Name → Name → ℕ → PackedEdit → Request
request_of_parts id other version edit = record { id = id; version = version; edit = edit_in other edit }

-- the parts of an accepted request
pub record HoldsRequest (id other : Name) (version : ℕ) (edit : PackedEdit) : Type 0 where
  pub id_is : IsName id
  pub other_is : IsName other
  pub accepted : IsAccepted (request_of_parts id other version edit)
