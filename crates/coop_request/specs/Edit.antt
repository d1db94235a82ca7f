-- What is asked of an edit.
use Rattle.std.specs.Prelude.{ℕ, Bool, true, false, List, Option, Some, None}
use Rattle.element_name.specs.Cases.{when}
use Rattle.element_name.specs.Name.{Name, start, name_eq}
use Rattle.element_name.specs.Tree.{Placed}
use Rattle.coop_request.specs.declared.edit.Edit.{Edit}
use Rattle.coop_request.specs.declared.edit.Edit.TheVariants.{Insert, Delete, Update}
use Rattle.coop_request.specs.declared.edit.Right.{Right}
use Rattle.coop_request.specs.declared.edit.Right.TheVariants as rights

-- the anchor of an insert, the target of another edit
abbrev pub anchor_or_target : Edit → Name
anchor_or_target (Insert after letter) = after
anchor_or_target (Delete target) = target
anchor_or_target (Update target letter) = target

abbrev pub is_insert : Edit → Bool
is_insert (Insert after letter) = true
is_insert (Delete target) = false
is_insert (Update target letter) = false

-- the piece that an insert or update brings
abbrev pub piece_in : Edit → Option (List ℕ)
piece_in (Insert after letter) = Some letter
piece_in (Delete target) = None
piece_in (Update target letter) = Some letter

-- the right that it needs
abbrev pub right_of : Edit → Right
right_of (Insert after letter) = rights.Insert
right_of (Delete target) = rights.Delete
right_of (Update target letter) = rights.Update

-- a delete or update of `start`
abbrev pub targets_start : Edit → Bool
targets_start (Insert after letter) = false
targets_start (Delete target) = name_eq target start
targets_start (Update target letter) = name_eq target start

-- the name of the judged element: a new element has the request's own name
abbrev pub element_by : Name → Edit → Name
element_by id (Insert after letter) = id
element_by id (Delete target) = target
element_by id (Update target letter) = target

-- the name of the element that an insert makes
abbrev pub new_element_by : Name → Edit → Option Name
new_element_by id edit = when (is_insert edit) id

-- the element that an insert makes, with its anchor
abbrev pub placed_by : Name → Edit → Option Placed
placed_by id (Insert after letter) = Some (record { name = id; anchor = after })
placed_by id (Delete target) = None
placed_by id (Update target letter) = None
