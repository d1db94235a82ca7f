-- The one spelling of each frame.
use Rattle.std.specs.Prelude.{ℕ, ◌+◌, ◌*◌, ◌^◌, Bool, List, [], ◌∷◌, ◌++◌, length, slice_index, ◌==◌, if◌then◌else◌}
use Rattle.std.specs.List.{flat_map}
use Rattle.std.specs.Int.{w16, w32, w64, to_be_bytes}
use Rattle.std.specs.Str.{chars}
use Rattle.element_name.specs.Name.{Name}
use Rattle.coop_request.specs.declared.edit.Edit.{Edit}
use Rattle.coop_request.specs.declared.edit.Edit.TheVariants.{Insert, Delete, Update}
use Rattle.coop_request.specs.Request.{Request}
use Rattle.policy_book.specs.Rights.{Rights}
use Rattle.policy_book.specs.Entry.{Entry}
use Rattle.policy_book.specs.declared.auth.Extent.{Extent}
use Rattle.policy_book.specs.declared.auth.Extent.TheVariants as extents
use Rattle.policy_book.specs.declared.auth.UserSet.{UserSet}
use Rattle.policy_book.specs.declared.auth.UserSet.TheVariants as users
use Rattle.policy_book.specs.declared.auth.Auth.{Auth}
use Rattle.policy_book.specs.declared.op.AdminOp.{AdminOp}
use Rattle.policy_book.specs.declared.op.AdminOp.TheVariants.{AddUser, DelUser, AddObj, DelObj, AddGroup, DelGroup, AddMember, DelMember, AddAuth, DelAuth, Validate}
use Rattle.edit_message.specs.declared.message.Message.TheVariants.{Coop, Admin}
use Rattle.edit_frame.specs.declared.numbers.TheConstants.{PLAIN_VERSION, LONG_VERSION, INSERT_KIND, DELETE_KIND, UPDATE_KIND, ENTRY_KIND, TURN_KIND, END_KIND, EVERYTHING, SPAN, ELEMENTS, ELEMENTS_BY, EVERYONE, GROUPS_ABOVE, ALLOWING, INSERT_WORTH, DELETE_WORTH, UPDATE_WORTH}
use Rattle.edit_frame.specs.declared.numbers.TheConstants.{ADD_USER, DEL_USER, ADD_OBJECT, DEL_OBJECT, ADD_AUTH, DEL_AUTH, VALIDATE, ADD_GROUP, DEL_GROUP, ADD_MEMBER, DEL_MEMBER}
use Rattle.edit_frame.specs.declared.frame.Frame.{Frame}
use Rattle.edit_frame.specs.declared.frame.Frame.TheVariants.{Item, Turn, End}

-- two bytes of a number
unfoldable pub short_bytes : ℕ → List ℕ
short_bytes n = to_be_bytes w16 n

-- eight bytes of a name, its stamp in the upper six
unfoldable pub name_bytes : Name → List ℕ
name_bytes n = to_be_bytes w64 (n.stamp * 2 ^ 16 + n.site)

-- ---- the parts of an operation

-- a kind, and what the extent of that kind has
unfoldable pub extent_bytes : Extent → List ℕ
extent_bytes extents.All = EVERYTHING ∷ []
extent_bytes (extents.Span a b) = SPAN ∷ name_bytes a ++ name_bytes b
extent_bytes (extents.Elems names) = ELEMENTS ∷ length names ∷ flat_map name_bytes names
extent_bytes (extents.By u) = ELEMENTS_BY ∷ short_bytes u

-- a count, raised by GROUPS_ABOVE where it is of groups, and the numbers
unfoldable pub user_set_bytes : UserSet → List ℕ
user_set_bytes users.All = EVERYONE ∷ []
user_set_bytes (users.Listed numbers) = length numbers ∷ flat_map short_bytes numbers
user_set_bytes (users.Groups numbers) = (length numbers + GROUPS_ABOVE) ∷ flat_map short_bytes numbers

-- what a set bit is worth, or 0
abbrev pub flag : ℕ → Bool → ℕ
flag worth b = if b then worth else 0

-- the sum of the rights' worths
unfoldable pub rights_bytes : Rights → List ℕ
rights_bytes r = (flag INSERT_WORTH r.insert + flag DELETE_WORTH r.delete + flag UPDATE_WORTH r.update) ∷ []

-- a count, and the numbers
unfoldable pub objects_bytes : List ℕ → List ℕ
objects_bytes numbers = length numbers ∷ flat_map short_bytes numbers

-- a sign, rights, users and objects
unfoldable pub auth_bytes : Auth → List ℕ
auth_bytes a = (flag ALLOWING a.grant ∷ []) ++ (rights_bytes a.rights ++ (user_set_bytes a.users ++ objects_bytes a.objects))

-- an operation's number
abbrev pub operation_number : AdminOp → ℕ
operation_number (AddUser u) = ADD_USER
operation_number (DelUser u) = DEL_USER
operation_number (AddObj n x) = ADD_OBJECT
operation_number (DelObj n) = DEL_OBJECT
operation_number (AddAuth place a) = ADD_AUTH
operation_number (DelAuth place) = DEL_AUTH
operation_number (Validate n) = VALIDATE
operation_number (AddGroup g) = ADD_GROUP
operation_number (DelGroup g) = DEL_GROUP
operation_number (AddMember g u) = ADD_MEMBER
operation_number (DelMember g u) = DEL_MEMBER

-- what stands after its number
unfoldable pub operation_fields : AdminOp → List ℕ
operation_fields (AddUser u) = short_bytes u
operation_fields (DelUser u) = short_bytes u
operation_fields (AddObj n x) = short_bytes n ++ extent_bytes x
operation_fields (DelObj n) = short_bytes n
operation_fields (AddAuth place a) = short_bytes place ++ auth_bytes a
operation_fields (DelAuth place) = short_bytes place
operation_fields (Validate n) = name_bytes n
operation_fields (AddGroup g) = short_bytes g
operation_fields (DelGroup g) = short_bytes g
operation_fields (AddMember g u) = short_bytes g ++ short_bytes u
operation_fields (DelMember g u) = short_bytes g ++ short_bytes u

-- ---- pieces

-- it is one scalar value
abbrev pub is_one_char : List ℕ → Bool
is_one_char piece = length (chars piece) == 1

-- the four bytes of its one scalar value; else a count, and the piece's own bytes
unfoldable pub letter_bytes : List ℕ → List ℕ
letter_bytes piece = if is_one_char piece then to_be_bytes w32 (slice_index (chars piece) 0) else length piece ∷ piece

-- the frame version of a piece: that of long ones where it isn't one scalar value
abbrev pub letter_version : List ℕ → ℕ
letter_version piece = if is_one_char piece then PLAIN_VERSION else LONG_VERSION

-- ---- a frame's bytes after its length: its version, its kind and its fields

-- the frame version of an edit: that of its piece
abbrev pub edit_version : Edit → ℕ
edit_version (Insert after piece) = letter_version piece
edit_version (Delete target) = PLAIN_VERSION
edit_version (Update target piece) = letter_version piece

-- the kind of an edit's frame
abbrev pub edit_kind : Edit → ℕ
edit_kind (Insert after piece) = INSERT_KIND
edit_kind (Delete target) = DELETE_KIND
edit_kind (Update target piece) = UPDATE_KIND

-- an anchor or a target, and the piece
unfoldable pub edit_bytes : Edit → List ℕ
edit_bytes (Insert after piece) = name_bytes after ++ letter_bytes piece
edit_bytes (Delete target) = name_bytes target
edit_bytes (Update target piece) = name_bytes target ++ letter_bytes piece

-- a frame's version
abbrev pub version_of : Frame → ℕ
version_of (Item (Coop q)) = edit_version q.edit
version_of (Item (Admin e)) = PLAIN_VERSION
version_of Turn = PLAIN_VERSION
version_of End = PLAIN_VERSION

-- a frame's kind
abbrev pub kind_of : Frame → ℕ
kind_of (Item (Coop q)) = edit_kind q.edit
kind_of (Item (Admin e)) = ENTRY_KIND
kind_of Turn = TURN_KIND
kind_of End = END_KIND

-- a name, a policy version and an edit
abbrev pub request_fields : Request → List ℕ
request_fields q = name_bytes q.id ++ (short_bytes q.version ++ edit_bytes q.edit)

-- a version, a number and the operation's fields
abbrev pub entry_fields : Entry → List ℕ
entry_fields e = short_bytes e.version ++ (operation_number e.op ∷ operation_fields e.op)

-- a frame's fields: none of a turn or an end
unfoldable pub fields : Frame → List ℕ
fields (Item (Coop q)) = request_fields q
fields (Item (Admin e)) = entry_fields e
fields Turn = []
fields End = []

-- what stands after the length field
abbrev pub body : Frame → List ℕ
body f = version_of f ∷ kind_of f ∷ fields f

-- the spelling of a frame: its length field, and that many bytes
unfoldable pub spelling : Frame → List ℕ
spelling f = to_be_bytes w32 (length (body f)) ++ body f
