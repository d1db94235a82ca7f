-- Equality of messages as a test, part by part.
use Rattle.std.specs.Prelude.{Bool, true, false, ◌&&◌, ◌==◌, nat_eq}
use Rattle.std.specs.Bool.{beq}
use Rattle.std.specs.Str.{bytes_eq}
use Rattle.std.specs.Cmp.Lexicographic.{pointwise}
use Rattle.element_name.specs.Name.{name_eq}
use Rattle.coop_request.specs.declared.edit.Edit.{Edit}
use Rattle.coop_request.specs.declared.edit.Edit.TheVariants.{Insert, Delete, Update}
use Rattle.coop_request.specs.Request.{Request}
use Rattle.policy_book.specs.Rights.{Rights}
use Rattle.policy_book.specs.declared.auth.Extent.{Extent}
use Rattle.policy_book.specs.declared.auth.Extent.TheVariants as extents
use Rattle.policy_book.specs.declared.auth.UserSet.{UserSet}
use Rattle.policy_book.specs.declared.auth.UserSet.TheVariants as users
use Rattle.policy_book.specs.declared.auth.Auth.{Auth}
use Rattle.policy_book.specs.declared.op.AdminOp.{AdminOp}
use Rattle.policy_book.specs.declared.op.AdminOp.TheVariants.{AddUser, DelUser, AddObj, DelObj, AddGroup, DelGroup, AddMember, DelMember, AddAuth, DelAuth, Validate}
use Rattle.policy_book.specs.Entry.{Entry}
use Rattle.edit_message.specs.declared.message.Message.{Message}
use Rattle.edit_message.specs.declared.message.Message.TheVariants.{Coop, Admin}

-- a and b are one edit
abbrev pub edit_eq : Edit → Edit → Bool
edit_eq (Insert after letter) (Insert after' letter') = name_eq after after' && bytes_eq letter letter'
edit_eq (Delete target) (Delete target') = name_eq target target'
edit_eq (Update target letter) (Update target' letter') = name_eq target target' && bytes_eq letter letter'
edit_eq a b = false

-- a and b are one request
abbrev pub request_eq : Request → Request → Bool
request_eq a b = name_eq a.id b.id && ((a.version == b.version) && edit_eq a.edit b.edit)

-- a and b are one extent
abbrev pub extent_eq : Extent → Extent → Bool
extent_eq extents.All extents.All = true
extent_eq (extents.Span first last) (extents.Span first' last') = name_eq first first' && name_eq last last'
extent_eq (extents.Elems names) (extents.Elems names') = pointwise name_eq names names'
extent_eq (extents.By user) (extents.By user') = user == user'
extent_eq a b = false

-- a and b are one set of users
abbrev pub users_eq : UserSet → UserSet → Bool
users_eq users.All users.All = true
users_eq (users.Listed numbers) (users.Listed numbers') = pointwise nat_eq numbers numbers'
users_eq (users.Groups numbers) (users.Groups numbers') = pointwise nat_eq numbers numbers'
users_eq a b = false

-- a and b are one set of rights
abbrev pub rights_eq : Rights → Rights → Bool
rights_eq a b = beq a.insert b.insert && (beq a.delete b.delete && beq a.update b.update)

-- a and b are one authorization
abbrev pub auth_eq : Auth → Auth → Bool
auth_eq a b = users_eq a.users b.users && (rights_eq a.rights b.rights && (pointwise nat_eq a.objects b.objects && beq a.grant b.grant))

-- a and b are one operation
abbrev pub op_eq : AdminOp → AdminOp → Bool
op_eq (AddUser user) (AddUser user') = user == user'
op_eq (DelUser user) (DelUser user') = user == user'
op_eq (AddObj number extent) (AddObj number' extent') = (number == number') && extent_eq extent extent'
op_eq (DelObj number) (DelObj number') = number == number'
op_eq (AddGroup group) (AddGroup group') = group == group'
op_eq (DelGroup group) (DelGroup group') = group == group'
op_eq (AddMember group user) (AddMember group' user') = (group == group') && (user == user')
op_eq (DelMember group user) (DelMember group' user') = (group == group') && (user == user')
op_eq (AddAuth place auth) (AddAuth place' auth') = (place == place') && auth_eq auth auth'
op_eq (DelAuth place) (DelAuth place') = place == place'
op_eq (Validate request) (Validate request') = name_eq request request'
op_eq a b = false

-- a and b are one entry
abbrev pub entry_eq : Entry → Entry → Bool
entry_eq a b = (a.version == b.version) && op_eq a.op b.op

-- a and b are one message
abbrev pub message_eq : Message → Message → Bool
message_eq (Coop a) (Coop b) = request_eq a b
message_eq (Admin a) (Admin b) = entry_eq a b
message_eq a b = false
