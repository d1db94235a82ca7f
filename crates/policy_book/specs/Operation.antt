-- Operations whose numbers, names and lists are in their ranges.
use Rattle.std.specs.Prelude.{Bool, true, ◌&&◌}
use Rattle.policy_book.specs.Lists.{is_short, is_name, is_num_list, is_name_list}
use Rattle.policy_book.specs.Rights.{has_any}
use Rattle.policy_book.specs.declared.auth.Extent.{Extent}
use Rattle.policy_book.specs.declared.auth.Extent.TheVariants as extents
use Rattle.policy_book.specs.declared.auth.UserSet.{UserSet}
use Rattle.policy_book.specs.declared.auth.UserSet.TheVariants as users
use Rattle.policy_book.specs.declared.auth.Auth.{Auth}
use Rattle.policy_book.specs.declared.op.AdminOp.{AdminOp}
use Rattle.policy_book.specs.declared.op.AdminOp.TheVariants.{AddUser, DelUser, AddObj, DelObj, AddGroup, DelGroup, AddMember, DelMember, AddAuth}
use Rattle.policy_book.specs.declared.op.AdminOp.TheVariants.{DelAuth, Validate}

abbrev pub is_extent : Extent → Bool
is_extent extents.All = true
is_extent (extents.Span first last) = is_name first && is_name last
is_extent (extents.Elems names) = is_name_list names
is_extent (extents.By user) = is_short user

abbrev pub is_user_set : UserSet → Bool
is_user_set users.All = true
is_user_set (users.Listed numbers) = is_num_list numbers
is_user_set (users.Groups numbers) = is_num_list numbers

abbrev pub is_auth : Auth → Bool
is_auth a = is_user_set a.users && (has_any a.rights && is_num_list a.objects)

abbrev pub is_operation : AdminOp → Bool
is_operation (AddUser user) = is_short user
is_operation (DelUser user) = is_short user
is_operation (AddObj number extent) = is_short number && is_extent extent
is_operation (DelObj number) = is_short number
is_operation (AddGroup group) = is_short group
is_operation (DelGroup group) = is_short group
is_operation (AddMember group user) = is_short group && is_short user
is_operation (DelMember group user) = is_short group && is_short user
is_operation (AddAuth place auth) = is_short place && is_auth auth
is_operation (DelAuth place) = is_short place
is_operation (Validate request) = is_name request
