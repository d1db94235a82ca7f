-- Whose requests an operation may deny.
use Rattle.std.specs.Prelude.{ℕ, Bool, true, false, not, [], ◌∷◌, is_some, slice_get, if◌then◌else◌}
use Rattle.std.specs.List.{list_any}
use Rattle.std.specs.Option.{option_map_or}
use Rattle.policy_book.specs.declared.auth.UserSet.{UserSet}
use Rattle.policy_book.specs.declared.auth.UserSet.TheVariants.{All, Listed, Groups}
use Rattle.policy_book.specs.declared.auth.Auth.{Auth}
use Rattle.policy_book.specs.declared.op.AdminOp.{AdminOp}
use Rattle.policy_book.specs.declared.op.AdminOp.TheVariants.{AddUser, DelUser, AddObj, DelObj, AddGroup, DelGroup, AddMember, DelMember, AddAuth}
use Rattle.policy_book.specs.declared.op.AdminOp.TheVariants.{DelAuth, Validate}
use Rattle.policy_book.specs.declared.reach.Reach.{Reach}
use Rattle.policy_book.specs.declared.reach.Reach.TheVariants.{Nobody, Users, Everyone}
use Rattle.policy_book.specs.Policy.{Policy, policy_fault, is_object}
use Rattle.policy_book.specs.Lists.{has_number}

-- those of whom a set speaks; the members of groups may come and go
abbrev pub reach_of_users : UserSet → Reach
reach_of_users All = Everyone
reach_of_users (Listed users) = Users users
reach_of_users (Groups groups) = Everyone

-- a new positive authorization denies nobody
abbrev pub reach_of_added : Auth → Reach
reach_of_added a = if a.grant then Nobody else reach_of_users a.users

-- an old negative authorization, once removed, denies nobody
abbrev pub reach_of_removed : Auth → Reach
reach_of_removed a = if a.grant then reach_of_users a.users else Nobody

abbrev pub reach_of_legal : Policy → AdminOp → Reach
reach_of_legal p (AddUser u) = Nobody
reach_of_legal p (DelUser u) = Users (u ∷ [])
reach_of_legal p (AddObj n extent) = Everyone
reach_of_legal p (DelObj n) = Everyone
reach_of_legal p (AddGroup g) = Nobody
reach_of_legal p (DelGroup g) = Everyone
reach_of_legal p (AddMember g u) = Users (u ∷ [])
reach_of_legal p (DelMember g u) = Users (u ∷ [])
reach_of_legal p (AddAuth place auth) = reach_of_added auth
reach_of_legal p (DelAuth place) = option_map_or (λ a. reach_of_removed a.auth) (slice_get p.auths place) Everyone
reach_of_legal p (Validate request) = Nobody

-- whose requests an operation may deny: everyone's, where it isn't legal
abbrev pub reach_of : Policy → AdminOp → Reach
reach_of p op = if is_some (policy_fault p op) then Everyone else reach_of_legal p op

-- none of the authorization's objects is there
abbrev pub lacks_objects : Policy → Auth → Bool
lacks_objects p a = not (list_any (is_object p) a.objects)

-- an authorization of the policy names the object
abbrev pub names_object : Policy → ℕ → Bool
names_object p n = list_any (λ a. has_number a.auth.objects n) p.auths

-- the operation adds or removes an authorization none of whose objects is there, or an object that no authorization names
abbrev pub is_vacuous : Policy → AdminOp → Bool
is_vacuous p (AddObj n extent) = not (names_object p n)
is_vacuous p (DelObj n) = not (names_object p n)
is_vacuous p (AddAuth place auth) = lacks_objects p auth
is_vacuous p (DelAuth place) = option_map_or (λ a. lacks_objects p a.auth) (slice_get p.auths place) false
is_vacuous p op = false

-- whose requests a legal operation may deny, by what is there: an authorization without objects matches nothing, and an object that none names is asked of nothing
abbrev pub narrowed_reach : Policy → AdminOp → Reach
narrowed_reach p op = if is_vacuous p op then Nobody else reach_of p op

-- the user is one of those
abbrev pub is_reached : Reach → ℕ → Bool
is_reached Nobody u = false
is_reached (Users users) u = has_number users u
is_reached Everyone u = true
