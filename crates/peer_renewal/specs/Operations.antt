-- The operations that make a policy of that of version 0, with other extents of its objects.
use Rattle.std.specs.Prelude.{ℕ, ◌+◌, not, ◌==◌, List, [], ◌∷◌, ◌++◌, map, filter}
use Rattle.std.specs.List.{flat_map}
use Rattle.policy_book.specs.Policy.{Policy}
use Rattle.policy_book.specs.declared.parts.Object.{Object}
use Rattle.policy_book.specs.declared.parts.Group.{Group}
use Rattle.policy_book.specs.declared.parts.NumberedAuth.{NumberedAuth}
use Rattle.policy_book.specs.declared.op.AdminOp.{AdminOp}
use Rattle.policy_book.specs.declared.op.AdminOp.TheVariants.{AddUser, AddObj, DelObj, AddGroup, AddMember, AddAuth}

-- each user but the administrator, who is there
abbrev pub users_made : List ℕ → List AdminOp
users_made users = map AddUser (filter (λ u. not (u == 0)) users)

-- members of a group
abbrev pub members_made : ℕ → List ℕ → List AdminOp
members_made group members = map (AddMember group) members

-- the group with its members
abbrev pub group_made : Group → List AdminOp
group_made g = AddGroup g.number ∷ members_made g.number g.members

-- the objects
abbrev pub objects_made : List Object → List AdminOp
objects_made objects = map (λ o. AddObj o.number o.extent) objects

-- the authorizations from a place on, in order
abbrev pub auths_made : ℕ → List NumberedAuth → List AdminOp
auths_made place [] = []
auths_made place (a ∷ auths) = AddAuth place a.auth ∷ auths_made (place + 1) auths

-- the policy's users, groups and authorizations, and these objects in place of the one that version 0 has
abbrev pub operations_of : Policy → List Object → List AdminOp
operations_of p objects = users_made p.users ++ flat_map group_made p.groups ++ DelObj 0 ∷ objects_made objects ++ auths_made 0 p.auths
