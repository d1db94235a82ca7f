-- Policies as values: version 0, the change by an operation, and the faults of one.
use Rattle.std.specs.Prelude.{◌≡◌, ℕ, ◌≤◌, Bool, true, false, not, ◌&&◌, List, [], ◌∷◌, map, length, Option, Some, None, is_some, option_map, ◌==◌}
use Rattle.std.specs.Prelude.{nat_lt, nat_le, insert, remove, if◌then◌else◌}
use Rattle.std.specs.Option.{option_map_or}
use Rattle.std.specs.List.{list_all}
use Rattle.element_name.specs.Cases.{when, first_of}
use Rattle.element_name.specs.Numbered.{is_rising, put_by, without, find_by}
use Rattle.policy_book.specs.Lists.{has_number}
use Rattle.policy_book.specs.Operation.{is_extent, is_auth}
use Rattle.policy_book.specs.declared.limits.TheConstants.{MAX_OF_KIND}
use Rattle.policy_book.specs.declared.parts.Object.{Object}
use Rattle.policy_book.specs.declared.parts.Group.{Group}
use Rattle.policy_book.specs.declared.parts.NumberedAuth.{NumberedAuth}
use Rattle.policy_book.specs.declared.auth.Extent.{Extent}
use Rattle.policy_book.specs.declared.auth.Extent.TheVariants.{All}
use Rattle.policy_book.specs.declared.op.AdminOp.{AdminOp}
use Rattle.policy_book.specs.declared.op.AdminOp.TheVariants.{AddUser, DelUser, AddObj, DelObj, AddGroup, DelGroup, AddMember, DelMember, AddAuth}
use Rattle.policy_book.specs.declared.op.AdminOp.TheVariants.{DelAuth, Validate}
use Rattle.policy_book.specs.declared.fault.EntryFault.{EntryFault}
use Rattle.policy_book.specs.declared.fault.EntryFault.TheVariants.{UserThere, NoUser, IsAdministrator, ObjectThere, NoObject, BadPlace, TooMany}
use Rattle.policy_book.specs.declared.fault.EntryFault.TheVariants.{GroupThere, NoGroup, MemberThere, NoMember}
use Rattle.policy_book.specs.declared.fault.ApplyFault.{ApplyFault}
use Rattle.policy_book.specs.declared.fault.ApplyFault.TheVariants.{Illegal, NoMemory}

-- a set of users, objects and groups by their numbers, and the authorizations in the order of matching
pub record Policy : Type 0 where
  pub users : List ℕ
  pub objects : List Object
  pub groups : List Group
  pub auths : List NumberedAuth

-- ---- the limits

-- at most 256, strictly ascending
abbrev pub is_number_set : List ℕ → Bool
is_number_set numbers = nat_le (length numbers) MAX_OF_KIND && is_rising nat_lt numbers

-- users, objects, groups and members are such sets of numbers; 256 authorizations at most; extents and authorizations are as they are made
pub record IsWithinLimits (p : Policy) : Type 0 where
  pub users : is_number_set p.users ≡ true
  pub objects : is_number_set (map (λ o. o.number) p.objects) ≡ true
  pub extents : list_all (λ o. is_extent o.extent) p.objects ≡ true
  pub groups : is_number_set (map (λ g. g.number) p.groups) ≡ true
  pub members : list_all (λ g. is_number_set g.members) p.groups ≡ true
  pub few_auths : length p.auths ≤ MAX_OF_KIND
  pub auths : list_all (λ a. is_auth a.auth) p.auths ≡ true

-- ---- what stands in a policy

-- version 0: user 0, object 0 that is all elements, no group and no authorization
abbrev pub first_policy : Policy
first_policy = record { users = 0 ∷ []; objects = record { number = 0; extent = All } ∷ []; groups = []; auths = [] }

abbrev pub is_user : Policy → ℕ → Bool
is_user p u = has_number p.users u

abbrev pub extent_of : Policy → ℕ → Option Extent
extent_of p n = option_map (λ o. o.extent) (find_by (λ o. o.number) n p.objects)

abbrev pub members_of : Policy → ℕ → Option (List ℕ)
members_of p g = option_map (λ o. o.members) (find_by (λ o. o.number) g p.groups)

abbrev pub is_object : Policy → ℕ → Bool
is_object p n = is_some (extent_of p n)

abbrev pub is_group : Policy → ℕ → Bool
is_group p g = is_some (members_of p g)

abbrev pub is_member : Policy → ℕ → ℕ → Bool
is_member p g u = option_map_or (λ members. has_number members u) (members_of p g) false

-- ---- the change by an operation, which makes this version

-- the group, with its members changed if it has this number
abbrev pub with_members : ℕ → (List ℕ → List ℕ) → Group → Group
with_members g change o = if o.number == g then record { number = o.number; members = change o.members } else o

abbrev pub policy_after : Policy → ℕ → AdminOp → Policy
policy_after p version (AddUser u) = record p { users = put_by (λ n. n) u p.users }
policy_after p version (DelUser u) = record p { users = without (λ n. n) u p.users }
policy_after p version (AddObj n extent) = record p { objects = put_by (λ o. o.number) (record { number = n; extent = extent }) p.objects }
policy_after p version (DelObj n) = record p { objects = without (λ o. o.number) n p.objects }
policy_after p version (AddGroup g) = record p { groups = put_by (λ o. o.number) (record { number = g; members = [] }) p.groups }
policy_after p version (DelGroup g) = record p { groups = without (λ o. o.number) g p.groups }
policy_after p version (AddMember g u) = record p { groups = map (with_members g (put_by (λ n. n) u)) p.groups }
policy_after p version (DelMember g u) = record p { groups = map (with_members g (without (λ n. n) u)) p.groups }
policy_after p version (AddAuth place auth) = record p { auths = insert p.auths place (record { number = version; auth = auth }) }
policy_after p version (DelAuth place) = record p { auths = remove p.auths place }
policy_after p version (Validate request) = p

-- ---- the faults of an operation

-- as many stand as may
abbrev pub is_full : {A : Type 0} → List A → Bool
is_full items = nat_le MAX_OF_KIND (length items)

abbrev pub is_full_group : Policy → ℕ → Bool
is_full_group p g = option_map_or (λ members. is_full members) (members_of p g) false

-- the first fault of an operation on a policy, each operation's in the order of all; ValidatedAt is one of the log
abbrev pub policy_fault : Policy → AdminOp → Option EntryFault
policy_fault p (AddUser u) = first_of (when (is_user p u) UserThere ∷ when (is_full p.users) (TooMany MAX_OF_KIND) ∷ [])
policy_fault p (DelUser u) = first_of (when (not (is_user p u)) NoUser ∷ when (u == 0) IsAdministrator ∷ [])
policy_fault p (AddObj n extent) = first_of (when (is_object p n) ObjectThere ∷ when (is_full p.objects) (TooMany MAX_OF_KIND) ∷ [])
policy_fault p (DelObj n) = first_of (when (not (is_object p n)) NoObject ∷ [])
policy_fault p (AddGroup g) = first_of (when (is_full p.groups) (TooMany MAX_OF_KIND) ∷ when (is_group p g) GroupThere ∷ [])
policy_fault p (DelGroup g) = first_of (when (not (is_group p g)) NoGroup ∷ [])
policy_fault p (AddMember g u) = first_of (
    when (is_full_group p g) (TooMany MAX_OF_KIND)
    ∷ when (not (is_group p g)) NoGroup
    ∷ when (is_member p g u) MemberThere
    ∷ [])
policy_fault p (DelMember g u) = first_of (when (not (is_group p g)) NoGroup ∷ when (not (is_member p g u)) NoMember ∷ [])
policy_fault p (AddAuth place auth) = first_of (
    when (nat_lt (length p.auths) place) (BadPlace (length p.auths))
    ∷ when (is_full p.auths) (TooMany MAX_OF_KIND)
    ∷ [])
policy_fault p (DelAuth place) = first_of (when (nat_le (length p.auths) place) (BadPlace (length p.auths)) ∷ [])
policy_fault p (Validate request) = None

-- the operation is legal on the policy
abbrev pub IsLegal : Policy → AdminOp → Type 0
IsLegal p op = policy_fault p op ≡ None

-- why a policy isn't changed: the operation's first fault, or want of memory for a legal operation
abbrev pub IsRefusal : Option EntryFault → ApplyFault → Type 0
IsRefusal fault (Illegal first) = fault ≡ Some first
IsRefusal fault NoMemory = fault ≡ None
