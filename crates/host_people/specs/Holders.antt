-- Who may what, by the changes that were made, the newest first.
use Rattle.std.specs.Prelude.{◌≡◌, ℕ, ◌==◌, true, false, List, [], ◌∷◌, Option, Some, None, option_map, if◌then◌else◌}
use Rattle.std.specs.Ordering.{nat_cmp}
use Rattle.std.specs.BTreeMap.{BTreeMap, get}
use Rattle.host_core.specs.declared.event.Role.{Role}
use Rattle.host_people.specs.declared.change.Change.{Change}
use Rattle.host_people.specs.declared.change.Change.TheVariants.{Made, GivenRole, Renamed, Invited, Uninvited, Joined, Left}
use Rattle.host_people.specs.declared.people.Holder.{Holder}

-- the role of a person
abbrev pub role_of : ℕ → List Change → Option Role
role_of p [] = None
role_of p (Made q role name ∷ cs) = if q == p then Some role else role_of p cs
role_of p (GivenRole q role ∷ cs) = if q == p then option_map (λ old. role) (role_of p cs) else role_of p cs
role_of p (Renamed q name ∷ cs) = role_of p cs
role_of p (Invited i q digest ∷ cs) = role_of p cs
role_of p (Uninvited i ∷ cs) = role_of p cs
role_of p (Joined s q digest ∷ cs) = role_of p cs
role_of p (Left s ∷ cs) = role_of p cs

-- whose secret was closed
abbrev pub closed_holder : Holder → Holder
closed_holder holder = record holder { is_open = false }

-- who holds an invitation
abbrev pub invitation_holder : ℕ → List Change → Option Holder
invitation_holder i [] = None
invitation_holder i (Made q role name ∷ cs) = invitation_holder i cs
invitation_holder i (GivenRole q role ∷ cs) = invitation_holder i cs
invitation_holder i (Renamed q name ∷ cs) = invitation_holder i cs
invitation_holder i (Invited j q digest ∷ cs) = if j == i then Some (record { person = q; digest = digest; is_open = true }) else invitation_holder i cs
invitation_holder i (Uninvited j ∷ cs) = if j == i then option_map closed_holder (invitation_holder i cs) else invitation_holder i cs
invitation_holder i (Joined s q digest ∷ cs) = invitation_holder i cs
invitation_holder i (Left s ∷ cs) = invitation_holder i cs

-- who holds a device
abbrev pub device_holder : ℕ → List Change → Option Holder
device_holder s [] = None
device_holder s (Made q role name ∷ cs) = device_holder s cs
device_holder s (GivenRole q role ∷ cs) = device_holder s cs
device_holder s (Renamed q name ∷ cs) = device_holder s cs
device_holder s (Invited i q digest ∷ cs) = device_holder s cs
device_holder s (Uninvited i ∷ cs) = device_holder s cs
device_holder s (Joined t q digest ∷ cs) = if t == s then Some (record { person = q; digest = digest; is_open = true }) else device_holder s cs
device_holder s (Left t ∷ cs) = if t == s then option_map closed_holder (device_holder s cs) else device_holder s cs

-- what is kept of the changes: the role of each person, and who holds each invitation and each device
pub record AreOfChanges (cs : List Change) (roles : BTreeMap ℕ Role) (invitations devices : BTreeMap ℕ Holder) : Type 0 where
  pub known : (p : ℕ) → get nat_cmp roles p ≡ role_of p cs
  pub invited : (i : ℕ) → get nat_cmp invitations i ≡ invitation_holder i cs
  pub joined : (s : ℕ) → get nat_cmp devices s ≡ device_holder s cs
