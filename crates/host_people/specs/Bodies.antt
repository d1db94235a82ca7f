-- How changes of people are spelled as bodies.
use Rattle.std.specs.Prelude.{ℕ, List, [], ◌∷◌, ◌++◌, string_bytes}
use Rattle.std.specs.Int.{w16, to_be_bytes}
use Rattle.host_core.specs.declared.event.Role.{Role}
use Rattle.host_core.specs.declared.event.Role.TheVariants.{Owner, Writer, Reader}
use Rattle.host_people.specs.declared.change.Change.{Change}
use Rattle.host_people.specs.declared.change.Change.TheVariants.{Made, GivenRole, Renamed, Invited, Uninvited, Joined, Left}
use Rattle.host_people.specs.declared.kinds.TheConstants.{MADE, GIVEN_ROLE, RENAMED, INVITED, UNINVITED, JOINED, LEFT}

-- the byte of a role
abbrev pub role_byte : Role → ℕ
role_byte Owner = 1
role_byte Writer = 2
role_byte Reader = 3

-- a kind and a number, which a body begins with
abbrev pub change_head : ℕ → ℕ → List ℕ
change_head kind number = kind ∷ to_be_bytes w16 number

-- who holds a secret: the number of a person, and the secret's digest
abbrev pub holder_fields : ℕ → List ℕ → List ℕ
holder_fields person digest = to_be_bytes w16 person ++ digest

-- a change's kind, its number and its fields
abbrev pub change_body : Change → List ℕ
change_body (Made person role name) = change_head MADE person ++ role_byte role ∷ string_bytes name
change_body (GivenRole person role) = change_head GIVEN_ROLE person ++ role_byte role ∷ []
change_body (Renamed person name) = change_head RENAMED person ++ string_bytes name
change_body (Invited invitation person digest) = change_head INVITED invitation ++ holder_fields person digest
change_body (Uninvited invitation) = change_head UNINVITED invitation
change_body (Joined site person digest) = change_head JOINED site ++ holder_fields person digest
change_body (Left site) = change_head LEFT site

-- the bodies of changes that were made one after another, given the newest first
abbrev pub change_bodies : List Change → List (List ℕ)
change_bodies [] = []
change_bodies (change ∷ earlier) = change_bodies earlier ++ change_body change ∷ []
