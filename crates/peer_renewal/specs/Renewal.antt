-- What a renewed peer has of the old one.
use Rattle.std.specs.Prelude.{◌≡◌, ℕ, ◌==◌, Bool, true, List, [], length, map, IsTrue}
use Rattle.std.specs.List.{concat, list_all}
use Rattle.policy_book.specs.declared.parts.Object.{Object}
use Rattle.edit_message.specs.declared.message.Key.{Key}
use Rattle.edit_message.specs.declared.message.Key.TheVariants.{Coop, Admin}
use Rattle.edit_message.specs.Message.{key_of}
use Rattle.peer_core.specs.Peer.{Peer, text}
use Rattle.peer_renewal.specs.Coverage.{front_policy, covered_bytes, kept_objects}
use Rattle.peer_renewal.specs.Operations.{operations_of}

-- an object's number, and which bytes that show it covers
pub record Covering : Type 0 where
  pub number : ℕ
  pub bytes : List Bool

abbrev pub covering : Peer → Object → Covering
covering p o = record { number = o.number; bytes = covered_bytes p o.extent }

-- what each of these objects covers
abbrev pub coverings : Peer → List Object → List Covering
coverings p objects = map (covering p) objects

-- the key of an entry, or of a request of the administrator's
abbrev pub is_administrators : Key → Bool
is_administrators (Coop n) = n.site == 0
is_administrators (Admin version) = true

-- a peer of the administrator's, whose requests are all his own, with the text of another, byte for byte, its users, groups and
-- authorizations in order, and its objects but for those of authors, each of which covers the same bytes
pub record IsRenewalOf (old new : Peer) : Type 0 where
  pub site : new.site ≡ 0
  pub held : new.held ≡ []
  pub own : IsTrue (list_all (λ m. is_administrators (key_of m)) new.journal)
  pub text : concat (text new) ≡ concat (text old)
  pub users : (front_policy new).users ≡ (front_policy old).users
  pub groups : (front_policy new).groups ≡ (front_policy old).groups
  pub auths : map (λ a. a.auth) (front_policy new).auths ≡ map (λ a. a.auth) (front_policy old).auths
  pub objects : coverings new (front_policy new).objects ≡ coverings old (kept_objects (front_policy old).objects)

-- how many entries make a peer's rules anew
abbrev pub entries_needed : Peer → ℕ
entries_needed p = length (operations_of (front_policy p) (kept_objects (front_policy p).objects))
