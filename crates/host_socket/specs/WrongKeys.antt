-- Wrong keys, by where they were shown and when.
use Rattle.std.specs.Prelude.{ℕ, ◌-◌, Bool, false, ◌&&◌, ◌==◌, nat_lt, nat_le, List, [], ◌∷◌, ◌++◌, length, drop, count_by, if◌then◌else◌}
use Rattle.host_socket.specs.declared.wrong_keys.Network.{Network}
use Rattle.host_socket.specs.declared.wrong_keys.Network.TheVariants.{V4, V6}
use Rattle.host_socket.specs.declared.wrong_keys.WrongKey.{WrongKey}
use Rattle.host_socket.specs.declared.wrong_keys.TheConstants.{MAX_WRONG_KEYS}

-- two networks are one
abbrev pub same_network : Network → Network → Bool
same_network (V4 a) (V4 b) = a == b
same_network (V6 a) (V6 b) = a == b
same_network (V4 a) (V6 b) = false
same_network (V6 a) (V4 b) = false

-- a key was shown from a network within so many milliseconds up to now
abbrev pub is_recent_key : Network → ℕ → ℕ → WrongKey → Bool
is_recent_key network now within key = same_network key.network network && nat_lt (now - key.at) within

-- how many were
abbrev pub recent_keys : Network → ℕ → ℕ → List WrongKey → ℕ
recent_keys network now within keys = count_by (λ key. is_recent_key network now within key) keys

-- who comes from a network has to wait, since so many were
abbrev pub is_slowed : Network → ℕ → ℕ → ℕ → List WrongKey → Bool
is_slowed network now most within keys = nat_le most (recent_keys network now within keys)

-- the keys without the oldest, where there are as many as are remembered
abbrev pub with_room : List WrongKey → List WrongKey
with_room keys = if nat_le MAX_WRONG_KEYS (length keys) then drop 1 keys else keys

-- one more
abbrev pub behind_wrong_key : WrongKey → List WrongKey → List WrongKey
behind_wrong_key key keys = with_room keys ++ key ∷ []
