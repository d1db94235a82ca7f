-- Who has to wait, since too many wrong keys came from where he comes.
use Rattle.std.specs.Prelude.{◌≡◌, ℕ, List, Option, Some, None, Bool, false}
use Rattle.host_http.specs.declared.credential.Credential.{Credential}
use Rattle.host_socket.specs.declared.limits.Limits.{Limits}
use Rattle.host_socket.specs.declared.wrong_keys.Network.{Network}
use Rattle.host_socket.specs.declared.wrong_keys.WrongKey.{WrongKey}
use Rattle.host_socket.specs.WrongKeys.{is_slowed, behind_wrong_key}

-- who comes from there has to wait; nobody does who comes from this machine
abbrev pub slows : Option Network → ℕ → Limits → List WrongKey → Bool
slows None now limits keys = false
slows (Some network) now limits keys = is_slowed network now limits.wrong_keys limits.wrong_keys_count keys

-- who shows a key, or none, and comes from there has to wait
abbrev pub waits : Option Credential → Option Network → ℕ → Limits → List WrongKey → Bool
waits None from now limits keys = false
waits (Some shown) from now limits keys = slows from now limits keys

-- a wrong key from there was counted; none is from this machine
abbrev pub CountsWrong : Option Network → ℕ → List WrongKey → List WrongKey → Type 0
CountsWrong None now old new = new ≡ old
CountsWrong (Some network) now old new = new ≡ behind_wrong_key (record { network = network; at = now }) old
