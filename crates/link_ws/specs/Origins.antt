-- Which origins are those of pages of this machine.
use Rattle.std.specs.Prelude.{ℕ, Bool, true, false, List, [], ◌∷◌, ◌==◌, ◌&&◌, ◌||◌, length, drop, codes}
use Rattle.std.specs.Char.{is_ascii_digit}
use Rattle.std.specs.List.{list_all, starts_with}
use Rattle.link_ws.specs.declared.origin.TheConstants.{COLON}

-- what may stand behind a host: nothing, or a colon and digits
abbrev pub is_port : List ℕ → Bool
is_port [] = true
is_port (byte ∷ []) = false
is_port (byte ∷ digits) = (byte == COLON) && list_all is_ascii_digit digits

-- an origin is this scheme and host, with any port
abbrev pub is_origin_at : List ℕ → List ℕ → Bool
is_origin_at place origin = starts_with (λ a b. a == b) origin place && is_port (drop (length place) origin)

-- an origin is that of a page of this machine
abbrev pub is_local_origin : List ℕ → Bool
is_local_origin origin = is_origin_at (codes "http://localhost") origin
    || is_origin_at (codes "http://127.0.0.1") origin
    || is_origin_at (codes "http://[::1]") origin
    || is_origin_at (codes "https://localhost") origin
    || is_origin_at (codes "https://127.0.0.1") origin
    || is_origin_at (codes "https://[::1]") origin
