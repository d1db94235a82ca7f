-- The parts of the requests that walks visit.
use Rattle.std.specs.Prelude.{Bool, true, ◌&&◌, ◌==◌, List, Option, find, option_map}
use Rattle.element_name.specs.Name.{Name, name_eq, name_lt}
use Rattle.coop_request.specs.Request.{Request, user_of}
use Rattle.request_state.specs.declared.kept.Kept.{Kept}
use Rattle.request_state.specs.State.{is_tentative}
use Rattle.retro_undo.specs.declared.walk.Whose.{Whose}
use Rattle.retro_undo.specs.declared.walk.Whose.TheVariants.{All, One}

-- the request of a name
abbrev pub is_named : Name → Request → Bool
is_named n q = name_eq q.id n

-- whether a request is one of theirs
abbrev pub is_in : Whose → Request → Bool
is_in All q = true
is_in (One user) q = user_of q == user

-- one of theirs above a name
abbrev pub is_above : Whose → Name → Request → Bool
is_above whose above q = is_in whose q && name_lt above q.id

-- a Tentative one of these: what a walk looks for
abbrev pub is_next : Whose → Name → Kept → Bool
is_next whose above k = is_tentative k.state && is_above whose above k.request

-- the Tentative request of theirs with the least name above a name
abbrev pub next_of : List Kept → Whose → Name → Option Request
next_of table whose above = option_map (λ k. k.request) (find (is_next whose above) table)
