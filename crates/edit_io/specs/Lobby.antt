-- What a door over memory is seen as, and what a call leaves of it.
use Rattle.std.specs.Prelude.{◌≡◌, ℕ, ◌+◌, ◌≤◌, ◌⊎◌, ⊤, All, Contains, length, List, [], ◌∷◌, ◌++◌, take, drop, Option, Some, None, Result, Ok, Err}
use Rattle.edit_io.specs.declared.fail.Failed.{Failed}
use Rattle.edit_io.specs.Causes.{next_count}
use Rattle.edit_io.specs.Door.{IsUnused, hurt_by}
use Rattle.edit_io.specs.Wire.{Wire}

-- the links that came back, those still to be given, how many were given and came back, the calls that fail, and the counts of
-- calls, faults and hurt links
pub record Lobby : Type 0 where
  pub used : List Wire
  pub waiting : List Wire
  pub given : ℕ
  pub returned : ℕ
  pub fails : List ℕ
  pub calls : ℕ
  pub faults : ℕ
  pub hurt : ℕ

-- the links that stand in these places
abbrev pub standing : List (Option Wire) → List Wire
standing [] = []
standing (None ∷ places) = standing places
standing (Some w ∷ places) = w ∷ standing places

-- a link stands in this place
abbrev pub IsTaken : Option Wire → Type 0
IsTaken None = ⊥
IsTaken (Some w) = ⊤

-- a link stands in this place, and nothing has happened on it
abbrev pub IsUnusedPlace : Option Wire → Type 0
IsUnusedPlace None = ⊥
IsUnusedPlace (Some w) = IsUnused w.faults w.closes (Some w.got) (Some w.sent)

-- first stand the links that came back, last those that are still to be given
pub record IsLobby (places : List (Option Wire)) (given returned hurt : ℕ) : Type 0 where
  pub back : All IsTaken (take returned places)
  pub waiting : All IsUnusedPlace (drop given places)
  pub returned_few : returned ≤ given
  pub given_few : given ≤ length places
  pub hurt_few : hurt ≤ returned

-- `accept` and `connect` fail where their call is listed, and where no link is left
abbrev pub LineFails : Lobby → Type 0
LineFails l = Contains l.fails (next_count l.calls) ⊎ (l.waiting ≡ [])

-- the link that a call gave is the first of these
abbrev pub GivesNext : List Wire → Result Wire Failed → Type 0
GivesNext waiting (Ok w) = waiting ≡ w ∷ drop 1 waiting
GivesNext waiting (Err fail) = ⊤

-- the door after an `accept` or a `connect` that answered so: its next link was given, or the failure is counted
abbrev pub lobby_after : Lobby → Result Wire Failed → Lobby
lobby_after l (Ok w) = record l { waiting = drop 1 l.waiting; given = l.given + 1; calls = next_count l.calls }
lobby_after l (Err fail) = record l { calls = next_count l.calls; faults = l.faults + 1 }

-- the door after a `listen` that answered so: a failure is counted
abbrev pub lobby_after_listen : Lobby → Result (Unit {0}) Failed → Lobby
lobby_after_listen l (Ok done) = record l { calls = next_count l.calls }
lobby_after_listen l (Err fail) = record l { calls = next_count l.calls; faults = l.faults + 1 }

-- the door after this link came back: it stands last among the used ones, and is counted, also among the hurt where it failed
abbrev pub lobby_after_back : Lobby → Wire → Lobby
lobby_after_back l w = record l { used = l.used ++ w ∷ []; returned = l.returned + 1; hurt = l.hurt + hurt_by w.faults }
