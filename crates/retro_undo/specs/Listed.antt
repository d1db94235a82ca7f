-- Which requests are listed, in what order, and what is taken of each.
use Rattle.std.specs.Prelude.{ℕ, List, [], map, filter, flat_map}
use Rattle.element_name.specs.Name.{Name, start}
use Rattle.coop_request.specs.Request.{Request, element_of}
use Rattle.policy_book.specs.declared.reach.Reach.{Reach}
use Rattle.policy_book.specs.declared.reach.Reach.TheVariants.{Nobody, Users, Everyone}
use Rattle.request_state.specs.declared.kept.Kept.{Kept}
use Rattle.retro_undo.specs.declared.listing.Taken.{Taken}
use Rattle.retro_undo.specs.declared.listing.Taken.TheVariants.{Id, Element}
use Rattle.retro_undo.specs.declared.walk.Whose.{Whose}
use Rattle.retro_undo.specs.declared.walk.Whose.TheVariants.{All, One}
use Rattle.retro_undo.specs.Part.{is_next}

-- what is taken of a request: its name, or that of the element on which it is judged
abbrev pub taken_of : Taken → Request → Name
taken_of Id q = q.id
taken_of Element q = element_of q

-- of their Tentative requests above a name, in ascending order of the requests' names
abbrev pub taken_above : (Request → Name) → Whose → Name → List Kept → List Name
taken_above take whose above table = map (λ k. take k.request) (filter (is_next whose above) table)

-- of those of these users, user after user; no request has the start's name
abbrev pub taken_of_users : (Request → Name) → List ℕ → List Kept → List Name
taken_of_users take users table = flat_map (λ user. taken_above take (One user) start table) users

-- of those within a reach
abbrev pub taken_within : (Request → Name) → Reach → List Kept → List Name
taken_within take Nobody table = []
taken_within take (Users users) table = taken_of_users take users table
taken_within take Everyone table = taken_above take All start table
