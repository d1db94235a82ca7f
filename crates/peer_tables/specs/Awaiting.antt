-- Requests that await their validation.
use Rattle.std.specs.Prelude.{Bool, not, ◌&&◌, ◌==◌, List, [], ◌∷◌, Option, Some, None, map, filter}
use Rattle.element_name.specs.Name.{Name}
use Rattle.coop_request.specs.Request.{Request, user_of}
use Rattle.policy_book.specs.declared.op.AdminOp.{AdminOp}
use Rattle.policy_book.specs.declared.op.AdminOp.TheVariants.{Validate}
use Rattle.policy_book.specs.Entry.{Entry}
use Rattle.request_state.specs.State.{is_tentative}
use Rattle.request_state.specs.Lines.{lesser}
use Rattle.peer_tables.specs.Derived.{state_in}

-- the request that the operation validates
abbrev pub validated_by : AdminOp → Option Name
validated_by (Validate n) = Some n
validated_by op = None

-- the least of the names
abbrev pub least_name : List Name → Option Name
least_name [] = None
least_name (n ∷ names) = lesser (Some n) (least_name names)

-- of requests R and a log L, the request awaits its validation: it is Tentative, and of another site than 0
abbrev pub awaits : List Request → List Entry → Request → Bool
awaits R L q = is_tentative (state_in R L q) && not (user_of q == 0)

-- the least name of a request that awaits its validation
abbrev pub least_awaiting : List Request → List Entry → Option Name
least_awaiting R L = least_name (map (λ q. q.id) (filter (awaits R L) R))
