-- What the next entry may undo.
use Rattle.std.specs.Prelude.{◌≡◌, Bool, true, ◌&&◌, List, Contains, Option, Some, None, is_some, if◌then◌else◌}
use Rattle.std.specs.List.{list_any}
use Rattle.element_name.specs.Name.{Name, name_eq, has_name}
use Rattle.coop_request.specs.Request.{Request, element_of}
use Rattle.policy_book.specs.declared.op.AdminOp.{AdminOp}
use Rattle.policy_book.specs.declared.reach.Reach.{Reach}
use Rattle.policy_book.specs.declared.reach.Reach.TheVariants.{Nobody}
use Rattle.policy_book.specs.Entry.{Entry}
use Rattle.policy_book.specs.Reach.{narrowed_reach}
use Rattle.admin_log.specs.Log.{entry_fault, policy_of}
use Rattle.request_state.specs.State.{is_tentative, is_invalid}
use Rattle.peer_tables.specs.Derived.{state_in}

-- a request is Tentative by one log, and Invalid by another
abbrev pub is_undone_between : List Request → List Entry → List Entry → Request → Bool
is_undone_between R L M q = is_tentative (state_in R L q) && is_invalid (state_in R M q)

-- a Tentative request has the element
abbrev pub has_tentative : List Request → List Entry → Name → Bool
has_tentative R L e = list_any (λ q. name_eq (element_of q) e && is_tentative (state_in R L q)) R

-- each of these is the element of a Tentative request
abbrev pub AreOfTentative : List Request → List Entry → List Name → Type 0
AreOfTentative R L elements = (e : Name) → has_name elements e ≡ true → has_tentative R L e ≡ true

-- the element of each request that is undone between two logs is one of these
abbrev pub HaveUndone : List Request → List Entry → List Entry → List Name → Type 0
HaveUndone R L M elements = (q : Request) → Contains R q → is_undone_between R L M q ≡ true → has_name elements (element_of q) ≡ true

-- whose requests the next entry may deny, if its operation is legal
abbrev pub next_reach : List Entry → Option AdminOp → Reach
next_reach L None = Nobody
next_reach L (Some op) = if is_some (entry_fault L op) then Nobody else narrowed_reach (policy_of L) op
