-- What follows from a journal.
use Rattle.std.specs.Prelude.{ℕ, ◌&&◌, Bool, false, not, is_none, nat_le, List, Option, length, filter, count_by, max, fold}
use Rattle.element_name.specs.Name.{Name}
use Rattle.coop_request.specs.declared.request.TheConstants.{MAX_REQUESTS}
use Rattle.coop_request.specs.Request.{Request}
use Rattle.coop_request.specs.History.{text_order, elements_of}
use Rattle.policy_book.specs.Entry.{Entry}
use Rattle.edit_message.specs.declared.message.Message.{Message}
use Rattle.edit_message.specs.declared.message.Message.TheVariants.{Coop, Admin}
use Rattle.edit_message.specs.declared.message.Missing.{Missing}
use Rattle.edit_message.specs.Message.{requests_of, entries_of}
use Rattle.edit_message.specs.Missing.{missing_of}
use Rattle.request_state.specs.declared.state.State.{State}
use Rattle.request_state.specs.State.{is_tentative, is_invalid}
use Rattle.check_remote.specs.State.{is_granted, state_of}
use Rattle.elem_show.specs.Cell.{Cell, cell_of}
use Rattle.elem_show.specs.Text.{shown_names, text_of}

-- ---- of requests R and a log L

-- the state of a request
abbrev pub state_in : List Request → List Entry → Request → State
state_in R L q = state_of (text_order R) L q

-- the granted requests
abbrev pub counted_in : List Request → List Entry → List Request
counted_in R L = filter (is_granted (text_order R) L) R

-- the cell of an element
abbrev pub cell_in : List Request → List Entry → Name → Option Cell
cell_in R L e = cell_of R (counted_in R L) e

-- the elements that show, in text order
abbrev pub shown_in : List Request → List Entry → List Name
shown_in R L = shown_names (text_order R) R (counted_in R L)

-- the pieces that show, in text order
abbrev pub text_in : List Request → List Entry → List (List ℕ)
text_in R L = text_of (text_order R) R (counted_in R L)

-- the greatest stamp of the requests, 0 where there are none
abbrev pub greatest_stamp : List Request → ℕ
greatest_stamp requests = fold (λ stamp q. max stamp q.id.stamp) 0 requests

-- ---- of two logs

-- how many requests are Tentative by one log, and Invalid by another
abbrev pub undone_between : List Request → List Entry → List Entry → ℕ
undone_between R L M = count_by (λ q. is_tentative (state_in R L q) && is_invalid (state_in R M q)) R

-- ---- of a journal J

-- what a message misses
abbrev pub missing_in : List Message → Message → Option Missing
missing_in J m = missing_of (length (entries_of J)) (elements_of (requests_of J)) m

-- it has as many requests as there may be
abbrev pub is_full_journal : List Message → Bool
is_full_journal J = nat_le MAX_REQUESTS (length (requests_of J))

-- a request finds no room where there are as many as there may be
abbrev pub finds_no_room : List Message → Message → Bool
finds_no_room J (Coop q) = is_full_journal J
finds_no_room J (Admin e) = false

-- it misses nothing, and a request finds room
abbrev pub is_due : List Message → Message → Bool
is_due J m = is_none (missing_in J m) && not (finds_no_room J m)
