-- Lists of requests, and which of them are histories.
use Rattle.std.specs.Prelude.{◌≡◌, false, IsTrue, List, Option, find, filter_map}
use Rattle.std.specs.List.{list_any}
use Rattle.element_name.specs.Name.{Name, name_eq}
use Rattle.element_name.specs.Tree.{Placed, order, names_of}
use Rattle.element_name.specs.Places.{is_anchor}
use Rattle.element_name.specs.Growing.{EachAfter}
use Rattle.coop_request.specs.Edit.{placed_by, anchor_or_target}
use Rattle.coop_request.specs.Request.{Request, IsAccepted}

-- the elements that the inserts make, with their anchors
abbrev pub placed_of : List Request → List Placed
placed_of requests = filter_map (λ q. placed_by q.id q.edit) requests

-- the names of the inserts
abbrev pub elements_of : List Request → List Name
elements_of requests = names_of (placed_of requests)

-- the elements in text order
abbrev pub text_order : List Request → List Name
text_order requests = order (placed_of requests)

-- the request of a name
abbrev pub request_of : List Request → Name → Option Request
request_of requests n = find (λ q. name_eq q.id n) requests

-- q may follow these requests; its target is an element, since no accepted request has the target `start`
pub record FollowsHistory (requests : List Request) (q : Request) : Type 0 where
  pub accepted : IsAccepted q
  pub new : list_any (λ r. name_eq r.id q.id) requests ≡ false
  pub known : IsTrue (is_anchor (elements_of requests) (anchor_or_target q.edit))

-- each request follows those before it
abbrev pub IsHistory : List Request → Type 0
IsHistory requests = EachAfter FollowsHistory requests
