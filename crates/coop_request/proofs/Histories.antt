-- A history's inserts are a tree.
use Rattle.std.proofs.Common.{◌≡◌, ℕ, ◌<◌, false, List, [], ◌∷◌, ◌++◌, None, refl, subst, ◌∙◌, arith}
use Rattle.std.specs.Prelude.{nat_le, nat_lt}
use Rattle.std.specs.List.{list_any}
use Rattle.std.proofs.lemmas.List.{append-nil}
use Rattle.std.proofs.lemmas.List.Elements.{filter_map-append}
use Rattle.std.proofs.lemmas.Bool.Decides.{nat_tests}
use Rattle.element_name.proofs.CaseLemmas.{when-None, first_of-None}
use Rattle.element_name.specs.Cases.{when}
use Rattle.element_name.specs.declared.limits.TheConstants.{MAX_VERSION}
use Rattle.std.specs.declared.option.Option.{Option}
use Rattle.std.proofs.lemmas.Bool.{or_parts}
use Rattle.coop_request.specs.declared.request.RequestFault.{RequestFault}
use Rattle.coop_request.specs.declared.request.RequestFault.TheVariants.{BadVersion, StampOrder}
use Rattle.element_name.specs.Name.{Name, name_eq, has_name}
use Rattle.element_name.specs.Tree.{Placed, FollowsTree, IsTree}
use Rattle.element_name.proofs.NameOrder.{name_eq-comm}
use Rattle.element_name.specs.Growing.{EachFrom}
use Rattle.coop_request.specs.declared.edit.Edit.{Edit}
use Rattle.coop_request.specs.declared.edit.Edit.TheVariants.{Insert, Delete, Update}
use Rattle.coop_request.specs.Edit.{placed_by}
use Rattle.coop_request.specs.Request.{Request, request_fault}
use Rattle.coop_request.specs.History.{placed_of, elements_of, FollowsHistory, IsHistory}

-- of the request in front, which has another name
new_element_before : (id n : Name) (version : ℕ) (edit : Edit) (requests : List Request) → name_eq id n ≡ false → has_name (elements_of requests) n ≡ false
    → has_name (elements_of (record { id = id; version = version; edit = edit } ∷ requests)) n ≡ false
new_element_before id n version (Insert after letter) requests other rest = rw (name_eq-comm n id ∙ other) rest
new_element_before id n version (Delete target) requests other rest = rest
new_element_before id n version (Update target letter) requests other rest = rest

-- a name that no request has is no element
pub new_element : (requests : List Request) (n : Name) → list_any (λ r. name_eq r.id n) requests ≡ false → has_name (elements_of requests) n ≡ false
new_element [] n h = refl
new_element (q ∷ requests) n h =
    let both = or_parts (name_eq q.id n) (list_any (λ r. name_eq r.id n) requests) h in
    new_element_before q.id n q.version q.edit requests both.0 (new_element requests n both.1)

-- an accepted insert has a greater stamp than its anchor
rising : (n m : ℕ) → nat_le n m ≡ false → m < n
rising n m h = grind (arith, nat_tests)

request_stamps : (id after : Name) (version : ℕ) (letter : List ℕ) → request_fault (record { id = id; version = version; edit = Insert after letter }) ≡ None → after.stamp < id.stamp
request_stamps id after version letter accepted =
    let order : List (Option RequestFault) = when (nat_le id.stamp after.stamp) StampOrder ∷ [] in
    let later = (first_of-None (when (nat_lt MAX_VERSION version) BadVersion) (None ∷ order) accepted).1 in
    rising id.stamp after.stamp (when-None (nat_le id.stamp after.stamp) StampOrder (first_of-None (when (nat_le id.stamp after.stamp) StampOrder) [] later).0)

-- a request's element follows those of the requests before it, and then the elements of the rest do
joined : (front : List Request) (id : Name) (version : ℕ) (edit : Edit) (rest : List Request)
    → FollowsHistory front (record { id = id; version = version; edit = edit })
    → EachFrom FollowsTree (placed_of (front ++ record { id = id; version = version; edit = edit } ∷ [])) (placed_of rest)
    → EachFrom FollowsTree (placed_of front) (placed_of (record { id = id; version = version; edit = edit } ∷ rest))
joined front id version (Insert after letter) rest follows more = (
  record {
    new = new_element front id follows.new;
    anchored = follows.known;
    rising = request_stamps id after version letter follows.accepted;
  },
  subst (λ (placed : List Placed). EachFrom FollowsTree placed (placed_of rest)) (filter_map-append (λ q. placed_by q.id q.edit) front _) more,
)
joined front id version (Delete target) rest follows more =
    subst (λ (placed : List Placed). EachFrom FollowsTree placed (placed_of rest)) (filter_map-append (λ q. placed_by q.id q.edit) front _ ∙ append-nil (placed_of front)) more
joined front id version (Update target letter) rest follows more =
    subst (λ (placed : List Placed). EachFrom FollowsTree placed (placed_of rest)) (filter_map-append (λ q. placed_by q.id q.edit) front _ ∙ append-nil (placed_of front)) more

pub EachFrom-placed_of : (front rest : List Request) → EachFrom FollowsHistory front rest → EachFrom FollowsTree (placed_of front) (placed_of rest)
EachFrom-placed_of front [] each = tt
EachFrom-placed_of front (q ∷ rest) each = joined front q.id q.version q.edit rest each.0 (EachFrom-placed_of (front ++ q ∷ []) rest each.1)

-- the elements of a history are a tree
pub IsTree-placed_of : (requests : List Request) → IsHistory requests → IsTree (placed_of requests)
IsTree-placed_of requests each = EachFrom-placed_of [] requests each
