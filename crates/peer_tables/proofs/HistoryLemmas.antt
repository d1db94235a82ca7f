-- Histories, and what one more request makes of their elements.
use Rattle.std.proofs.Common.{◌≡◌, ℕ, inl, inr, Bool, true, false, not, ◌||◌, List, [], ◌∷◌, ◌++◌, refl, ap, sym, subst, ◌∙◌, append_assoc, IsPermutation}
use Rattle.std.specs.Prelude.{nat_lt, nat_le, map}
use Rattle.std.specs.List.{list_any}
use Rattle.std.proofs.lemmas.List.{append-nil, map-append}
use Rattle.std.proofs.lemmas.List.Elements.{filter_map-append}
use Rattle.std.proofs.lemmas.List.Folds.{list_any-append}
use Rattle.std.specs.Cmp.{both_ways}
use Rattle.std.proofs.lemmas.Bool.{or_parts, and_parts, and_from, or_right}
use Rattle.std.proofs.lemmas.List.Sorted.{IsPermutation-sym}
use Rattle.element_name.proofs.CaseLemmas.{when-None}
use Rattle.element_name.proofs.EachAfterLemmas.{EachAfter-push}
use Rattle.element_name.proofs.NameOrder.{name_eq-refl, name_eq-comm}
use Rattle.element_name.specs.Cases.{when}
use Rattle.element_name.specs.Name.{Name, start, name_eq, has_name, are_distinct}
use Rattle.element_name.specs.Growing.{EachFrom}
use Rattle.element_name.specs.Tree.{Placed, IsTree, order}
use Rattle.element_name.specs.declared.limits.TheConstants.{MAX_VERSION}
use Rattle.coop_request.specs.declared.edit.Edit.{Edit}
use Rattle.coop_request.specs.declared.edit.Edit.TheVariants.{Insert, Delete, Update}
use Rattle.coop_request.specs.declared.request.RequestFault.TheVariants.{BadVersion, StartTarget, StampOrder}
use Rattle.coop_request.specs.Edit.{anchor_or_target, targets_start, placed_by, element_by}
use Rattle.coop_request.specs.Request.{Request, IsAccepted, element_of}
use Rattle.coop_request.specs.History.{placed_of, elements_of, text_order, FollowsHistory, IsHistory}
use Rattle.coop_request.proofs.Histories.{IsTree-placed_of}
use Rattle.tomb_seq.proofs.Has.{Has, Has-permutation, has_name-from_Has, Has-from_has_name}
use Rattle.tomb_seq.proofs.Theorems.{skip_law, each_law}
use Rattle.peer_tables.specs.Kept.{names_after}
use Rattle.peer_tables.proofs.JournalLemmas.{no_row, elements_append, has_more}

-- ---- the element that a request is judged on is there

-- an accepted delete or update isn't of `start`
no_start : (id target : Name) (version : ℕ) (edit : Edit) → IsAccepted (record { id = id; version = version; edit = edit }) → targets_start edit ≡ false
no_start id target version edit accepted =
    let rows = no_row (when (nat_lt MAX_VERSION version) BadVersion ∷ when (targets_start edit) StartTarget ∷ when (nat_le id.stamp (anchor_or_target edit).stamp) StampOrder ∷ []) accepted in
    when-None (targets_start edit) StartTarget rows.1.0

pub other_true : (a b : Bool) → (a || b) ≡ true → a ≡ false → b ≡ true
other_true true b h f = absurd (cc)
other_true false b h f = h

pub no_start_target : (q : Request) → IsAccepted q → targets_start q.edit ≡ false
no_start_target q accepted = no_start q.id (anchor_or_target q.edit) q.version q.edit accepted

own_element : (R : List Request) (id : Name) (version : ℕ) (edit : Edit) → FollowsHistory R (record { id = id; version = version; edit = edit })
    → has_name (elements_of (R ++ record { id = id; version = version; edit = edit } ∷ [])) (element_by id edit) ≡ true
own_element R id version (Insert after letter) follows =
    rw (elements_append R (record { id = id; version = version; edit = Insert after letter } ∷ []), list_any-append (name_eq id) (elements_of R) (id ∷ []), name_eq-refl id)
    (or_right (has_name (elements_of R) id) true refl)
own_element R id version (Delete target) follows =
    rw (elements_append R (record { id = id; version = version; edit = Delete target } ∷ []))
    (has_more (elements_of R) [] target (other_true (name_eq target start) (has_name (elements_of R) target) follows.known (no_start id target version (Delete target) follows.accepted)))
own_element R id version (Update target letter) follows =
    rw (elements_append R (record { id = id; version = version; edit = Update target letter } ∷ []))
    (has_more (elements_of R) [] target (other_true (name_eq target start) (has_name (elements_of R) target) follows.known (no_start id target version (Update target letter) follows.accepted)))

pub own_element_of : (R : List Request) (q : Request) → FollowsHistory R q → has_name (elements_of (R ++ q ∷ [])) (element_of q) ≡ true
own_element_of R q follows = own_element R q.id q.version q.edit follows

more_elements : (R S : List Request) (n : Name) → has_name (elements_of R) n ≡ true → has_name (elements_of (R ++ S)) n ≡ true
more_elements R S n h = rw (elements_append R S) (has_more (elements_of R) (elements_of S) n h)

elements_from : (R S : List Request) (q : Request) → EachFrom FollowsHistory R S → Has S q → has_name (elements_of (R ++ S)) (element_of q) ≡ true
elements_from R [] q each h = absurd h
elements_from R (r ∷ S) q each (inl p) =
    subst (λ (T : List Request). has_name (elements_of T) (element_of q) ≡ true) (append_assoc R (r ∷ []) S)
    (more_elements (R ++ r ∷ []) S (element_of q) (subst (λ (x : Request). has_name (elements_of (R ++ r ∷ [])) (element_of x) ≡ true) p (own_element_of R r each.0)))
elements_from R (r ∷ S) q each (inr h) =
    subst (λ (T : List Request). has_name (elements_of T) (element_of q) ≡ true) (append_assoc R (r ∷ []) S) (elements_from (R ++ r ∷ []) S q each.1 h)

pub element_there : (R : List Request) (q : Request) → IsHistory R → Has R q → has_name (elements_of R) (element_of q) ≡ true
element_there R q each h = elements_from [] R q each h

-- ---- no name is twice

pub has_id : (R : List Request) (n : Name) → list_any (λ r. name_eq r.id n) R ≡ has_name (map (λ q. q.id) R) n
has_id [] n = refl
has_id (q ∷ R) n = ap (λ b. b || list_any (λ r. name_eq r.id n) R) (name_eq-comm q.id n) ∙ ap (λ b. name_eq n q.id || b) (has_id R n)

distinct_push : (names : List Name) (n : Name) → are_distinct names ≡ true → has_name names n ≡ false → are_distinct (names ++ n ∷ []) ≡ true
distinct_push [] n d h = refl
distinct_push (m ∷ names) n d h =
    let both = or_parts (name_eq n m) (has_name names n) h in
    let parts = and_parts (not (has_name names m)) (are_distinct names) d in
    and_from (not (has_name (names ++ n ∷ []) m)) (are_distinct (names ++ n ∷ []))
    (rw (list_any-append (name_eq m) names (n ∷ []), name_eq-comm m n ∙ both.0) (or_nothing (has_name names m) parts.0))
    (distinct_push names n parts.1 both.1)
  where
    or_nothing : (b : Bool) → not b ≡ true → not (b || (false || false)) ≡ true
    or_nothing true h = absurd (cc)
    or_nothing false h = refl

once_from : (R S : List Request) → are_distinct (map (λ q. q.id) R) ≡ true → EachFrom FollowsHistory R S → are_distinct (map (λ q. q.id) (R ++ S)) ≡ true
once_from R [] d each = rw (append-nil R) d
once_from R (q ∷ S) d each =
    subst (λ (T : List Request). are_distinct (map (λ r. r.id) T) ≡ true) (append_assoc R (q ∷ []) S)
    (once_from (R ++ q ∷ []) S
    (rw (map-append (λ r. r.id) R (q ∷ [])) (distinct_push (map (λ r. r.id) R) q.id d (sym (has_id R q.id) ∙ each.0.new)))
    each.1)

pub once_law : (R : List Request) → IsHistory R → are_distinct (map (λ q. q.id) R) ≡ true
once_law R each = once_from [] R refl each

-- ---- one more request

pub placed_append : (R : List Request) (q : Request) → placed_of (R ++ q ∷ []) ≡ placed_of R ++ placed_of (q ∷ [])
placed_append R q = filter_map-append (λ r. placed_by r.id r.edit) R (q ∷ [])

order_more : (R : List Request) (id : Name) (version : ℕ) (edit : Edit) → IsHistory (R ++ record { id = id; version = version; edit = edit } ∷ [])
    → text_order (R ++ record { id = id; version = version; edit = edit } ∷ []) ≡ names_after (text_order R) id edit
order_more R id version (Insert after letter) each =
    let q : Request = record { id = id; version = version; edit = Insert after letter } in
    let p : Placed = record { name = id; anchor = after } in
    ap order (placed_append R q) ∙ skip_law (placed_of R) p (subst IsTree (placed_append R q) (IsTree-placed_of (R ++ q ∷ []) each))
order_more R id version (Delete target) each = ap order (placed_append R (record { id = id; version = version; edit = Delete target }) ∙ append-nil (placed_of R))
order_more R id version (Update target letter) each =
    ap order (placed_append R (record { id = id; version = version; edit = Update target letter }) ∙ append-nil (placed_of R))

pub order_push : (R : List Request) (q : Request) → IsHistory R → FollowsHistory R q → text_order (R ++ q ∷ []) ≡ names_after (text_order R) q.id q.edit
order_push R q each follows = order_more R q.id q.version q.edit (EachAfter-push FollowsHistory R q each follows)

-- ---- the order has the elements

pub has_permuted : (xs ys : List Name) (n : Name) → IsPermutation xs ys → IsPermutation ys xs → has_name ys n ≡ has_name xs n
has_permuted xs ys n p q = both_ways (has_name ys n) (has_name xs n)
    (λ h. has_name-from_Has xs n (Has-permutation ys xs n q (Has-from_has_name ys n h)))
    (λ h. has_name-from_Has ys n (Has-permutation xs ys n p (Has-from_has_name xs n h)))

pub has_order : (R : List Request) (n : Name) → IsHistory R → has_name (text_order R) n ≡ has_name (elements_of R) n
has_order R n each =
    let p = each_law (placed_of R) (IsTree-placed_of R each) in
    has_permuted (elements_of R) (text_order R) n p (IsPermutation-sym (elements_of R) (text_order R) p)
