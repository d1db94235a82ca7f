-- The cells and what is kept, as an entry reaches them.
use Rattle.std.proofs.Common.{◌≡◌, ℕ, inl, inr, Bool, true, false, List, [], ◌∷◌, ◌++◌, None, Some, refl, sym, ap, ◌∙◌, filter}
use Rattle.std.specs.Prelude.{if◌then◌else◌}
use Rattle.element_name.specs.Name.{Name, start, name_eq}
use Rattle.element_name.proofs.NameOrder.{same_name}
use Rattle.coop_request.specs.Request.{Request, element_of}
use Rattle.coop_request.specs.History.{request_of, FollowsHistory}
use Rattle.element_name.specs.Growing.{EachFrom}
use Rattle.elem_show.specs.Cell.{cell_from}
use Rattle.elem_show.specs.Counting.{cell_with}
use Rattle.elem_show.proofs.Cells.{cell_from-cons, with_elsewhere}
use Rattle.request_state.specs.declared.kept.Kept.{Kept}
use Rattle.request_state.specs.Table.{kept_of}
use Rattle.retro_undo.proofs.Found.{never_start}
use Rattle.tomb_seq.proofs.Has.{Has}

-- ---- cells

-- an element's cell follows from the counted requests of that element
pub cell_filter : (e : Name) (own : List ℕ) (p r : Request → Bool) (R : List Request) → ((q : Request) → Has R q → name_eq (element_of q) e ≡ true → p q ≡ r q)
    → cell_from e own (filter p R) ≡ cell_from e own (filter r R)
cell_filter e own p r [] agree = refl
cell_filter e own p r (q ∷ R) agree = by (name_eq (element_of q) e) refl (cell_filter e own p r R (λ x h same. agree x (inr h) same))
  where
    by : (b : Bool) → name_eq (element_of q) e ≡ b → cell_from e own (filter p R) ≡ cell_from e own (filter r R)
        → cell_from e own (filter p (q ∷ R)) ≡ cell_from e own (filter r (q ∷ R))
    by true here rest = ap (λ t. cell_from e own (if t then q ∷ filter p R else filter p R)) (agree q (inl refl) here) ∙ put (r q)
      where
        put : (t : Bool) → cell_from e own (if t then q ∷ filter p R else filter p R) ≡ cell_from e own (if t then q ∷ filter r R else filter r R)
        put true = cell_from-cons e q own (filter p R) ∙ ap (cell_with e q) rest ∙ sym (cell_from-cons e q own (filter r R))
        put false = rest
    by false elsewhere rest = skip (p q) (filter p R) ∙ rest ∙ sym (skip (r q) (filter r R))
      where
        skip : (t : Bool) (xs : List Request) → cell_from e own (if t then q ∷ xs else xs) ≡ cell_from e own xs
        skip true xs = cell_from-cons e q own xs ∙ with_elsewhere q e (cell_from e own xs) elsewhere
        skip false xs = refl

-- ---- what is kept

pub kept_has : (table : List Kept) (n : Name) (k : Kept) → kept_of table n ≡ Some k → Has table k
kept_has [] n k h = absurd cc
kept_has (x ∷ table) n k h = by (name_eq x.request.id n) h (kept_has table n k)
  where
    by : (b : Bool) → (if b then Some x else kept_of table n) ≡ Some k → (kept_of table n ≡ Some k → Has table k) → Has (x ∷ table) k
    by true e rest = inl cc
    by false e rest = inr (rest e)

-- no request of a history has the start's name
pub no_start : (before rest : List Request) → EachFrom FollowsHistory before rest → request_of rest start ≡ None
no_start before [] each = refl
no_start before (q ∷ rest) each = by (name_eq q.id start) refl (no_start (before ++ q ∷ []) rest each.1)
  where
    by : (b : Bool) → name_eq q.id start ≡ b → request_of rest start ≡ None → (if b then Some q else request_of rest start) ≡ None
    by true same none = absurd (never_start q each.0.accepted (same_name q.id start same))
    by false apart none = none
