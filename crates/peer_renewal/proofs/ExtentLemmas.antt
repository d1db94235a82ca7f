-- Objects over the elements of a renewed text, `specs/Extents.antt`.
use Rattle.std.proofs.Common.{◌≡◌, ℕ, suc, ◌+◌, ◌<◌, ◌≤◌, Bool, true, false, cond, List, [], ◌∷◌, ◌++◌, map, length, get_or, drop, refl, ap, sym, ◌∙◌, add-one, append_assoc, append-nil, drop-cons}
use Rattle.std.specs.Prelude.{slice_index_or}
use Rattle.std.proofs.lemmas.List.{drop_all}
use Rattle.element_name.specs.Name.{Name}
use Rattle.policy_book.specs.declared.parts.Object.{Object}
use Rattle.peer_core.specs.Peer.{Peer}
use Rattle.peer_renewal.specs.Coverage.{is_kept, kept_objects}
use Rattle.peer_renewal.specs.Extents.{covered_name, covered_names, object_anew, made_anew}
use Rattle.peer_renewal.proofs.Gathering.{Splits}

-- one piece more
pub names_more : (acc whole : List Name) (left : List Bool) (pieces : List (List ℕ)) (place : ℕ) (piece : List ℕ) → place < length pieces → piece ≡ get_or pieces place piece
    → acc ++ covered_names (place + 1) left (drop place pieces) ≡ whole
    → (acc ++ covered_name (place + 1) (slice_index_or left 0 false)) ++ covered_names (place + 1 + 1) (drop (length piece) left) (drop (place + 1) pieces) ≡ whole
names_more acc whole left pieces place piece low is so_far =
    let first : List Name = covered_name (place + 1) (slice_index_or left 0 false) in
    append_assoc acc first (covered_names (place + 1 + 1) (drop (length piece) left) (drop (place + 1) pieces))
    ∙ ap (λ (k : ℕ). acc ++ (first ++ covered_names (place + 1 + 1) (drop (length piece) left) (drop k pieces))) (add-one place)
    ∙ ap (λ (p : List ℕ). acc ++ covered_names (place + 1) left (p ∷ drop (suc place) pieces)) is
    ∙ ap (λ (l : List (List ℕ)). acc ++ covered_names (place + 1) left l) (sym (drop-cons pieces place piece low))
    ∙ so_far

pub names_all : (acc whole : List Name) (left : List Bool) (pieces : List (List ℕ)) (place : ℕ) → length pieces ≤ place
    → acc ++ covered_names (place + 1) left (drop place pieces) ≡ whole → acc ≡ whole
names_all acc whole left pieces place end so_far =
    sym (append-nil acc) ∙ ap (λ (l : List (List ℕ)). acc ++ covered_names (place + 1) left l) (sym (drop_all place pieces end)) ∙ so_far

pub anew_split : (p : Peer) (pieces : List (List ℕ)) → Splits (made_anew p pieces)
anew_split p pieces o objects = by (is_kept o.extent)
  where
    by : (b : Bool) → map (object_anew p pieces) (cond b (o ∷ kept_objects objects) (kept_objects objects))
        ≡ map (object_anew p pieces) (cond b (o ∷ []) []) ++ map (object_anew p pieces) (kept_objects objects)
    by true = refl
    by false = refl

-- there are as many objects as are kept
pub as_many_anew : (p : Peer) (pieces : List (List ℕ)) (objects : List Object) → length (map (object_anew p pieces) objects) ≡ length objects
as_many_anew p pieces [] = refl
as_many_anew p pieces (o ∷ objects) = ap suc (as_many_anew p pieces objects)
