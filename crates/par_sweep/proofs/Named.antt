-- What is kept under a name, in a table whose names ascend.
use Rattle.std.proofs.Common.{◌≡◌, Bool, true, false, cond, List, [], ◌∷◌, map, Some, refl, sym, ap, subst, ◌∙◌}
use Rattle.std.specs.Option.{option_map}
use Rattle.std.specs.List.{AllByRecursion}
use Rattle.std.proofs.lemmas.Bool.{and_parts}
use Rattle.element_name.specs.Name.{Name, name_eq, has_name}
use Rattle.element_name.proofs.NameOrder.{same_name, name_lt-apart}
use Rattle.coop_request.specs.Request.{Request, element_of}
use Rattle.request_state.specs.declared.kept.Kept.{Kept}
use Rattle.request_state.specs.Table.{kept_of, kept_request, is_in_order}
use Rattle.retro_undo.specs.Undo.{have_elements}
use Rattle.retro_undo.proofs.Parts.{all_by, all_both}
use Rattle.retro_undo.proofs.Found.{IsAbove, first_below, rest_in_order}

-- two maps that agree at each item
pub maps_same : {X : Type 0} (f g : X → X) (xs : List X) → AllByRecursion (λ x. f x ≡ g x) xs → map f xs ≡ map g xs
maps_same f g [] all = refl
maps_same f g (x ∷ xs) all = ap (λ y. y ∷ map f xs) all.0 ∙ ap (λ ys. g x ∷ ys) (maps_same f g xs all.1)

pub map_keeps : {X : Type 0} (f : X → X) (xs : List X) → AllByRecursion (λ x. f x ≡ x) xs → map f xs ≡ xs
map_keeps f [] all = refl
map_keeps f (x ∷ xs) all = ap (λ y. y ∷ map f xs) all.0 ∙ ap (λ ys. x ∷ ys) (map_keeps f xs all.1)

abbrev pub IsKeptAs : Name → List Kept → Kept → Type 0
IsKeptAs n table k = name_eq k.request.id n ≡ true → kept_of table n ≡ Some k

-- what has the name is what is kept under it
pub kept_named : (n : Name) (table : List Kept) → is_in_order table ≡ true → AllByRecursion (IsKeptAs n table) table
kept_named n [] order = tt
kept_named n (k ∷ table) order = (
  (λ same. ap (λ b. cond b (Some k) (kept_of table n)) same),
  all_by (λ x. IsAbove k.request.id x × IsKeptAs n table x) (IsKeptAs n (k ∷ table)) behind table
      (all_both (IsAbove k.request.id) (IsKeptAs n table) table (first_below k table order) (kept_named n table (rest_in_order k table order))),
)
  where
    behind : (x : Kept) → IsAbove k.request.id x × IsKeptAs n table x → IsKeptAs n (k ∷ table) x
    behind x both same =
        let apart : name_eq k.request.id n ≡ false = subst (λ m. name_eq k.request.id m ≡ false) (same_name x.request.id n same) (name_lt-apart k.request.id x.request.id both.0) in
        ap (λ b. cond b (Some k) (kept_of table n)) apart ∙ both.1 same

-- ---- what the names have

-- the element of what is kept is one of the names
pub element_there : (names : List Name) (table : List Kept) (n : Name) (q : Request) → have_elements names table ≡ true → kept_request table n ≡ Some q → has_name names (element_of q) ≡ true
element_there names [] n q h found = absurd cc
element_there names (k ∷ table) n q h found = by (name_eq k.request.id n) found (element_there names table n q (and_parts (has_name names (element_of k.request)) (have_elements names table) h).1)
  where
    by : (b : Bool) → option_map (λ (x : Kept). x.request) (cond b (Some k) (kept_of table n)) ≡ Some q
        → (kept_request table n ≡ Some q → has_name names (element_of q) ≡ true) → has_name names (element_of q) ≡ true
    by true found rest =
        let same : k.request ≡ q = cc in
        ap (λ r. has_name names (element_of r)) (sym same) ∙ (and_parts (has_name names (element_of k.request)) (have_elements names table) h).0
    by false found rest = rest found
