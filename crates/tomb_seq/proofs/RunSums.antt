-- How many elements the blocks have, and how many of them show.
use Rattle.std.proofs.Common.{◌≡◌, ℕ, zero, suc, ◌+◌, ◌<◌, ◌≤◌, List, [], ◌∷◌, length, get_or, take, set, insert, remove, map, refl, ap, sym, ◌∙◌, arith, add-one}
use Rattle.std.specs.Prelude.{slice_get, slice_index, sum}
use Rattle.std.proofs.Math.Seq.{map-set_same}
use Rattle.std.proofs.lemmas.List.{map-set, take-map, length-map}
use Rattle.element_name.specs.Name.{Name}
use Rattle.tomb_seq.specs.declared.slot.Slot.{Slot}
use Rattle.tomb_seq.specs.declared.spot.Spot.{Spot}
use Rattle.tomb_seq.specs.Runs.{Run, slots_of, run_len}
use Rattle.tomb_seq.specs.Sums.{sum_before}
use Rattle.tomb_seq.proofs.SlotLemmas.{length_names}
use Rattle.tomb_seq.proofs.RunPlaces.{offset}
use Rattle.tomb_seq.proofs.RunReads.{Counts, of_all, names_sum, name_found}

-- ---- one block changed, came in or went: a number of each block

pub part_set : (f : Run → ℕ) (runs : List Run) (parts new : List ℕ) (r k : ℕ) (after : Run) → parts ≡ map f runs → new ≡ set parts r k → k ≡ f after → new ≡ map f (set runs r after)
part_set f runs parts new r k after h to e = to ∙ (λ i. set (h i) r (e i)) ∙ sym (map-set f runs r after)

pub part_same : (f : Run → ℕ) (runs : List Run) (parts : List ℕ) (r : ℕ) (b after : Run) → parts ≡ map f runs → b ≡ get_or runs r b → f after ≡ f b → parts ≡ map f (set runs r after)
part_same f runs parts r b after h is e = h ∙ sym (map-set_same f runs r after b (e ∙ ap f is))

map_insert : (f : Run → ℕ) (runs : List Run) (r : ℕ) (b : Run) → map f (insert runs r b) ≡ insert (map f runs) r (f b)
map_insert f [] zero b = refl
map_insert f [] (suc r) b = refl
map_insert f (x ∷ runs) zero b = refl
map_insert f (x ∷ runs) (suc r) b = ap (λ (ns : List ℕ). f x ∷ ns) (map_insert f runs r b)

part_insert : (f : Run → ℕ) (runs : List Run) (parts new : List ℕ) (r k : ℕ) (b : Run) → parts ≡ map f runs → new ≡ insert parts r k → k ≡ f b → new ≡ map f (insert runs r b)
part_insert f runs parts new r k b h to e = to ∙ (λ i. insert (h i) r (e i)) ∙ sym (map_insert f runs r b)

-- one became two
pub part_split : (f : Run → ℕ) (runs : List Run) (parts new : List ℕ) (r first second : ℕ) (one two : Run) → parts ≡ map f runs → new ≡ insert (set parts r first) (r + 1) second
    → first ≡ f one → second ≡ f two → new ≡ map f (insert (set runs r one) (suc r) two)
part_split f runs parts new r first second one two h to p q =
    part_insert f (set runs r one) (set parts r first) new (suc r) second two (part_set f runs parts (set parts r first) r first one h refl p)
    (to ∙ ap (λ k. insert (set parts r first) k second) (add-one r)) q

map_remove : (f : Run → ℕ) (runs : List Run) (r : ℕ) → map f (remove runs r) ≡ remove (map f runs) r
map_remove f [] zero = refl
map_remove f [] (suc r) = refl
map_remove f (x ∷ runs) zero = refl
map_remove f (x ∷ runs) (suc r) = ap (λ (ns : List ℕ). f x ∷ ns) (map_remove f runs r)

pub part_remove : (f : Run → ℕ) (runs : List Run) (parts new : List ℕ) (r : ℕ) → parts ≡ map f runs → new ≡ remove parts r → new ≡ map f (remove runs r)
part_remove f runs parts new r h to = to ∙ ap (λ (ns : List ℕ). remove ns r) h ∙ sym (map_remove f runs r)

part_at : (f : Run → ℕ) (runs : List Run) (r : ℕ) (b : Run) → r < length runs → b ≡ get_or runs r b → slice_index (map f runs) r ≡ f b
part_at f [] r b l is = absurd (omega arith)
part_at f (x ∷ runs) zero b l is = ap f (sym is)
part_at f (x ∷ runs) (suc r) b l is = part_at f runs r b (omega arith) is

-- ---- sums

pub lens_sum : (runs : List Run) → sum (map run_len runs) ≡ length (slots_of runs)
lens_sum runs = names_sum of_all runs ∙ length_names (slots_of runs)

pub lens_before : (runs : List Run) (parts : List ℕ) (r : ℕ) → parts ≡ map run_len runs → sum_before parts r ≡ offset runs r
lens_before runs parts r h = ap (λ (ns : List ℕ). sum_before ns r) h ∙ ap sum (take-map run_len r runs) ∙ lens_sum (take r runs)

-- numbers that are those of the blocks
module _ {f : Run → ℕ} {names : List Slot → List Name} (c : Counts f names) (runs : List Run) (parts : List ℕ) (h : parts ≡ map f runs) where
  pub part_ranks : length parts ≡ length runs
  part_ranks = ap length h ∙ length-map runs f

  pub parts_sum : sum parts ≡ length (names (slots_of runs))
  parts_sum = ap sum h ∙ names_sum c runs

  pub parts_le : sum parts ≤ length (slots_of runs)
  parts_le = let a = c.fewer (slots_of runs) in omega (arith, parts_sum, a)

  pub part_is : (r : ℕ) (b : Run) → r < length parts → b ≡ get_or runs r b → slice_index parts r ≡ f b
  part_is r b l is = ap (λ (ns : List ℕ). slice_index ns r) h ∙ part_at f runs r b (omega (arith, part_ranks, l)) is

  -- the name at a place, by the place in its block
  pub name_by_parts : (spot : Spot) (b : Run) (place : ℕ) → spot.rank < length parts → spot.place < slice_index parts spot.rank → sum_before parts spot.rank + spot.place ≡ place
      → b ≡ get_or runs spot.rank b → slice_get (names b.slots) spot.place ≡ slice_get (names (slots_of runs)) place
  name_by_parts spot b place l w e is =
      name_found c runs spot.rank spot.place b (omega (arith, part_ranks, l)) is (omega (arith, w, part_is spot.rank b l is))
      ∙ ap (slice_get (names (slots_of runs))) (ap (λ (ns : List ℕ). sum_before ns spot.rank + spot.place) (sym h) ∙ e)

  -- another number at the rank of a block that changed
  pub set_le : (r k : ℕ) (after : Run) → k ≡ f after → sum (set parts r k) ≤ length (slots_of (set runs r after))
  set_le r k after e =
      let a = ap sum (part_set f runs parts (set parts r k) r k after h refl e) in
      let b = names_sum c (set runs r after) in
      let d = c.fewer (slots_of (set runs r after)) in
      omega (arith, a, b, d)
