-- Spots at which a name was seen.
use Rattle.std.proofs.Common.{◌≡◌, ℕ, zero, suc, ◌<◌, true, false, List, [], ◌∷◌, Some, length, get_or, refl, ap, sym, subst, ◌∙◌, ⊎_elim, arith}
use Rattle.std.specs.Prelude.{slice_get}
use Rattle.std.proofs.lemmas.Bool.{cases_Bool, both_ways}
use Rattle.element_name.specs.Name.{Name, name_eq, has_name, are_distinct}
use Rattle.element_name.specs.Places.{place_in}
use Rattle.element_name.proofs.NameOrder.{name_eq-refl, same_name}
use Rattle.tomb_seq.specs.declared.slot.Slot.{Slot}
use Rattle.tomb_seq.specs.declared.spot.Spot.{Spot}
use Rattle.tomb_seq.specs.Slots.{names_in}
use Rattle.tomb_seq.specs.Runs.{Run, IsThere, slots_of, slots_at, rank_in}
use Rattle.tomb_seq.proofs.SlotEdits.{distinct_head, distinct_tail}
use Rattle.tomb_seq.proofs.RunNames.{distinct_apart, apart_back, has_at}
use Rattle.tomb_seq.proofs.RunPlaces.{is_there, slots_at_is}
use Rattle.tomb_seq.proofs.RunChanges.{distinct_at}

-- a name that stands at a place
has_seen : (names : List Name) (k : ℕ) (n : Name) → slice_get names k ≡ Some n → has_name names n ≡ true
has_seen [] k n e = absurd (cc)
has_seen (x ∷ names) zero n e =
    let is : x ≡ n = cc in
    let t : name_eq n x ≡ true = subst (λ m. name_eq n m ≡ true) (sym is) (name_eq-refl n) in
    rw t refl
has_seen (x ∷ names) (suc k) n e =
    let h : has_name names n ≡ true = has_seen names k n e in
    ⊎_elim
    (λ (t : name_eq n x ≡ true). rw t refl)
    (λ (f : name_eq n x ≡ false). rw f h)
    (cases_Bool (name_eq n x))

place_seen_at : (names : List Name) (k : ℕ) (n : Name) → are_distinct names ≡ true → slice_get names k ≡ Some n → k ≡ place_in names n
place_seen_at [] k n d e = absurd (cc)
place_seen_at (x ∷ names) zero n d e =
    let is : x ≡ n = cc in
    let t : name_eq n x ≡ true = subst (λ m. name_eq n m ≡ true) (sym is) (name_eq-refl n) in
    rw t refl
place_seen_at (x ∷ names) (suc k) n d e =
    let h : has_name names n ≡ true = has_seen names k n e in
    let ih : k ≡ place_in names n = place_seen_at names k n (distinct_tail x names d) e in
    ⊎_elim
    (λ (t : name_eq n x ≡ true). absurd (both_ways (has_name names n) (subst (λ m. has_name names m ≡ false) (sym (same_name n x t)) (distinct_head x names d)) h))
    (λ (f : name_eq n x ≡ false). rw f (omega (arith, ih)))
    (cases_Bool (name_eq n x))

-- the block of a name is the one that has it
rank_seen : (runs : List Run) (r : ℕ) (b : Run) (n : Name) → r < length runs → b ≡ get_or runs r b → are_distinct (names_in (slots_of runs)) ≡ true
    → has_name (names_in b.slots) n ≡ true → r ≡ rank_in runs n
rank_seen [] r b n l is d h = absurd (omega arith)
rank_seen (x ∷ runs) zero b n l is d h =
    let t : has_name (names_in x.slots) n ≡ true = subst (λ (y : Run). has_name (names_in y.slots) n ≡ true) is h in
    rw t refl
rank_seen (x ∷ runs) (suc r) b n l is d h =
    let a = distinct_apart x.slots (slots_of runs) d in
    let f : has_name (names_in x.slots) n ≡ false = apart_back x.slots (slots_of runs) a n (has_at runs r b n (omega arith) is h) in
    let ih : r ≡ rank_in runs n = rank_seen runs r b n (omega arith) is a.second h in
    rw f (omega (arith, ih))

module _ (runs : List Run) (spot : Spot) (b : Run) (n : Name) (l : spot.rank < length runs) (is : b ≡ get_or runs spot.rank b)
    (seen : slice_get (names_in b.slots) spot.place ≡ Some n) where
  -- what is seen in a block is an element
  pub seen_has : has_name (names_in (slots_of runs)) n ≡ true
  seen_has = has_at runs spot.rank b n l is (has_seen (names_in b.slots) spot.place n seen)

  -- and stands there alone
  pub seen_there : are_distinct (names_in (slots_of runs)) ≡ true → IsThere runs n spot
  seen_there d =
      let h = has_seen (names_in b.slots) spot.place n seen in
      let r : spot.rank ≡ rank_in runs n = rank_seen runs spot.rank b n l is d h in
      let p : spot.place ≡ place_in (names_in b.slots) n = place_seen_at (names_in b.slots) spot.place n (distinct_at runs spot.rank b l is d) seen in
      is_there runs n spot seen_has r
      (p ∙ ap (λ (ss : List Slot). place_in (names_in ss) n) (sym (slots_at_is runs spot.rank b l is)) ∙ ap (λ k. place_in (names_in (slots_at runs k)) n) r)
