-- Sums of numbers, by groups.
use Rattle.std.proofs.Common.{◌≡◌, ℕ, zero, suc, ◌+◌, ◌-◌, ◌*◌, ◌/◌, ◌<◌, ◌≤◌, ⊎_elim, min, List, [], ◌∷◌, length, take, drop, set, refl, ap, sym, ◌∙◌, arith, add-one, length-set, drop-drop}
use Rattle.std.specs.Prelude.{slice_index, sum}
use Rattle.std.proofs.Math.Seq.{take-add}
use Rattle.std.proofs.lemmas.List.{take_all, drop_min, take_min, take_rest, get_or-set_same, get_or-set_other}
use Rattle.std.proofs.lemmas.List.Sums.{sum_by-cons, sum_by-append, sum_by_more, sum_by-take-le, sum_by-take-drop}
use Rattle.tomb_seq.specs.Sums.{sum_before, AreGrouped}
use Rattle.std.proofs.lemmas.Bool.{cases_lt}

-- ---- sums of prefixes

pub before_more : (xs : List ℕ) (i : ℕ) → i < length xs → sum_before xs (i + 1) ≡ sum_before xs i + slice_index xs i
before_more xs i l = sum_by_more (λ n. n) xs i 0 l

pub before_add : (xs : List ℕ) (a k : ℕ) → sum_before xs (a + k) ≡ sum_before xs a + sum (take k (drop a xs))
before_add xs a k = ap sum (take-add a k xs) ∙ sum_by-append (λ n. n) (take a xs) (take k (drop a xs))

pub before_le : (xs : List ℕ) (i : ℕ) → sum_before xs i ≤ sum xs
before_le xs i = sum_by-take-le (λ n. n) xs i

pub before_all : (xs : List ℕ) (i : ℕ) → length xs ≤ i → sum_before xs i ≡ sum xs
before_all xs i l = ap sum (take_all i xs l)

pub before_mono : (xs : List ℕ) (i j : ℕ) → i ≤ j → sum_before xs i ≤ sum_before xs j
before_mono xs i j l =
    let k : i + (j - i) ≡ j = omega arith in
    let e = before_add xs i (j - i) in
    let f = ap (sum_before xs) k in
    omega (arith, e, f)

-- another number at a rank
pub before_set_front : (xs : List ℕ) (r y k : ℕ) → k ≤ r → sum_before (set xs r y) k ≡ sum_before xs k
before_set_front xs r y zero l = refl
before_set_front [] r y (suc k) l = refl
before_set_front (x ∷ xs) zero y (suc k) l = absurd (omega arith)
before_set_front (x ∷ xs) (suc r) y (suc k) l =
    let a = sum_by-cons (λ n. n) x (take k (set xs r y)) in
    let b = sum_by-cons (λ n. n) x (take k xs) in
    let ih = before_set_front xs r y k (omega arith) in
    omega (arith, a, b, ih)

pub before_set_past : (xs : List ℕ) (r y k : ℕ) → r < k → r < length xs → sum_before (set xs r y) k + slice_index xs r ≡ sum_before xs k + y
before_set_past [] r y k l m = absurd (omega arith)
before_set_past (x ∷ xs) r y zero l m = absurd (omega arith)
before_set_past (x ∷ xs) zero y (suc k) l m =
    let a = sum_by-cons (λ n. n) y (take k xs) in
    let b = sum_by-cons (λ n. n) x (take k xs) in
    omega (arith, a, b)
before_set_past (x ∷ xs) (suc r) y (suc k) l m =
    let a = sum_by-cons (λ n. n) x (take k (set xs r y)) in
    let b = sum_by-cons (λ n. n) x (take k xs) in
    let ih = before_set_past xs r y k (omega arith) (omega arith) in
    omega (arith, a, b, ih)

-- ---- groups

module _ (parts groups : List ℕ) (h : AreGrouped parts groups) where
  pub groups_before : (g : ℕ) → g ≤ length groups → sum_before groups g ≡ sum_before parts (32 * g)
  groups_before zero l = refl
  groups_before (suc g) l =
      let below : g < length groups = omega arith in
      let a = before_more groups g below in
      let e = h.each g below in
      let k : 32 * g + 32 ≡ 32 * suc g = omega arith in
      let s = ap (sum_before groups) (add-one g) in
      let m = ap (sum_before parts) k in
      let ih = groups_before g (omega arith) in
      omega (arith, s, a, e, m, ih)

  pub groups_all : sum groups ≡ sum parts
  groups_all =
      sym (before_all groups (length groups) (omega arith))
      ∙ groups_before (length groups) (omega arith)
      ∙ before_all parts (32 * length groups) h.cover

  -- the sum in front of a rank: whole groups, and then numbers
  pub front_is : (q rank : ℕ) → q ≤ length groups → q * 32 ≤ rank → sum_before groups q + sum (take (rank - q * 32) (drop (q * 32) parts)) ≡ sum_before parts rank
  front_is q rank l m =
      let a = groups_before q l in
      let b = before_add parts (q * 32) (rank - q * 32) in
      let i : 32 * q ≡ q * 32 = omega arith in
      let j : q * 32 + (rank - q * 32) ≡ rank = omega arith in
      let e = ap (sum_before parts) i in
      let f = ap (sum_before parts) j in
      omega (arith, a, b, e, f)

  -- a place that falls in a group falls in one of its numbers
  pub group_within : (g rest : ℕ) → g < length groups → rest < slice_index groups g → (g * 32 ≤ length parts) × (rest < sum (drop (g * 32) parts))
  group_within g rest l w =
      let i : 32 * g ≡ g * 32 = omega arith in
      let s = ap (sum_before parts) i in
      let e = h.each g l in
      let m = before_le parts (32 * g + 32) in
      let t = sum_by-take-drop (λ n. n) parts (g * 32) in
      let some : rest < sum (drop (g * 32) parts) = omega (arith, s, e, m, t, w) in (
        ⊎_elim
            (λ (a : g * 32 < length parts). omega arith)
            (λ (b : length parts ≤ g * 32).
            let p = before_all parts (g * 32) b in
            absurd (omega (arith, p, t, some)))
            (cases_lt (g * 32) (length parts)),
        some,
      )

  pub found_place : (g rest place r p : ℕ) → g < length groups → sum_before groups g + rest ≡ place → sum_before (drop (g * 32) parts) r + p ≡ rest
      → sum_before parts (g * 32 + r) + p ≡ place
  found_place g rest place r p l e f =
      let a = groups_before g (omega arith) in
      let i : 32 * g ≡ g * 32 = omega arith in
      let s = ap (sum_before parts) i in
      let b = before_add parts (g * 32) r in
      omega (arith, a, s, b, e, f)

  -- another number in a group
  module _ (rank : ℕ) (l : rank < length parts) where
    abbrev q : ℕ
    q = rank / 32

    pub group_below : rank / 32 < length groups
    group_below = let c = h.cover in omega (arith, c, l)

    pub part_le : slice_index parts rank ≤ slice_index groups (rank / 32)
    part_le =
        let e = h.each q group_below in
        let a = before_mono parts (32 * q) rank (omega arith) in
        let b = before_mono parts (rank + 1) (32 * q + 32) (omega arith) in
        let m = before_more parts rank l in
        omega (arith, e, a, b, m)

    pub group_le : slice_index groups (rank / 32) ≤ sum parts
    group_le = let e = h.each q group_below in let m = before_le parts (32 * q + 32) in omega (arith, e, m)

    pub set_grouped : (number v : ℕ) → v ≡ slice_index groups (rank / 32) - slice_index parts rank + number → AreGrouped (set parts rank number) (set groups (rank / 32) v)
    set_grouped number v is_new = record {
      cover = let a = length-set parts rank number in let b = length-set groups q v in let c = h.cover in omega (arith, a, b, c);
      each = λ g m.
          let w = length-set groups q v in
          let below : g < length groups = omega (arith, w, m) in
          let e = h.each g below in
          ⊎_elim
          (λ (a : g < q).
          let other = get_or-set_other groups q g v 0 (λ same. omega (arith, same, a)) in
          let x = before_set_front parts rank number (32 * g) (omega arith) in
          let y = before_set_front parts rank number (32 * g + 32) (omega arith) in
          omega (arith, other, x, y, e))
          (λ (b : q ≤ g). ⊎_elim
          (λ (c : q < g).
          let other = get_or-set_other groups q g v 0 (λ same. omega (arith, same, c)) in
          let x = before_set_past parts rank number (32 * g) (omega arith) l in
          let y = before_set_past parts rank number (32 * g + 32) (omega arith) l in
          omega (arith, other, x, y, e))
          (λ (d : g ≤ q).
          let is : g ≡ q = omega arith in
          let this = ap (slice_index (set groups q v)) is ∙ get_or-set_same groups q v 0 group_below ∙ is_new in
          let old = ap (slice_index groups) is in
          let x = before_set_front parts rank number (32 * g) (omega arith) in
          let y = before_set_past parts rank number (32 * g + 32) (omega arith) l in
          let p = part_le in
          omega (arith, this, old, x, y, e, p))
          (cases_lt q g))
          (cases_lt g q);
    }

-- ---- all groups summed anew

-- the groups so far
pub record SoFar (parts left groups : List ℕ) (g : ℕ) : Type 0 where
  pub rest : left ≡ drop (32 * g) parts
  pub each : (j : ℕ) → j < g → sum_before parts (32 * j) + slice_index groups j ≡ sum_before parts (32 * j + 32)

pub so_far_none : (parts groups : List ℕ) → SoFar parts parts groups 0
so_far_none parts groups = record { rest = refl; each = λ j m. absurd (omega arith) }

-- the next one
pub so_far_more : (parts left groups : List ℕ) (g size here : ℕ) → SoFar parts left groups g → g < length groups → size ≡ min 32 (length left) → here ≡ sum (take size left)
    → SoFar parts (take (length left - size) (drop size left)) (set groups g here) (g + 1)
so_far_more parts left groups g size here h l sized is =
    record {
      rest = take_rest left size ∙ ap (λ k. drop k left) sized ∙ drop_min 32 left ∙ ap (drop 32) h.rest ∙ drop-drop 32 (32 * g) parts ∙ ap (λ k. drop k parts) (omega arith);
      each = λ j m. ⊎_elim
          (λ (a : j < g).
          let other = get_or-set_other groups g j here 0 (λ same. omega (arith, same, a)) in
          let e = h.each j a in
          omega (arith, other, e))
          (λ (b : g ≤ j).
          let at : j ≡ g = omega arith in
          let this = ap (slice_index (set groups g here)) at ∙ get_or-set_same groups g here 0 l in
          let e = before_add parts (32 * g) 32 in
          let f : here ≡ sum (take 32 (drop (32 * g) parts)) = is ∙ ap (λ k. sum (take k left)) sized ∙ ap sum (take_min 32 left) ∙ ap (λ (ns : List ℕ). sum (take 32 ns)) h.rest in
          let x = ap (λ k. sum_before parts (32 * k)) at in
          let y = ap (λ k. sum_before parts (32 * k + 32)) at in
          omega (arith, this, e, f, x, y))
          (cases_lt j g);
    }

-- fits, as all do
pub so_far_fits : (parts left groups : List ℕ) (g size n : ℕ) → SoFar parts left groups g → sum parts < n → sum (take size left) < n
so_far_fits parts left groups g size n h fits =
    let e = ap (λ (ns : List ℕ). sum (take size ns)) h.rest in
    let a = before_add parts (32 * g) size in
    let m = before_le parts (32 * g + size) in
    omega (arith, e, a, m, fits)

pub so_far_all : (parts left groups : List ℕ) (g : ℕ) → SoFar parts left groups g → length groups ≤ g → length parts ≤ 32 * length groups → AreGrouped parts groups
so_far_all parts left groups g h all cover = record { cover = cover; each = λ j m. h.each j (omega arith) }
