-- Rows of tickets as they change, and what a search by halves finds in them.
use Rattle.std.proofs.Common.{◌≡◌, ℕ, ◌+◌, ◌-◌, ◌<◌, ◌≤◌, zero, suc, Bool, true, false, cond, List, [], ◌∷◌, ◌++◌, None, Some, length, drop, get_or, set}
use Rattle.std.proofs.Common.{remove, refl, sym, ap, subst, ◌∙◌, arith, eqb, ltb, ltb-true}
use Rattle.std.specs.Prelude.{option_map, position, map}
use Rattle.std.specs.List.{All, AllPairs, insert, position_or_len}
use Rattle.std.specs.List.Sorted.{IsNonDecreasing, IsNonDecreasingBy, IsPartitionPoint}
use Rattle.std.proofs.lemmas.Bool.{eqb-true, eq-eqb}
use Rattle.std.proofs.lemmas.Bool.Decides.{nat_tests}
use Rattle.std.proofs.lemmas.List.{length-set, get_or-set_other, length_push, get_or-drop, length-drop, get_or-map, length-map, map-set}
use Rattle.std.proofs.lemmas.List.Edits.{length-remove, get_or-remove_below, get_or-remove_above}
use Rattle.std.proofs.lemmas.List.Elements.{All-push}
use Rattle.std.proofs.lemmas.List.Quantifiers.{all_pairs_push, all_pairs_remove}
use Rattle.std.proofs.lemmas.List.Sorted.{IsNonDecreasingBy-insert}
use Rattle.std.proofs.lemmas.Option.{get_or_from_slice_get, slice_get_read, slice_get-get_or}
use Rattle.std.proofs.lemmas.Grind.{get_or-set_at}
use Rattle.std.proofs.lemmas.List.Sums.{sum_by-cons, sum_by_push, sum_by-insert, sum_by-remove, sum_by-set, get_or-le-sum_by, position_or_len_is}
use Rattle.hold_back.specs.declared.awaited.Awaited.{Awaited}
use Rattle.hold_back.specs.declared.awaited.Awaited.TheVariants.{Nothing}
use Rattle.hold_back.specs.declared.ticket.Ticket.{Ticket}
use Rattle.hold_back.specs.Index.{awaited_rank, rank, ranks, ticket_rank, ticket_ranks, times_in, IsFirstNotBelow, IsRisingRow, IsWith, IsWithout, AreArrivals, IsTicketRow}

-- ---- one row

pub rises : (row : List ℕ) → IsRisingRow row → IsNonDecreasing row
rises row up i j d le within = by (ltb i j) refl
  where
    by : (b : Bool) → ltb i j ≡ b → get_or row i d ≤ get_or row j d
    by true e = up i j d (ltb-true i j e) within
    by false e =
        let same : i ≡ j = grind (arith, nat_tests) in
        subst (λ (m : ℕ). get_or row i d ≤ get_or row m d) same (omega arith)

pub strictly_rises : (row : List ℕ) → AllPairs (λ a b. a < b) row → IsNonDecreasing row
strictly_rises row up = rises row (λ i j d lt within. let low = up i j d lt within in omega (arith, low))

pub found_place : (row : List ℕ) (x i : ℕ) → i ≤ length row → IsPartitionPoint (λ y. ltb y x ≡ true) (λ y. ltb y x ≡ false) row i → IsFirstNotBelow x row i
found_place row x i within point = record {
  within = within;
  below = λ k d lt. ltb-true (get_or row k d) x (point.0 k d (omega arith) lt);
  above = λ k d from to. let no = point.1 k d from to in grind (arith, nat_tests, no);
}

-- what is read at a place
pub read_at : (row : List ℕ) (i x : ℕ) → i < length row → x ≡ get_or row i x → get_or row i 0 ≡ x
read_at row i x within same = get_or_from_slice_get row i x 0 (slice_get_read row (length row) i x refl within same)

pub with_one : (row : List ℕ) (x i : ℕ) → IsRisingRow row → IsFirstNotBelow x row i → IsWith x row (insert row i x)
with_one row x i up place = record {
  rising = λ a b d lt within. IsNonDecreasingBy-insert (λ y. y) row i x (rises row up) place.within
      (λ k d lt. let under = place.below k d lt in omega (arith, under)) place.above a b d (omega (arith, lt)) within;
  times = λ y. sum_by-insert (λ z. cond (eqb z y) 1 0) row i x;
}

-- what stands in a row has a place there
pub there_at : (row : List ℕ) (x : ℕ) → 1 ≤ times_in x row → (k : ℕ) × (k < length row) × (get_or row k 0 ≡ x)
there_at [] x some = absurd (omega (arith, some))
there_at (y ∷ row) x some = by (eqb y x) refl (there_at row x)
  where
    by : (b : Bool) → eqb y x ≡ b → (1 ≤ times_in x row → (k : ℕ) × (k < length row) × (get_or row k 0 ≡ x)) → (k : ℕ) × (k < length (y ∷ row)) × (get_or (y ∷ row) k 0 ≡ x)
    by true e later = (0, omega arith, eqb-true y x e)
    by false e later =
        let first = sum_by-cons (λ z. cond (eqb z x) 1 0) y row in
        let none = ap {B = ℕ} (λ (b : Bool). cond b 1 0) e in
        let rest = later (omega (arith, first, none, some)) in
        (suc rest.0, (let lt = rest.1 in omega (arith, lt)), rest.2)

pub times_at : (row : List ℕ) (x i : ℕ) → i < length row → get_or row i 0 ≡ x → 1 ≤ times_in x row
times_at row x i within same =
    let some = get_or-le-sum_by (λ z. cond (eqb z x) 1 0) row i 0 within in
    let one = ap {B = ℕ} (λ (b : Bool). cond b 1 0) (eq-eqb (get_or row i 0) x same) in
    omega (arith, some, one)

-- of those that aren't below x, the one at its place is the least
pub least : (row : List ℕ) (x i y : ℕ) → IsRisingRow row → IsFirstNotBelow x row i → 1 ≤ times_in y row → x ≤ y → (i < length row) × (get_or row i 0 ≤ y)
least row x i y up place there le =
    let at = there_at row y there in
    let within = at.1 in
    let same = at.2 in
    let low : i ≤ at.0 = by at.0 same (ltb at.0 i) refl in
    let first = rises row up i at.0 0 low within in
    (omega (arith, low, within), omega (arith, first, same))
  where
    by : (k : ℕ) → get_or row k 0 ≡ y → (b : Bool) → ltb k i ≡ b → i ≤ k
    by k same true e =
        let under = place.below k 0 (ltb-true k i e) in
        absurd (omega (arith, under, same, le))
    by k same false e = grind (arith, nat_tests)

pub its_place : (row : List ℕ) (x i : ℕ) → IsRisingRow row → IsFirstNotBelow x row i → 1 ≤ times_in x row → (i < length row) × (get_or row i 0 ≡ x)
its_place row x i up place there =
    let first = least row x i x up place there (omega arith) in
    let le = first.1 in
    let ge = place.above i 0 (omega arith) first.0 in
    (first.0, omega (arith, le, ge))

pub without_one : (row : List ℕ) (x i : ℕ) → IsRisingRow row → IsFirstNotBelow x row i → 1 ≤ times_in x row → IsWithout x row (remove row i)
without_one row x i up place there =
    let at = its_place row x i up place there in
    record {
      rising = all_pairs_remove (λ a b. a ≤ b) row i at.0 up;
      times = λ y.
          let gone = sum_by-remove (λ z. cond (eqb z y) 1 0) row i 0 at.0 in
          let same = ap {B = ℕ} (λ (z : ℕ). cond (eqb z y) 1 0) at.1 in
          omega (arith, gone, same);
    }

-- the default is not read of a place that is there
same_read : (row : List ℕ) (i d e : ℕ) → i < length row → get_or row i d ≡ get_or row i e
same_read row i d e within = get_or_from_slice_get row i (get_or row i e) d (slice_get-get_or row i e within)

-- a number between those beside a place
set_rises : (row : List ℕ) (i x : ℕ) → IsRisingRow row → i < length row → (0 < i → get_or row (i - 1) 0 ≤ x) → (i + 1 < length row → x ≤ get_or row (i + 1) 0)
    → IsRisingRow (set row i x)
set_rises row i x up within low high a b d lt inside = by (eqb a i) (eqb b i) refl refl
  where
    long : length (set row i x) ≡ length row
    long = length-set row i x

    before : (k : ℕ) → k < i → get_or row k d ≤ x
    before k less =
        let most = rises row up k (i - 1) d (omega (arith, less)) (omega (arith, less, within)) in
        let same = same_read row (i - 1) d 0 (omega (arith, less, within)) in
        let under = low (omega (arith, less)) in
        omega (arith, most, same, under)

    behind : (k : ℕ) → i < k → k < length row → x ≤ get_or row k d
    behind k more there =
        let most = rises row up (i + 1) k d (omega (arith, more)) there in
        let same = same_read row (i + 1) d 0 (omega (arith, more, there)) in
        let over = high (omega (arith, more, there)) in
        omega (arith, most, same, over)

    by : (p q : Bool) → eqb a i ≡ p → eqb b i ≡ q → get_or (set row i x) a d ≤ get_or (set row i x) b d
    by true true e f = absurd (let s = eqb-true a i e in let t = eqb-true b i f in omega (arith, s, t, lt))
    by true false e f =
        let s = eqb-true a i e in
        let x_is = get_or-set_at row i a x d s within in
        let other = get_or-set_other row i b x d (λ g. grind (arith, nat_tests, f, g)) in
        let n = long in
        let most = behind b (omega (arith, s, lt)) (omega (arith, inside, n)) in
        omega (arith, x_is, other, most)
    by false true e f =
        let s = eqb-true b i f in
        let x_is = get_or-set_at row i b x d s within in
        let other = get_or-set_other row i a x d (λ g. grind (arith, nat_tests, e, g)) in
        let most = before a (omega (arith, s, lt)) in
        omega (arith, x_is, other, most)
    by false false e f =
        let first = get_or-set_other row i a x d (λ g. grind (arith, nat_tests, e, g)) in
        let second = get_or-set_other row i b x d (λ g. grind (arith, nat_tests, f, g)) in
        let n = long in
        let most = up a b d lt (omega (arith, inside, n)) in
        omega (arith, first, second, most)

pub put_over : (row : List ℕ) (x y i : ℕ) → IsRisingRow row → IsFirstNotBelow x row i → 1 ≤ times_in x row → (0 < i → get_or row (i - 1) 0 ≤ y)
    → (i + 1 < length row → y ≤ get_or row (i + 1) 0) → IsWith y (remove row i) (set row i y)
put_over row x y i up place there low high =
    let at = its_place row x i up place there in
    record {
      rising = set_rises row i y up at.0 low high;
      times = λ z.
          let put = sum_by-set (λ w. cond (eqb w z) 1 0) row i y 0 at.0 in
          let gone = sum_by-remove (λ w. cond (eqb w z) 1 0) row i 0 at.0 in
          omega (arith, put, gone);
    }

-- ---- tickets and their ranks

pub map_remove : {X : Type 0} (f : X → ℕ) (xs : List X) (i : ℕ) → map f (remove xs i) ≡ remove (map f xs) i
map_remove f [] zero = refl
map_remove f [] (suc i) = refl
map_remove f (x ∷ xs) zero = refl
map_remove f (x ∷ xs) (suc i) = ap (λ ys. f x ∷ ys) (map_remove f xs i)

pub map_insert : {X : Type 0} (f : X → ℕ) (xs : List X) (i : ℕ) (x : X) → map f (insert xs i x) ≡ insert (map f xs) i (f x)
map_insert f xs zero x = refl
map_insert f [] (suc i) x = refl
map_insert f (y ∷ xs) (suc i) x = ap (λ ys. f y ∷ ys) (map_insert f xs i x)

-- the rank of the ticket that is read at a place
pub rank_read : (row : List Ticket) (i : ℕ) (t : Ticket) → i < length row → t ≡ get_or row i t → get_or (ticket_ranks row) i 0 ≡ ticket_rank t
rank_read row i t within same = get_or-map ticket_rank row i t 0 within ∙ ap ticket_rank (sym same)

-- where a search for the ticket at a place in the order of arrival ends
pub first_place : (row : List Ticket) (us : List ℕ) (w : Awaited) (t : Ticket) (a from at : ℕ) → from < length us → a ≡ get_or us from a → t ≡ record { awaited = w; arrival = a }
    → IsFirstNotBelow (ticket_rank t) (ticket_ranks row) at → IsFirstNotBelow (rank (awaited_rank w) (get_or us from 0)) (ticket_ranks row) at
first_place row us w t a from at within read same place =
    subst (λ (x : ℕ). IsFirstNotBelow x (ticket_ranks row) at) (ap ticket_rank same ∙ ap (rank (awaited_rank w)) (sym (read_at us from a within read))) place

pub ranks_rise : (row : List Ticket) → IsRisingRow (ticket_ranks row) → IsNonDecreasingBy ticket_rank row
ranks_rise row up i j d le within =
    let long = length-map row ticket_rank in
    let rising = rises (ticket_ranks row) up i j 0 le (omega (arith, within, long)) in
    let first = get_or-map ticket_rank row i d 0 (omega (arith, le, within)) in
    let second = get_or-map ticket_rank row j d 0 within in
    omega (arith, rising, first, second)

pub found_ticket : (row : List Ticket) (x i : ℕ) → i ≤ length row → IsPartitionPoint (λ y. ltb (ticket_rank y) x ≡ true) (λ y. ltb (ticket_rank y) x ≡ false) row i
    → IsFirstNotBelow x (ticket_ranks row) i
found_ticket row x i within point = record {
  within = let long = length-map row ticket_rank in omega (arith, within, long);
  below = λ k d lt.
      let there = get_or-map ticket_rank row k none d (omega (arith, lt, within)) in
      let low = ltb-true (ticket_rank (get_or row k none)) x (point.0 k none (omega (arith, lt, within)) lt) in
      omega (arith, there, low);
  above = λ k d from to.
      let long = length-map row ticket_rank in
      let there = get_or-map ticket_rank row k none d (omega (arith, to, long)) in
      let no = point.1 k none from (omega (arith, to, long)) in
      grind (arith, nat_tests, there, no);
}
  where
    none : Ticket
    none = record { awaited = Nothing; arrival = 0 }

-- a ticket that stands in a row has a place there
pub ticket_place : (row : List Ticket) (x i : ℕ) → IsRisingRow (ticket_ranks row) → IsFirstNotBelow x (ticket_ranks row) i → 1 ≤ times_in x (ticket_ranks row) → i < length row
ticket_place row x i up place there =
    let within = (its_place (ticket_ranks row) x i up place there).0 in
    let long = length-map row ticket_rank in
    omega (arith, within, long)

pub with_ticket : (row : List Ticket) (t : Ticket) (i : ℕ) → IsRisingRow (ticket_ranks row) → IsFirstNotBelow (ticket_rank t) (ticket_ranks row) i
    → IsWith (ticket_rank t) (ticket_ranks row) (ticket_ranks (insert row i t))
with_ticket row t i up place = subst (λ (new : List ℕ). IsWith (ticket_rank t) (ticket_ranks row) new) (sym (map_insert ticket_rank row i t)) (with_one (ticket_ranks row) (ticket_rank t) i up place)

pub without_ticket : (row : List Ticket) (x i : ℕ) → IsRisingRow (ticket_ranks row) → IsFirstNotBelow x (ticket_ranks row) i → 1 ≤ times_in x (ticket_ranks row)
    → IsWithout x (ticket_ranks row) (ticket_ranks (remove row i))
without_ticket row x i up place there = subst (λ (new : List ℕ). IsWithout x (ticket_ranks row) new) (sym (map_remove ticket_rank row i)) (without_one (ticket_ranks row) x i up place there)

pub over_ticket : (row : List Ticket) (x : ℕ) (t : Ticket) (i : ℕ) → IsRisingRow (ticket_ranks row) → IsFirstNotBelow x (ticket_ranks row) i → 1 ≤ times_in x (ticket_ranks row)
    → (0 < i → get_or (ticket_ranks row) (i - 1) 0 ≤ ticket_rank t) → (i + 1 < length row → ticket_rank t ≤ get_or (ticket_ranks row) (i + 1) 0)
    → IsWith (ticket_rank t) (ticket_ranks (remove row i)) (ticket_ranks (set row i t))
over_ticket row x t i up place there low high =
    let over = put_over (ticket_ranks row) x (ticket_rank t) i up place there low (λ lt. high (let long = length-map row ticket_rank in omega (arith, lt, long))) in
    subst (λ (new : List ℕ). IsWith (ticket_rank t) (ticket_ranks (remove row i)) new) (sym (map-set ticket_rank row i t))
    (subst (λ (less : List ℕ). IsWith (ticket_rank t) less (set (ticket_ranks row) i (ticket_rank t))) (sym (map_remove ticket_rank row i)) over)

-- ---- the ranks of a row

pub length-ranks : (ns us : List ℕ) → length ns ≡ length us → length (ranks ns us) ≡ length ns
length-ranks [] us same = refl
length-ranks (n ∷ ns) [] same = absurd (omega (arith, same))
length-ranks (n ∷ ns) (a ∷ us) same =
    let rest = length-ranks ns us (omega (arith, same)) in
    omega (arith, rest)

pub rank_at : (ns us : List ℕ) (i : ℕ) → length ns ≡ length us → i < length ns → get_or (ranks ns us) i 0 ≡ rank (get_or ns i 0) (get_or us i 0)
rank_at [] us i same within = absurd (omega (arith, within))
rank_at (n ∷ ns) [] i same within = absurd (omega (arith, same))
rank_at (n ∷ ns) (a ∷ us) zero same within = refl
rank_at (n ∷ ns) (a ∷ us) (suc i) same within = rank_at ns us i (omega (arith, same)) (omega (arith, within))

ranks_push : (ns us : List ℕ) (n a : ℕ) → length ns ≡ length us → ranks (ns ++ n ∷ []) (us ++ a ∷ []) ≡ ranks ns us ++ rank n a ∷ []
ranks_push [] [] n a same = refl
ranks_push [] (b ∷ us) n a same = absurd (omega (arith, same))
ranks_push (m ∷ ns) [] n a same = absurd (omega (arith, same))
ranks_push (m ∷ ns) (b ∷ us) n a same = ap (λ ts. rank m b ∷ ts) (ranks_push ns us n a (omega (arith, same)))

ranks_remove : (ns us : List ℕ) (i : ℕ) → length ns ≡ length us → i < length ns → ranks (remove ns i) (remove us i) ≡ remove (ranks ns us) i
ranks_remove [] us i same within = absurd (omega (arith, within))
ranks_remove (n ∷ ns) [] i same within = absurd (omega (arith, same))
ranks_remove (n ∷ ns) (a ∷ us) zero same within = refl
ranks_remove (n ∷ ns) (a ∷ us) (suc i) same within = ap (λ ts. rank n a ∷ ts) (ranks_remove ns us i (omega (arith, same)) (omega (arith, within)))

ranks_set : (ns us : List ℕ) (i n : ℕ) → length ns ≡ length us → i < length ns → ranks (set ns i n) us ≡ set (ranks ns us) i (rank n (get_or us i 0))
ranks_set [] us i n same within = absurd (omega (arith, within))
ranks_set (m ∷ ns) [] i n same within = absurd (omega (arith, same))
ranks_set (m ∷ ns) (a ∷ us) zero n same within = refl
ranks_set (m ∷ ns) (a ∷ us) (suc i) n same within = ap (λ ts. rank m a ∷ ts) (ranks_set ns us i n (omega (arith, same)) (omega (arith, within)))

-- a message's ticket stands in the row
pub ticket_there : (ns us row : List ℕ) (i : ℕ) → IsTicketRow ns us row → i < length ns → 1 ≤ times_in (rank (get_or ns i 0) (get_or us i 0)) row
ticket_there ns us row i is within =
    let long = length-ranks ns us is.count in
    let one = times_at (ranks ns us) (rank (get_or ns i 0) (get_or us i 0)) i (omega (arith, long, within)) (rank_at ns us i is.count within) in
    let same = is.tickets (rank (get_or ns i 0) (get_or us i 0)) in
    omega (arith, one, same)

pub row_push : (ns us row new : List ℕ) (n a : ℕ) → IsTicketRow ns us row → IsWith (rank n a) row new → IsTicketRow (ns ++ n ∷ []) (us ++ a ∷ []) new
row_push ns us row new n a is more = record {
  count = let x = length_push ns n in let y = length_push us a in let z = is.count in omega (arith, x, y, z);
  rising = more.rising;
  tickets = λ x.
      let up = more.times x in
      let old = is.tickets x in
      let last = sum_by_push (λ z. cond (eqb z x) 1 0) (ranks ns us) (rank n a) in
      let all = ap (times_in x) (ranks_push ns us n a is.count) in
      omega (arith, up, old, last, all);
}

pub row_remove : (ns us row new : List ℕ) (i : ℕ) → IsTicketRow ns us row → i < length ns → IsWithout (rank (get_or ns i 0) (get_or us i 0)) row new
    → IsTicketRow (remove ns i) (remove us i) new
row_remove ns us row new i is within less = record {
  count = let x = length-remove ns i within in let z = is.count in let y = length-remove us i (omega (arith, within, z)) in omega (arith, x, y, z);
  rising = less.rising;
  tickets = λ x.
      let down = less.times x in
      let old = is.tickets x in
      let long = length-ranks ns us is.count in
      let gone = sum_by-remove (λ z. cond (eqb z x) 1 0) (ranks ns us) i 0 (omega (arith, long, within)) in
      let same = ap {B = ℕ} (λ (z : ℕ). cond (eqb z x) 1 0) (rank_at ns us i is.count within) in
      let all = ap (times_in x) (ranks_remove ns us i is.count within) in
      omega (arith, down, old, gone, same, all);
}

pub row_set : (ns us row mid new : List ℕ) (i n : ℕ) → IsTicketRow ns us row → i < length ns → IsWithout (rank (get_or ns i 0) (get_or us i 0)) row mid
    → IsWith (rank n (get_or us i 0)) mid new → IsTicketRow (set ns i n) us new
row_set ns us row mid new i n is within less more = record {
  count = length-set ns i n ∙ is.count;
  rising = more.rising;
  tickets = λ x.
      let down = less.times x in
      let up = more.times x in
      let old = is.tickets x in
      let long = length-ranks ns us is.count in
      let put = sum_by-set (λ z. cond (eqb z x) 1 0) (ranks ns us) i (rank n (get_or us i 0)) 0 (omega (arith, long, within)) in
      let same = ap {B = ℕ} (λ (z : ℕ). cond (eqb z x) 1 0) (rank_at ns us i is.count within) in
      let all = ap (times_in x) (ranks_set ns us i n is.count within) in
      omega (arith, down, up, old, put, same, all);
}

-- ---- numbers of arrival

pub arrivals_push : (us : List ℕ) (a : ℕ) → AreArrivals us → All (λ b. b < a) us → a < 4294967296 → AreArrivals (us ++ a ∷ [])
arrivals_push us a are new small = record {
  rising = all_pairs_push (λ x y. x < y) us a are.rising new;
  small = All-push (λ x. x < 4294967296) us a are.small small;
}

pub arrivals_remove : (us : List ℕ) (i : ℕ) → AreArrivals us → i < length us → AreArrivals (remove us i)
arrivals_remove us i are within = record {
  rising = all_pairs_remove (λ x y. x < y) us i within are.rising;
  small = λ k d lt. by k d lt (ltb k i) refl;
}
  where
    by : (k d : ℕ) → k < length (remove us i) → (b : Bool) → ltb k i ≡ b → get_or (remove us i) k d < 4294967296
    by k d lt true e =
        let same = get_or-remove_below us i d k (ltb-true k i e) within in
        let low = ltb-true k i e in
        let small = are.small k d (omega (arith, low, within)) in
        omega (arith, same, small)
    by k d lt false e =
        let same = get_or-remove_above us i d k (grind (arith, nat_tests)) within in
        let long = length-remove us i within in
        let small = are.small (k + 1) d (omega (arith, lt, long)) in
        omega (arith, same, small)

-- ---- what is found

-- no number of the list from there on is the one that is sought
pub no_next : (ns : List ℕ) (n from : ℕ) → ((k : ℕ) → from ≤ k → k < length ns → get_or ns k 0 ≡ n → ⊥) → None ≡ option_map (λ k. from + k) (position (λ m. eqb m n) (drop from ns))
no_next ns n from none =
    let xs = drop from ns in
    let long = length-drop from ns in
    let at : position_or_len (λ m. eqb m n) xs ≡ length xs = position_or_len_is (λ m. eqb m n) xs (length xs) 0 (omega arith) (λ k lt. other k lt (eqb (get_or xs k 0) n) refl) (λ lt. absurd (omega (arith, lt))) in
    let past : ltb (position_or_len (λ m. eqb m n) xs) (length xs) ≡ false = grind (arith, nat_tests, at) in
    sym (ap (λ (b : Bool). option_map (λ k. from + k) (cond b (Some (position_or_len (λ m. eqb m n) xs)) None)) past)
  where
    other : (k : ℕ) → k < length (drop from ns) → (b : Bool) → eqb (get_or (drop from ns) k 0) n ≡ b → eqb (get_or (drop from ns) k 0) n ≡ false
    other k lt false e = e
    other k lt true e =
        let long = length-drop from ns in
        let at = get_or-drop from ns k 0 in
        absurd (none (from + k) (omega arith) (omega (arith, lt, long)) (sym at ∙ eqb-true (get_or (drop from ns) k 0) n e))

pub next_at : (ns : List ℕ) (n from i : ℕ) → from ≤ i → i < length ns → get_or ns i 0 ≡ n → ((k : ℕ) → from ≤ k → k < i → get_or ns k 0 ≡ n → ⊥)
    → Some i ≡ option_map (λ k. from + k) (position (λ m. eqb m n) (drop from ns))
next_at ns n from i low within here none =
    let xs = drop from ns in
    let long = length-drop from ns in
    let same : from + (i - from) ≡ i = omega (arith, low) in
    let hit : eqb (get_or xs (i - from) 0) n ≡ true = eq-eqb (get_or xs (i - from) 0) n (get_or-drop from ns (i - from) 0 ∙ ap (λ k. get_or ns k 0) same ∙ here) in
    let at : position_or_len (λ m. eqb m n) xs ≡ i - from = position_or_len_is (λ m. eqb m n) xs (i - from) 0 (omega (arith, long, within)) (λ k lt. other k lt (eqb (get_or xs k 0) n) refl) (λ lt. hit) in
    let inside : ltb (position_or_len (λ m. eqb m n) xs) (length xs) ≡ true = grind (arith, nat_tests, at, long, within, low) in
    sym (ap (λ (b : Bool). option_map (λ k. from + k) (cond b (Some (position_or_len (λ m. eqb m n) xs)) None)) inside ∙ ap (λ (k : ℕ). Some (from + k)) at ∙ ap (λ (k : ℕ). Some k) same)
  where
    other : (k : ℕ) → k < i - from → (b : Bool) → eqb (get_or (drop from ns) k 0) n ≡ b → eqb (get_or (drop from ns) k 0) n ≡ false
    other k lt false e = e
    other k lt true e =
        let at = get_or-drop from ns k 0 in
        absurd (none (from + k) (omega arith) (omega (arith, lt)) (sym at ∙ eqb-true (get_or (drop from ns) k 0) n e))

module _ (ns us row : List ℕ) (n from at : ℕ) (are : AreArrivals us) (is : IsTicketRow ns us row) (within : from < length us) (place : IsFirstNotBelow (rank n (get_or us from 0)) row at) where
  later : (k : ℕ) → from ≤ k → k < length us → get_or us from 0 ≤ get_or us k 0
  later k low inside = by (ltb from k) refl
    where
      by : (b : Bool) → ltb from k ≡ b → get_or us from 0 ≤ get_or us k 0
      by true e = let lt = are.rising from k 0 (ltb-true from k e) inside in omega (arith, lt)
      by false e =
          let same : from ≡ k = grind (arith, nat_tests) in
          subst (λ (m : ℕ). get_or us from 0 ≤ get_or us m 0) same (omega arith)

  -- a later message of the rank has a ticket that isn't below the one at the place
  bound : (k : ℕ) → from ≤ k → k < length ns → get_or ns k 0 ≡ n → (at < length row) × (get_or row at 0 ≤ rank n (get_or us k 0))
  bound k low inside same =
      let long = is.count in
      let here = subst (λ (m : ℕ). 1 ≤ times_in (rank m (get_or us k 0)) row) same (ticket_there ns us row k is inside) in
      let le = later k low (omega (arith, inside, long)) in
      least row (rank n (get_or us from 0)) at (rank n (get_or us k 0)) is.rising place here (omega (arith, le))

  pub none_past : length row ≤ at → None ≡ option_map (λ k. from + k) (position (λ m. eqb m n) (drop from ns))
  none_past past = no_next ns n from (λ k low inside same. let in_row = (bound k low inside same).0 in omega (arith, in_row, past))

  pub none_other : (m a : ℕ) → get_or row at 0 ≡ rank m a → a < 4294967296 → at < length row → (m ≡ n → ⊥) → None ≡ option_map (λ k. from + k) (position (λ m. eqb m n) (drop from ns))
  none_other m a here few in_row other = no_next ns n from (λ k low inside same.
      let long = is.count in
      let le = (bound k low inside same).1 in
      let ge = place.above at 0 (omega arith) in_row in
      let small = are.small k 0 (omega (arith, inside, long)) in
      other (omega (arith, le, ge, small, few, here)))

  pub found_next : (m a i : ℕ) → get_or row at 0 ≡ rank m a → a < 4294967296 → at < length row → m ≡ n → IsFirstNotBelow a us i
      → Some i ≡ option_map (λ k. from + k) (position (λ m. eqb m n) (drop from ns))
  found_next m a i here few in_row number first =
      let long = is.count in
      let longer = length-ranks ns us long in
      let some = times_at row (rank m a) at in_row here in
      let same = is.tickets (rank m a) in
      let stands = there_at (ranks ns us) (rank m a) (omega (arith, some, same)) in
      let j = stands.0 in
      let inside : j < length ns = let lt = stands.1 in omega (arith, lt, longer) in
      let parts : rank (get_or ns j 0) (get_or us j 0) ≡ rank m a = sym (rank_at ns us j long inside) ∙ stands.2 in
      let small = are.small j 0 (omega (arith, inside, long)) in
      let its_number : get_or ns j 0 ≡ n = omega (arith, parts, small, few, number) in
      let its_arrival : get_or us j 0 ≡ a = omega (arith, parts, small, few) in
      let le : i ≤ j = not_before j inside its_arrival (ltb j i) refl in
      let j_is : i ≡ j = not_after j inside its_arrival le (ltb i j) refl in
      let ge = place.above at 0 (omega arith) in_row in
      let low : from ≤ j = not_first j inside (omega (arith, ge, here, parts, its_number)) (ltb j from) refl in
      subst (λ (m : ℕ). Some m ≡ option_map (λ k. from + k) (position (λ m. eqb m n) (drop from ns))) (sym j_is)
      (next_at ns n from j low inside its_number (λ k low lt same.
      let before = are.rising k j 0 lt (omega (arith, inside, long)) in
      let most = (bound k low (omega (arith, lt, inside)) same).1 in
      omega (arith, before, most, here, parts, its_number)))
    where
      not_before : (j : ℕ) → j < length ns → get_or us j 0 ≡ a → (b : Bool) → ltb j i ≡ b → i ≤ j
      not_before j inside its true e = let under = first.below j 0 (ltb-true j i e) in absurd (omega (arith, under, its))
      not_before j inside its false e = grind (arith, nat_tests)

      not_after : (j : ℕ) → j < length ns → get_or us j 0 ≡ a → i ≤ j → (b : Bool) → ltb i j ≡ b → i ≡ j
      not_after j inside its le true e =
          let long = is.count in
          let under = are.rising i j 0 (ltb-true i j e) (omega (arith, inside, long)) in
          let over = first.above i 0 (omega arith) (let lt = ltb-true i j e in omega (arith, lt, inside, long)) in
          absurd (omega (arith, under, over, its))
      not_after j inside its le false e = grind (arith, nat_tests)

      not_first : (j : ℕ) → j < length ns → get_or us from 0 ≤ get_or us j 0 → (b : Bool) → ltb j from ≡ b → from ≤ j
      not_first j inside le true e = let under = are.rising j from 0 (ltb-true j from e) within in absurd (omega (arith, under, le))
      not_first j inside le false e = grind (arith, nat_tests)
