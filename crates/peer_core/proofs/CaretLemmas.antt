-- Carets, `specs/Carets.antt`: shown elements by their places in text order.
use Rattle.std.proofs.Common.{◌≡◌, ℕ, zero, suc, ◌+◌, inl, inr, ⊎_elim, Bool, true, false, cond, List, [], ◌∷◌, None, Some, refl, sym, ap, subst, ◌∙◌, arith}
use Rattle.std.specs.Prelude.{nat_lt, nat_le, is_some, slice_get, count_by, filter}
use Rattle.std.proofs.lemmas.Bool.{cases_Bool, both_ways}
use Rattle.std.proofs.lemmas.Bool.Decides.{nat_tests}
use Rattle.std.proofs.lemmas.Option.{same_Some}
use Rattle.element_name.specs.Cases.{when}
use Rattle.element_name.specs.Name.{Name, name_eq, has_name, are_distinct}
use Rattle.element_name.specs.Places.{place_in}
use Rattle.element_name.proofs.NameOrder.{name_eq-refl, same_name}
use Rattle.coop_request.specs.Request.{Request}
use Rattle.coop_request.specs.History.{placed_of, text_order, IsHistory}
use Rattle.coop_request.proofs.Histories.{IsTree-placed_of}
use Rattle.policy_book.specs.Entry.{Entry}
use Rattle.elem_show.specs.Text.{shown_of}
use Rattle.retro_undo.proofs.Parts.{count_cons}
use Rattle.tomb_seq.proofs.Has.{Has, has_name-from_Has}
use Rattle.tomb_seq.proofs.InOrder.{Sorted, Sorted-agree}
use Rattle.tomb_seq.proofs.SlotEdits.{distinct_head, distinct_tail}
use Rattle.tomb_seq.proofs.Theorems.{once_law}
use Rattle.peer_tables.specs.Derived.{counted_in, shown_in}
use Rattle.peer_core.specs.Peer.{history, log, shown_elements}
use Rattle.peer_core.specs.Carets.{count_up_to, CaretLaw}
use Rattle.peer_tables.proofs.JournalLemmas.{history_law}
use Rattle.peer_core.proofs.AnswerLemmas.Edits.{in_filter}

-- ---- in order of a number

-- the first name has the smaller number
abbrev pub is_below : (Name → ℕ) → Name → Name → Bool
is_below f a b = nat_lt (f a) (f b)

has_get : (names : List Name) (i : ℕ) (n : Name) → slice_get names i ≡ Some n → Has names n
has_get [] i n at = absurd (cc)
has_get (m ∷ names) zero n at = inl (cc)
has_get (m ∷ names) (suc i) n at = inr (has_get names i n at)

has_kept : (test : Name → Bool) (names : List Name) (n : Name) → Has (filter test names) n → Has names n
has_kept test [] n h = h
has_kept test (m ∷ names) n h = elim (test m) as (λ b. Has (cond b (m ∷ filter test names) (filter test names)) n → Has (m ∷ names) n) [
  | true ↦ λ g. ⊎_elim (λ (e : m ≡ n). inl e) (λ (r : Has (filter test names) n). inr (has_kept test names n r)) g
  | false ↦ λ g. inr (has_kept test names n g)
] h

-- names that are left out leave the others in order
sorted_kept : (lt : Name → Name → Bool) (test : Name → Bool) (names : List Name) → Sorted lt names → Sorted lt (filter test names)
sorted_kept lt test [] s = tt
sorted_kept lt test (n ∷ names) s = elim (test n) as (λ b. Sorted lt (cond b (n ∷ filter test names) (filter test names))) [
  | true ↦ ((λ y h. s.0 y (has_kept test names y h)), sorted_kept lt test names s.1)
  | false ↦ sorted_kept lt test names s.1
]

module _ (f : Name → ℕ) where
  none_up_to : (t : ℕ) (names : List Name) → ((n : Name) → Has names n → nat_le (f n) t ≡ false) → count_by (λ n. nat_le (f n) t) names ≡ 0
  none_up_to t [] all = refl
  none_up_to t (m ∷ names) all =
      let first = count_cons (λ n. nat_le (f n) t) m names ∙ ap (λ b. cond b 1 0 + count_by (λ n. nat_le (f n) t) names) (all m (inl refl)) in
      let rest = none_up_to t names (λ n h. all n (inr h)) in
      omega (arith, first, rest)

  counted_first : (t : ℕ) (m : Name) (names : List Name) → nat_le (f m) t ≡ true → count_by (λ n. nat_le (f n) t) (m ∷ names) ≡ 1 + count_by (λ n. nat_le (f n) t) names
  counted_first t m names small =
      count_cons (λ n. nat_le (f n) t) m names ∙ ap (λ b. cond b 1 0 + count_by (λ n. nat_le (f n) t) names) small

  above_none : (t : ℕ) (m : Name) (names : List Name) → nat_le (f m) t ≡ false → Sorted (is_below f) (m ∷ names) → count_by (λ n. nat_le (f n) t) (m ∷ names) ≡ 0
  above_none t m names great s = none_up_to t (m ∷ names) (λ n h. ⊎_elim (λ (e : m ≡ n). subst (λ x. nat_le (f x) t ≡ false) e great) (λ (r : Has names n). above (f m) (f n) t great (s.0 n r)) h)
    where
      above : (a b t : ℕ) → nat_le a t ≡ false → nat_lt a b ≡ true → nat_le b t ≡ false
      above a b t great lt = grind (arith, nat_tests)

  -- in order of the number, those with a number up to t are the first ones
  pub ranked : (t : ℕ) (names : List Name) → Sorted (is_below f) names → (i : ℕ) (e : Name) → slice_get names i ≡ Some e
      → nat_le (f e) t ≡ nat_lt i (count_by (λ n. nat_le (f n) t) names)
  ranked t [] s i e at = absurd (cc)
  ranked t (m ∷ names) s zero e at =
      let is : m ≡ e = cc in
      subst (λ x. nat_le (f x) t ≡ nat_lt 0 (count_by (λ n. nat_le (f n) t) (m ∷ names))) is
      (⊎_elim
      (λ (small : nat_le (f m) t ≡ true). small ∙ first (count_by (λ n. nat_le (f n) t) names) ∙ ap (nat_lt 0) (sym (counted_first t m names small)))
      (λ (great : nat_le (f m) t ≡ false). great ∙ ap (nat_lt 0) (sym (above_none t m names great s)))
      (cases_Bool (nat_le (f m) t)))
    where
      first : (c : ℕ) → true ≡ nat_lt 0 (1 + c)
      first c = grind (arith, nat_tests)
  ranked t (m ∷ names) s (suc i) e at =
      ⊎_elim
      (λ (small : nat_le (f m) t ≡ true).
      ranked t names s.1 i e at ∙ next i (count_by (λ n. nat_le (f n) t) names) ∙ ap (nat_lt (suc i)) (sym (counted_first t m names small)))
      (λ (great : nat_le (f m) t ≡ false).
      above (f m) (f e) t i great (s.0 e (has_get names i e at)) ∙ ap (nat_lt (suc i)) (sym (above_none t m names great s)))
      (cases_Bool (nat_le (f m) t))
    where
      next : (i c : ℕ) → nat_lt i c ≡ nat_lt (suc i) (1 + c)
      next i c = grind (arith, nat_tests)

      above : (a b t i : ℕ) → nat_le a t ≡ false → nat_lt a b ≡ true → nat_le b t ≡ nat_lt (suc i) 0
      above a b t i great lt = grind (arith, nat_tests)

  -- up to one that stands at i there are i + 1
  pub own_rank : (names : List Name) → Sorted (is_below f) names → (i : ℕ) (e : Name) → slice_get names i ≡ Some e
      → count_by (λ n. nat_le (f n) (f e)) names ≡ i + 1
  own_rank [] s i e at = absurd (cc)
  own_rank (m ∷ names) s zero e at =
      let is : m ≡ e = cc in
      subst (λ x. count_by (λ n. nat_le (f n) (f x)) (m ∷ names) ≡ 0 + 1) is
      (counted_first (f m) m names (grind (arith, nat_tests)) ∙ ap (λ c. 1 + c) (none_up_to (f m) names (λ n h. later (f m) (f n) (s.0 n h))) ∙ omega arith)
    where
      later : (a b : ℕ) → nat_lt a b ≡ true → nat_le b a ≡ false
      later a b lt = grind (arith, nat_tests)
  own_rank (m ∷ names) s (suc i) e at =
      let earlier : nat_le (f m) (f e) ≡ true = before (f m) (f e) (s.0 e (has_get names i e at)) in
      let rest = own_rank names s.1 i e at in
      counted_first (f e) m names earlier ∙ omega (arith, rest)
    where
      before : (a b : ℕ) → nat_lt a b ≡ true → nat_le a b ≡ true
      before a b lt = grind (arith, nat_tests)

-- ---- in text order

-- distinct names stand in order of their places
in_place_order : (names : List Name) → are_distinct names ≡ true → Sorted (is_below (place_in names)) names
in_place_order [] d = tt
in_place_order (x ∷ names) d = (
  (λ y h. let there = past y h in let first = head in grind (arith, nat_tests)),
  Sorted-agree (is_below (place_in names)) (is_below (place_in (x ∷ names))) names
      (λ e g he hg. shifted (place_in names e) (place_in names g) (place_in (x ∷ names) e) (place_in (x ∷ names) g) (past e he) (past g hg))
      (in_place_order names (distinct_tail x names d)),
)
  where
    head : place_in (x ∷ names) x ≡ 0
    head = rw (name_eq-refl x)

    past : (y : Name) → Has names y → place_in (x ∷ names) y ≡ 1 + place_in names y
    past y h =
        ⊎_elim
        (λ (t : name_eq y x ≡ true). absurd (both_ways (has_name names x) (distinct_head x names d) (subst (λ n. has_name names n ≡ true) (same_name y x t) (has_name-from_Has names y h))))
        (λ (f : name_eq y x ≡ false). rw f)
        (cases_Bool (name_eq y x))

    shifted : (a b c e : ℕ) → c ≡ 1 + a → e ≡ 1 + b → nat_lt a b ≡ nat_lt c e
    shifted a b c e first second = grind (arith, nat_tests)

-- the elements that show stand in order of their places in text order
shown_in_order : (R : List Request) (L : List Entry) → IsHistory R → Sorted (is_below (place_in (text_order R))) (shown_in R L)
shown_in_order R L history =
    sorted_kept (is_below (place_in (text_order R))) (λ e. is_some (shown_of R (counted_in R L) e)) (text_order R)
    (in_place_order (text_order R) (once_law (placed_of R) (IsTree-placed_of R history)))

-- those that stand up to a place are the first ones
pub first_shown : (R : List Request) (L : List Entry) (place i : ℕ) (e : Name) → IsHistory R → slice_get (shown_in R L) i ≡ Some e
    → nat_le (place_in (text_order R) e) place ≡ nat_lt i (count_up_to (text_order R) (shown_in R L) place)
first_shown R L place i e history at = ranked (place_in (text_order R)) place (shown_in R L) (shown_in_order R L history) i e at

-- an element that shows is one of the text order
pub shown_has : (R : List Request) (L : List Entry) (i : ℕ) (e : Name) → slice_get (shown_in R L) i ≡ Some e → has_name (text_order R) e ≡ true
shown_has R L i e at = in_filter (λ e. is_some (shown_of R (counted_in R L) e)) (text_order R) e (has_name-from_Has (shown_in R L) e (has_get (shown_in R L) i e at))

-- so is what the place that was found says
pub found_shown : (R : List Request) (L : List Entry) (place i at : ℕ) (e : Name) → IsHistory R → slice_get (shown_in R L) i ≡ Some e
    → when (has_name (text_order R) e) (place_in (text_order R) e) ≡ Some at
    → nat_le at place ≡ nat_lt i (count_up_to (text_order R) (shown_in R L) place)
found_shown R L place i at e history shows found =
    let there = sym (ap (λ b. when b (place_in (text_order R) e)) (shown_has R L i e shows)) ∙ found in
    ap (λ (k : ℕ). nat_le k place) (sym (same_Some (place_in (text_order R) e) at there)) ∙ first_shown R L place i e history shows

-- it has a place
pub shown_placed : (R : List Request) (L : List Entry) (i : ℕ) (e : Name) → slice_get (shown_in R L) i ≡ Some e → when (has_name (text_order R) e) (place_in (text_order R) e) ≡ None → ⊥
shown_placed R L i e shows none =
    let there = sym (ap (λ b. when b (place_in (text_order R) e)) (shown_has R L i e shows)) ∙ none in
    absurd (cc)

pub caret_law : CaretLaw
caret_law p i n sound at =
    let R : List Request = history p in
    let rank = own_rank (place_in (text_order R)) (shown_elements p) (shown_in_order R (log p) (history_law p.journal sound.journal)) i n at in
    ap (λ b. when b (count_up_to (text_order R) (shown_elements p) (place_in (text_order R) n))) (shown_has R (log p) i n at) ∙ ap (λ (c : ℕ). Some c) rank
