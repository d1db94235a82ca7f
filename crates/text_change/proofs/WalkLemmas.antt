-- Rows over a list of elements: f tells what showed of each, and g what shows.
use Rattle.std.proofs.Common.{◌≡◌, ◌⊎◌, ℕ, ◌+◌, ◌-◌, ◌<◌, ◌≤◌, zero, suc, inl, inr, ⊎_elim, Bool, true, false, cond, List, [], ◌∷◌, ◌++◌, length, None, Some, refl, ap, sym, subst, ◌∙◌, arith, drop, insert, remove, length-append, append_assoc}
use Rattle.std.specs.Prelude.{nat_le, nat_eq, is_some, filter, filter_map, fold, slice_get, slice_set, count_by, if◌then◌else◌}
use Rattle.std.specs.declared.option.Option.{Option}
use Rattle.std.specs.declared.cmp.Ordering.TheVariants.{Less}
use Rattle.std.specs.Cmp.{ranked}
use Rattle.std.specs.List.{cons_option, AllByRecursion}
use Rattle.std.specs.List.Sorted.{IsStrictlySortedBy}
use Rattle.std.specs.Map.{keys_of}
use Rattle.std.specs.Ordering.{nat_cmp}
use Rattle.std.specs.Str.{bytes_eq}
use Rattle.std.proofs.Math.Seq.{set-append_seam, take-append_seam, drop-append_seam, drop-append-add}
use Rattle.std.proofs.lemmas.Bool.{cases_Bool, both_ways, eqb-true, eqb-false}
use Rattle.std.proofs.lemmas.Bool.Decides.{nat_tests}
use Rattle.std.proofs.lemmas.Slice.Eq.{bytes_eq-Decides}
use Rattle.element_name.specs.Name.{Name, name_eq, has_name, are_distinct}
use Rattle.element_name.specs.Places.{place_in}
use Rattle.element_name.proofs.NameOrder.{name_eq-refl, same_name}
use Rattle.tomb_seq.proofs.Has.{Has, has_name-from_Has}
use Rattle.tomb_seq.proofs.SlotEdits.{distinct_head, distinct_tail}
use Rattle.retro_undo.proofs.Parts.{count_cons}
use Rattle.peer_tables.proofs.KeptLemmas.Tables.{count_has}
use Rattle.peer_step.specs.declared.step.LocalEdit.{LocalEdit}
use Rattle.peer_step.specs.declared.step.LocalEdit.TheVariants.{Update}
use Rattle.peer_core.specs.Laws.{text_edited}
use Rattle.text_change.specs.declared.seen.Seen.{Seen}
use Rattle.text_change.specs.Rows.{row_between}

-- ---- one row

-- how many show of an element
abbrev pub shows : Option (List ℕ) → ℕ
shows None = 0
shows (Some letter) = 1

-- where the same shows there is no row
pub row_same : (up : ℕ) (o : Option (List ℕ)) → row_between up o o ≡ None
row_same up None = refl
row_same up (Some letter) =
    ap (λ b. if b then nothing else Some (Update (up - 1) letter)) ((bytes_eq-Decides letter letter).1 refl)
  where
    nothing : Option LocalEdit
    nothing = None

-- a piece that stands behind others goes, or becomes another
removed : (before rest : List (List ℕ)) (a : List ℕ) → remove (before ++ a ∷ rest) (length before) ≡ before ++ rest
removed before rest a =
    let next : suc (length before) ≡ length before + 1 = omega arith in
    ap (λ (xs : List (List ℕ)). xs ++ drop (suc (length before)) (before ++ a ∷ rest)) (take-append_seam before (a ∷ rest))
    ∙ ap (λ (xs : List (List ℕ)). before ++ xs) (ap (λ k. drop k (before ++ a ∷ rest)) next ∙ drop-append-add before (a ∷ rest) 1)

inserted : (before rest : List (List ℕ)) (b : List ℕ) → insert (before ++ rest) (length before) b ≡ before ++ b ∷ rest
inserted before rest b =
    ap (λ (xs : List (List ℕ)). xs ++ b ∷ drop (length before) (before ++ rest)) (take-append_seam before rest)
    ∙ ap (λ (xs : List (List ℕ)). before ++ b ∷ xs) (drop-append_seam before rest)

module _ (f g : Name → Option (List ℕ)) where
  -- the rows of names in front of which so many show
  abbrev pub walked : ℕ → List Name → List LocalEdit
  walked at [] = []
  walked at (n ∷ names) = cons_option (row_between (at + shows (g n)) (f n) (g n)) (walked (at + shows (g n)) names)

  -- one after another they make what shows of what showed
  pub walk_law : (before : List (List ℕ)) (names : List Name) → fold text_edited (before ++ filter_map f names) (walked (length before) names) ≡ before ++ filter_map g names
  walk_law before [] = refl
  walk_law before (n ∷ names) = by (λ b. walk_law b names) (f n) (g n)
    where
      stay : ((b : List (List ℕ)) → fold text_edited (b ++ filter_map f names) (walked (length b) names) ≡ b ++ filter_map g names)
          → fold text_edited (before ++ filter_map f names) (walked (length before + 0) names) ≡ before ++ filter_map g names
      stay rest = let same : length before + 0 ≡ length before = omega arith in ap (λ k. fold text_edited (before ++ filter_map f names) (walked k names)) same ∙ rest before

      onward : ((b : List (List ℕ)) → fold text_edited (b ++ filter_map f names) (walked (length b) names) ≡ b ++ filter_map g names)
          → (letter : List ℕ) → fold text_edited (before ++ letter ∷ filter_map f names) (walked (length before + 1) names) ≡ before ++ letter ∷ filter_map g names
      onward rest letter =
          let size : length before + 1 ≡ length (before ++ letter ∷ []) = let n = length-append before (letter ∷ []) in omega (arith, n) in
          ap (λ (ps : List (List ℕ)). fold text_edited ps (walked (length before + 1) names)) (sym (append_assoc before (letter ∷ []) (filter_map f names)))
          ∙ ap (λ k. fold text_edited ((before ++ letter ∷ []) ++ filter_map f names) (walked k names)) size
          ∙ rest (before ++ letter ∷ [])
          ∙ append_assoc before (letter ∷ []) (filter_map g names)

      by : ((b : List (List ℕ)) → fold text_edited (b ++ filter_map f names) (walked (length b) names) ≡ b ++ filter_map g names) → (o w : Option (List ℕ))
          → fold text_edited (before ++ cons_option o (filter_map f names)) (cons_option (row_between (length before + shows w) o w) (walked (length before + shows w) names))
          ≡ before ++ cons_option w (filter_map g names)
      by rest None None = stay rest
      by rest (Some a) None =
          let here : length before + 0 ≡ length before = omega arith in
          ap (λ (ps : List (List ℕ)). fold text_edited ps (walked (length before + 0) names))
          (ap (remove (before ++ a ∷ filter_map f names)) here ∙ removed before (filter_map f names) a)
          ∙ stay rest
      by rest None (Some b) =
          let here : (length before + 1) - 1 ≡ length before = omega arith in
          ap (λ (ps : List (List ℕ)). fold text_edited ps (walked (length before + 1) names))
          (ap (λ k. insert (before ++ filter_map f names) k b) here ∙ inserted before (filter_map f names) b)
          ∙ onward rest b
      by rest (Some a) (Some b) = one (bytes_eq a b) refl
        where
          one : (t : Bool) → bytes_eq a b ≡ t
              → fold text_edited (before ++ a ∷ filter_map f names) (cons_option (if t then None else Some (Update ((length before + 1) - 1) b)) (walked (length before + 1) names))
              ≡ before ++ b ∷ filter_map g names
          one true e =
              ap (λ (x : List ℕ). fold text_edited (before ++ x ∷ filter_map f names) (walked (length before + 1) names)) ((bytes_eq-Decides a b).0 e) ∙ onward rest b
          one false e =
              let here : (length before + 1) - 1 ≡ length before = omega arith in
              ap (λ (ps : List (List ℕ)). fold text_edited ps (walked (length before + 1) names))
              (ap (λ k. slice_set (before ++ a ∷ filter_map f names) k b) here ∙ set-append_seam before a (filter_map f names) b)
              ∙ onward rest b

  -- there are at most as many as may have changed
  pub few_walked : (test : Name → Bool) → ((n : Name) → test n ≡ false → f n ≡ g n) → (at : ℕ) (names : List Name) → length (walked at names) ≤ count_by test names
  few_walked test same at [] = omega arith
  few_walked test same at (n ∷ names) = by (test n) refl (few_walked test same (at + shows (g n)) names)
    where
      most : (o : Option LocalEdit) (rows : List LocalEdit) → length (cons_option o rows) ≤ 1 + length rows
      most None rows = omega arith
      most (Some row) rows = omega arith

      by : (b : Bool) → test n ≡ b → length (walked (at + shows (g n)) names) ≤ count_by test names
          → length (cons_option (row_between (at + shows (g n)) (f n) (g n)) (walked (at + shows (g n)) names)) ≤ count_by test (n ∷ names)
      by true may rest =
          let count = count_cons test n names ∙ ap (λ b. cond b 1 0 + count_by test names) may in
          let one = most (row_between (at + shows (g n)) (f n) (g n)) (walked (at + shows (g n)) names) in
          omega (arith, count, one, rest)
      by false stays rest =
          let count = count_cons test n names ∙ ap (λ b. cond b 1 0 + count_by test names) stays in
          let none : row_between (at + shows (g n)) (f n) (g n) ≡ None = ap (λ (o : Option (List ℕ)). row_between (at + shows (g n)) o (g n)) (same n stays) ∙ row_same (at + shows (g n)) (g n) in
          rw none (omega (arith, count, rest))

-- ---- rows of some of them

module _ (f g : Name → Option (List ℕ)) (row : ℕ × Seen → Option LocalEdit) where
  -- how many of these show up to a place
  abbrev pub shown_to : ℕ → List Name → ℕ
  shown_to i [] = 0
  shown_to zero (n ∷ names) = shows (g n)
  shown_to (suc i) (n ∷ names) = shows (g n) + shown_to i names

  -- entries for some of these names, which stand from place k on, with their rows: for each of which something else shows now
  pub record AreCovered (k at : ℕ) (names : List Name) (entries : List (ℕ × Seen)) : Type 0 where
    pub sorted : IsStrictlySortedBy nat_cmp (keys_of entries)
    pub within : (x : ℕ × Seen) → Has entries x → (k ≤ x.0) × (x.0 < k + length names)
    pub rows : (x : ℕ × Seen) (i : ℕ) (n : Name) → Has entries x → x.0 ≡ k + i → slice_get names i ≡ Some n → row x ≡ row_between (at + shown_to i names) (f n) (g n)
    pub there : (i : ℕ) (n : Name) → slice_get names i ≡ Some n → (f n ≡ g n) ⊎ ((x : ℕ × Seen) × Has entries x × (x.0 ≡ k + i))

  above : (k : ℕ) (entries : List (ℕ × Seen)) → AllByRecursion (λ y. nat_cmp k y ≡ Less) (keys_of entries) → (x : ℕ × Seen) → Has entries x → k < x.0
  above k [] all x h = absurd h
  above k (y ∷ entries) all x (inl same) = subst (λ (z : ℕ × Seen). k < z.0) same (ranked k y.0 Less (sym all.0))
  above k (y ∷ entries) all x (inr h) = above k entries all.1 x h

  sorted_rest : (y : ℕ × Seen) (entries : List (ℕ × Seen)) → IsStrictlySortedBy nat_cmp (keys_of (y ∷ entries)) → IsStrictlySortedBy nat_cmp (keys_of entries)
  unfolding IsStrictlySortedBy
  sorted_rest y entries sorted = sorted.1

  above_first : (y : ℕ × Seen) (entries : List (ℕ × Seen)) → IsStrictlySortedBy nat_cmp (keys_of (y ∷ entries)) → (x : ℕ × Seen) → Has entries x → y.0 < x.0
  unfolding IsStrictlySortedBy
  above_first y entries sorted x h = above y.0 entries sorted.0 x h

  -- behind the first name, of which there is no entry
  next : (k at : ℕ) (n : Name) (names : List Name) (entries : List (ℕ × Seen)) → AreCovered k at (n ∷ names) entries → ((x : ℕ × Seen) → Has entries x → k < x.0)
      → AreCovered (k + 1) (at + shows (g n)) names entries
  next k at n names entries c low = record {
    sorted = c.sorted;
    within = λ x h. let up = low x h in let old = c.within x h in (omega (arith, up), omega (arith, old.1));
    rows = λ x i m h is at_place.
        let later : x.0 ≡ k + suc i = omega (arith, is) in
        let sum : at + (shows (g n) + shown_to i names) ≡ (at + shows (g n)) + shown_to i names = omega arith in
        c.rows x (suc i) m h later at_place ∙ ap (λ up. row_between up (f m) (g m)) sum;
    there = λ i m at_place. ⊎_elim
        (λ (same : f m ≡ g m). inl same)
        (λ (found : (x : ℕ × Seen) × Has entries x × (x.0 ≡ k + suc i)). inr (found.0, found.1, let is = found.2 in omega (arith, is)))
        (c.there (suc i) m at_place);
  }

  -- behind the first entry
  rest : (k at : ℕ) (names : List Name) (y : ℕ × Seen) (entries : List (ℕ × Seen)) → AreCovered k at names (y ∷ entries) → y.0 ≡ k
      → ((i : ℕ) → (x : ℕ × Seen) × Has (y ∷ entries) x × (x.0 ≡ k + suc i) → (x : ℕ × Seen) × Has entries x × (x.0 ≡ k + suc i))
  rest k at names y entries c here i found = by found.1
    where
      by : Has (y ∷ entries) found.0 → (x : ℕ × Seen) × Has entries x × (x.0 ≡ k + suc i)
      by (inl same) = absurd (let is = found.2 in let own : found.0.0 ≡ y.0 = ap (λ (z : ℕ × Seen). z.0) (sym same) in omega (arith, is, own, here))
      by (inr h) = (found.0, h, found.2)

  behind : (k at : ℕ) (n : Name) (names : List Name) (y : ℕ × Seen) (entries : List (ℕ × Seen)) → AreCovered k at (n ∷ names) (y ∷ entries) → y.0 ≡ k
      → AreCovered (k + 1) (at + shows (g n)) names entries
  behind k at n names y entries c here = record {
    sorted = sorted_rest y entries c.sorted;
    within = λ x h. let up = above_first y entries c.sorted x h in let old = c.within x (inr h) in (omega (arith, up, here), omega (arith, old.1));
    rows = λ x i m h is at_place.
        let later : x.0 ≡ k + suc i = omega (arith, is) in
        let sum : at + (shows (g n) + shown_to i names) ≡ (at + shows (g n)) + shown_to i names = omega arith in
        c.rows x (suc i) m (inr h) later at_place ∙ ap (λ up. row_between up (f m) (g m)) sum;
    there = λ i m at_place. ⊎_elim
        (λ (same : f m ≡ g m). inl same)
        (λ (found : (x : ℕ × Seen) × Has (y ∷ entries) x × (x.0 ≡ k + suc i)).
        let more = rest k at (n ∷ names) y entries c here i found in inr (more.0, more.1, let is = more.2 in omega (arith, is)))
        (c.there (suc i) m at_place);
  }

  -- they are the rows of all the names
  pub covered : (k at : ℕ) (names : List Name) (entries : List (ℕ × Seen)) → AreCovered k at names entries → filter_map row entries ≡ walked f g at names
  covered k at [] [] c = refl
  covered k at [] (x ∷ entries) c = absurd (let w = c.within x (inl refl) in omega (arith, w.0, w.1))
  covered k at (n ∷ names) [] c = ⊎_elim
      (λ (same : f n ≡ g n).
      let none : row_between (at + shows (g n)) (f n) (g n) ≡ None = ap (λ (o : Option (List ℕ)). row_between (at + shows (g n)) o (g n)) same ∙ row_same (at + shows (g n)) (g n) in
      covered (k + 1) (at + shows (g n)) names [] (next k at n names [] c (λ x h. absurd h))
      ∙ ap (λ (o : Option LocalEdit). cons_option o (walked f g (at + shows (g n)) names)) (sym none))
      (λ (found : (x : ℕ × Seen) × Has {X = ℕ × Seen} [] x × (x.0 ≡ k + 0)). absurd found.1)
      (c.there 0 n refl)
  covered k at (n ∷ names) (x ∷ entries) c = by (λ es d. covered (k + 1) (at + shows (g n)) names es d) (nat_eq x.0 k) refl
    where
      skipped : (k < x.0) → (y : ℕ × Seen) → Has (x ∷ entries) y → k < y.0
      skipped low y (inl same) = subst (λ (z : ℕ × Seen). k < z.0) same low
      skipped low y (inr h) = let up = above_first x entries c.sorted y h in omega (arith, low, up)

      by : ((es : List (ℕ × Seen)) → AreCovered (k + 1) (at + shows (g n)) names es → filter_map row es ≡ walked f g (at + shows (g n)) names)
          → (b : Bool) → nat_eq x.0 k ≡ b → filter_map row (x ∷ entries) ≡ walked f g at (n ∷ names)
      by more true e =
          let here : x.0 ≡ k = eqb-true x.0 k e in
          let first : x.0 ≡ k + 0 = omega (arith, here) in
          ap (λ (o : Option LocalEdit). cons_option o (filter_map row entries)) (c.rows x 0 n (inl refl) first refl)
          ∙ ap (λ (rows : List LocalEdit). cons_option (row_between (at + shows (g n)) (f n) (g n)) rows)
          (more entries (behind k at n names x entries c here))
      by more false e =
          let other = eqb-false x.0 k e in
          let w = c.within x (inl refl) in
          let low : k < x.0 = omega (arith, other, w.0) in
          ⊎_elim
          (λ (same : f n ≡ g n).
          let none : row_between (at + shows (g n)) (f n) (g n) ≡ None = ap (λ (o : Option (List ℕ)). row_between (at + shows (g n)) o (g n)) same ∙ row_same (at + shows (g n)) (g n) in
          more (x ∷ entries) (next k at n names (x ∷ entries) c (skipped low))
          ∙ ap (λ (o : Option LocalEdit). cons_option o (walked f g (at + shows (g n)) names)) (sym none))
          (λ (found : (y : ℕ × Seen) × Has (x ∷ entries) y × (y.0 ≡ k + 0)). absurd (let up = skipped low found.0 found.1 in let is = found.2 in omega (arith, up, is)))
          (c.there 0 n refl)

  -- ---- how many show up to a place

  past : (x : Name) (names : List Name) → are_distinct (x ∷ names) ≡ true → (y : Name) → Has names y → place_in (x ∷ names) y ≡ 1 + place_in names y
  past x names d y h = ⊎_elim
      (λ (t : name_eq y x ≡ true). absurd (both_ways (has_name names x) (distinct_head x names d) (subst (λ n. has_name names n ≡ true) (same_name y x t) (has_name-from_Has names y h))))
      (λ (e : name_eq y x ≡ false). rw e refl)
      (cases_Bool (name_eq y x))

  kept : (names : List Name) (n : Name) → Has (filter (λ e. is_some (g e)) names) n → Has names n
  kept [] n h = h
  kept (m ∷ names) n h = by (kept names n) (is_some (g m)) h
    where
      by : (Has (filter (λ e. is_some (g e)) names) n → Has names n) → (b : Bool) → Has (cond b (m ∷ filter (λ e. is_some (g e)) names) (filter (λ e. is_some (g e)) names)) n → Has (m ∷ names) n
      by rest true (inl same) = inl same
      by rest true (inr h) = inr (rest h)
      by rest false h = inr (rest h)

  none_within : (xs : List Name) (place : Name → ℕ) → ((n : Name) → Has xs n → place n ≡ 0 → ⊥) → count_by (λ n. nat_le (place n) 0) xs ≡ 0
  none_within [] place off = refl
  none_within (x ∷ xs) place off =
      let here : nat_le (place x) 0 ≡ false = low (place x) (off x (inl refl)) in
      let first = count_cons (λ n. nat_le (place n) 0) x xs ∙ ap (λ b. cond b 1 0 + count_by (λ n. nat_le (place n) 0) xs) here in
      let more = none_within xs place (λ n h. off n (inr h)) in
      omega (arith, first, more)
    where
      low : (k : ℕ) → (k ≡ 0 → ⊥) → nat_le k 0 ≡ false
      low zero h = absurd (h refl)
      low (suc k) h = grind (arith, nat_tests)

  -- of distinct names as many show with no greater place as show up to it
  pub rank : (names : List Name) (p : ℕ) → are_distinct names ≡ true → count_by (λ n. nat_le (place_in names n) p) (filter (λ e. is_some (g e)) names) ≡ shown_to p names
  rank [] p d = refl
  rank (x ∷ names) p d = first ∙ by p (rank names) (distinct_tail x names d)
    where
      shown : List Name
      shown = filter (λ e. is_some (g e)) names

      own : place_in (x ∷ names) x ≡ 0
      own = rw (name_eq-refl x) refl

      counts : nat_le (place_in (x ∷ names) x) p ≡ true
      counts = let zero_place = own in grind (arith, nat_tests)

      head : (o : Option (List ℕ)) → count_by (λ n. nat_le (place_in (x ∷ names) n) p) (cond (is_some o) (x ∷ shown) shown)
          ≡ shows o + count_by (λ n. nat_le (place_in (x ∷ names) n) p) shown
      head None = omega arith
      head (Some letter) =
          let c = count_cons (λ n. nat_le (place_in (x ∷ names) n) p) x shown ∙ ap (λ b. cond b 1 0 + count_by (λ n. nat_le (place_in (x ∷ names) n) p) shown) counts in
          omega (arith, c)

      first : count_by (λ n. nat_le (place_in (x ∷ names) n) p) (filter (λ e. is_some (g e)) (x ∷ names))
          ≡ shows (g x) + count_by (λ n. nat_le (place_in (x ∷ names) n) p) shown
      first = head (g x)

      by : (k : ℕ) → ((j : ℕ) → are_distinct names ≡ true → count_by (λ n. nat_le (place_in names n) j) shown ≡ shown_to j names) → are_distinct names ≡ true
          → shows (g x) + count_by (λ n. nat_le (place_in (x ∷ names) n) k) shown ≡ shown_to k (x ∷ names)
      by zero more dt =
          let none = none_within shown (place_in (x ∷ names)) (λ n h is. let later = past x names d n (kept names n h) in absurd (omega (arith, later, is))) in
          omega (arith, none)
      by (suc k) more dt =
          ap (λ c. shows (g x) + c)
          (count_has (λ n. nat_le (place_in (x ∷ names) n) (suc k)) (λ n. nat_le (place_in names n) k) shown
          (λ n h. shift (place_in (x ∷ names) n) (place_in names n) k (past x names d n (kept names n h))) ∙ more k dt)
        where
          shift : (a b j : ℕ) → a ≡ 1 + b → nat_le a (suc j) ≡ nat_le b j
          shift a b j is = grind (arith, nat_tests)
