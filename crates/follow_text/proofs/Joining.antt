-- One row that makes of a text what two make of it, one after the other.
use Rattle.std.proofs.Common.{◌≡◌, ℕ, ◌+◌, ◌-◌, ◌^◌, ◌<◌, ◌≤◌, List, ◌++◌, length, take, drop, refl, ap, sym, ◌∙◌, arith, append_assoc, length-append}
use Rattle.std.proofs.Math.Seq.{take-add, take-append-add, drop-append-add}
use Rattle.std.specs.Prelude.{min, Result, Ok, Err, OnErr}
use Rattle.std.proofs.lemmas.List.{drop-drop, drop-take, length-drop, length-take-le, take-append-le, drop-append-le, take-take, take_at, drop_at, length-take}
use Rattle.std.proofs.lemmas.List.Sums.{sum_by-append, count_by-le-length}
use Rattle.follow_text.specs.declared.text_row.TextRow.{TextRow}
use Rattle.follow_text.specs.Letters.{is_lead, letter_count}
use Rattle.follow_text.specs.Rows.{replaced, with_row, Makes}

-- letters of two texts, one behind the other
letters_append : (xs ys : List ℕ) → letter_count (xs ++ ys) ≡ letter_count xs + letter_count ys
letters_append xs ys = sum_by-append _ xs ys

-- so many bytes have no more letters
few_letters : (n : ℕ) (xs : List ℕ) → letter_count (take n xs) ≤ n
few_letters n xs =
    let a = count_by-le-length is_lead (take n xs) in
    let b = length-take n xs in
    omega (arith, a, b)

-- what holds anyway holds where a call fails
pub where_err : {A E P : Type 0} (result : Result A E) → P → OnErr result P
where_err (Ok x) p = tt
where_err (Err e) p = p

-- two counts of letters together, where a number of the machine holds them
exact_letters : (n : ℕ) (bytes front back : List ℕ) (a b both : ℕ) → take n bytes ≡ front ++ back → a ≡ letter_count front → b ≡ letter_count back → both ≡ min (a + b) (2 ^ 64 - 1)
    → n < 2 ^ 64 → both ≡ letter_count (take n bytes)
exact_letters n bytes front back a b both split one other sum_is room =
    let few = few_letters n bytes in
    let parts = letters_append front back in
    let count : letter_count (take n bytes) ≡ letter_count (front ++ back) = ap (λ (xs : List ℕ). letter_count xs) split in
    omega (arith, few, parts, count, one, other, sum_is, room)

-- a row of these parts makes one text of the other
row_makes : (old new : List ℕ) (row : TextRow) (at out : ℕ) (put : List ℕ) → row.at ≡ at → row.out ≡ out → row.put.items ≡ put → at + out ≤ length old
    → row.letters_before ≡ letter_count (take at old) → row.letters_out ≡ letter_count (take out (drop at old)) → replaced old at out put ≡ new → Makes old new row
row_makes old new row at out put at_is out_is put_is within before letters made = record {
  row_of = record {
    within = omega (arith, within, at_is, out_is);
    before = before ∙ ap (λ (n : ℕ). letter_count (take n old)) (sym at_is);
    letters = letters ∙ ap (λ (n : ℕ). letter_count (take out (drop n old))) (sym at_is) ∙ ap (λ (n : ℕ). letter_count (take n (drop row.at old))) (sym out_is);
  };
  made = ap (λ (a : ℕ). replaced old a row.out row.put.items) at_is
      ∙ ap (λ (o : ℕ). replaced old at o row.put.items) out_is
      ∙ ap (λ (p : List ℕ). replaced old at out p) put_is
      ∙ made;
}

-- a row whose text lies elsewhere
pub same_row : (old new : List ℕ) (row after : TextRow) → after.at ≡ row.at → after.out ≡ row.out → after.put.items ≡ row.put.items → after.letters_before ≡ row.letters_before
    → after.letters_out ≡ row.letters_out → Makes old new row → Makes old new after
same_row old new row after at_is out_is put_is before_is letters_is h =
    row_makes old new after row.at row.out row.put.items at_is out_is put_is h.row_of.within (before_is ∙ h.row_of.before) (letters_is ∙ h.row_of.letters) h.made

module _ (old mid new : List ℕ) (first next : TextRow) (h : Makes old mid first) (g : Makes mid new next) where
  front_size : length (take first.at old) ≡ first.at
  front_size = length-take-le first.at old (let w = h.row_of.within in omega arith)

  -- the bytes behind what the first row put in
  mid_size : length mid + first.out ≡ length old + length first.put.items
  mid_size =
      let w = h.row_of.within in
      let a = length-append (take first.at old) (first.put.items ++ drop (first.at + first.out) old) in
      let b = length-append first.put.items (drop (first.at + first.out) old) in
      let c = length-drop (first.at + first.out) old in
      let d : length (with_row old first) ≡ length mid = ap (λ (xs : List ℕ). length xs) h.made in
      let e = front_size in
      omega (arith, w, a, b, c, d, e)

  -- what two rows leave, where the next one stands behind so many bytes of what the first one put in and what is behind it
  mid_take : (k : ℕ) → next.at ≡ first.at + k → take next.at mid ≡ take first.at old ++ take k (first.put.items ++ drop (first.at + first.out) old)
  mid_take k at =
      let size = front_size in
      let place : next.at ≡ length (take first.at old) + k = omega (arith, at, size) in
      ap (λ (n : ℕ). take n mid) place
      ∙ ap (λ (xs : List ℕ). take (length (take first.at old) + k) xs) (sym h.made)
      ∙ take-append-add (take first.at old) (first.put.items ++ drop (first.at + first.out) old) k

  mid_drop : (n k : ℕ) → n ≡ first.at + k → drop n mid ≡ drop k (first.put.items ++ drop (first.at + first.out) old)
  mid_drop n k at =
      let size = front_size in
      let place : n ≡ length (take first.at old) + k = omega (arith, at, size) in
      ap (λ (m : ℕ). drop m mid) place
      ∙ ap (λ (xs : List ℕ). drop (length (take first.at old) + k) xs) (sym h.made)
      ∙ drop-append-add (take first.at old) (first.put.items ++ drop (first.at + first.out) old) k

  -- ---- the next one begins where what the first one put in ends

  module _ (at : next.at ≡ first.at + length first.put.items) where
    -- what is behind the next row's place
    behind_put : drop next.at mid ≡ drop (first.at + first.out) old
    behind_put = mid_drop next.at (length first.put.items) at ∙ drop_at first.put.items (drop (first.at + first.out) old) (length first.put.items) refl

    behind_within : first.at + (first.out + next.out) ≤ length old
    behind_within =
        let w = h.row_of.within in
        let v = g.row_of.within in
        let s = mid_size in
        omega (arith, w, v, s, at)

    -- what both take out
    behind_out : take (first.out + next.out) (drop first.at old) ≡ take first.out (drop first.at old) ++ take next.out (drop next.at mid)
    behind_out =
        take-add first.out next.out (drop first.at old)
        ∙ ap (λ (xs : List ℕ). take first.out (drop first.at old) ++ take next.out xs) (drop-drop first.out first.at old ∙ sym behind_put)

    pub behind_join : (joined : TextRow) → joined.at ≡ first.at → joined.out ≡ first.out + next.out → joined.put.items ≡ first.put.items ++ next.put.items
        → joined.letters_before ≡ first.letters_before → joined.letters_out ≡ min (first.letters_out + next.letters_out) (2 ^ 64 - 1) → first.out + next.out < 2 ^ 64 → Makes old new joined
    behind_join joined at_is out_is put_is before_is letters_is room =
        let F = take first.at old in
        let P = first.put.items in
        let Q = next.put.items in
        let B = drop (first.at + first.out) old in
        let letters =
        exact_letters (first.out + next.out) (drop first.at old) (take first.out (drop first.at old)) (take next.out (drop next.at mid)) first.letters_out next.letters_out joined.letters_out
        behind_out h.row_of.letters g.row_of.letters letters_is room in
        let rest : drop (next.at + next.out) mid ≡ drop (first.at + (first.out + next.out)) old =
        sym (drop-drop next.out next.at mid) ∙ ap (λ (xs : List ℕ). drop next.out xs) behind_put ∙ drop-drop next.out (first.at + first.out) old
        ∙ ap (λ (n : ℕ). drop n old) (omega arith) in
        let head : take next.at mid ≡ F ++ P = mid_take (length P) at ∙ ap (λ (xs : List ℕ). F ++ xs) (take_at P B (length P) refl) in
        row_makes old new joined first.at (first.out + next.out) (P ++ Q) at_is out_is put_is behind_within (before_is ∙ h.row_of.before) letters
        (ap (λ (b : List ℕ). F ++ ((P ++ Q) ++ b)) (sym rest)
        ∙ ap (λ (xs : List ℕ). F ++ xs) (append_assoc P Q (drop (next.at + next.out) mid))
        ∙ sym (append_assoc F P (Q ++ drop (next.at + next.out) mid))
        ∙ ap (λ (xs : List ℕ). xs ++ (Q ++ drop (next.at + next.out) mid)) (sym head)
        ∙ g.made)

  -- ---- the next one ends where the first one begins

  module _ (end : next.at + next.out ≡ first.at) where
    -- in front of the first row the text is as it was
    same_front : take first.at mid ≡ take first.at old
    same_front =
        ap (λ (xs : List ℕ). take first.at xs) (sym h.made) ∙ take_at (take first.at old) (first.put.items ++ drop (first.at + first.out) old) first.at front_size

    same_take : take next.at mid ≡ take next.at old
    same_take =
        sym (take-take next.at first.at mid (omega (arith, end))) ∙ ap (λ (xs : List ℕ). take next.at xs) same_front ∙ take-take next.at first.at old (omega (arith, end))

    same_out : take next.out (drop next.at mid) ≡ take next.out (drop next.at old)
    same_out =
        sym (drop-take next.at next.out mid)
        ∙ ap (λ (n : ℕ). drop next.at (take n mid)) end ∙ ap (λ (xs : List ℕ). drop next.at xs) same_front ∙ ap (λ (n : ℕ). drop next.at (take n old)) (sym end)
        ∙ drop-take next.at next.out old

    -- what both take out
    front_out : take (first.out + next.out) (drop next.at old) ≡ take next.out (drop next.at old) ++ take first.out (drop first.at old)
    front_out =
        let order : first.out + next.out ≡ next.out + first.out = omega arith in
        ap (λ (n : ℕ). take n (drop next.at old)) order
        ∙ take-add next.out first.out (drop next.at old)
        ∙ ap (λ (xs : List ℕ). take next.out (drop next.at old) ++ take first.out xs) (drop-drop next.out next.at old ∙ ap (λ (n : ℕ). drop n old) end)

    pub front_join : (joined : TextRow) → joined.at ≡ next.at → joined.out ≡ first.out + next.out → joined.put.items ≡ next.put.items ++ first.put.items
        → joined.letters_before ≡ next.letters_before → joined.letters_out ≡ min (first.letters_out + next.letters_out) (2 ^ 64 - 1) → first.out + next.out < 2 ^ 64 → Makes old new joined
    front_join joined at_is out_is put_is before_is letters_is room =
        let P = first.put.items in
        let Q = next.put.items in
        let w = h.row_of.within in
        let other : next.letters_out ≡ letter_count (take next.out (drop next.at old)) = g.row_of.letters ∙ ap (λ (xs : List ℕ). letter_count xs) same_out in
        let letters =
        exact_letters (first.out + next.out) (drop next.at old) (take next.out (drop next.at old)) (take first.out (drop first.at old)) next.letters_out first.letters_out joined.letters_out
        front_out other h.row_of.letters (omega (arith, letters_is)) room in
        let place : next.at + (first.out + next.out) ≡ first.at + first.out = omega (arith, end) in
        let rest : drop (next.at + next.out) mid ≡ P ++ drop (first.at + first.out) old =
        ap (λ (n : ℕ). drop n mid) end ∙ ap (λ (xs : List ℕ). drop first.at xs) (sym h.made)
        ∙ drop_at (take first.at old) (P ++ drop (first.at + first.out) old) first.at front_size in
        row_makes old new joined next.at (first.out + next.out) (Q ++ P) at_is out_is put_is (omega (arith, w, place))
        (before_is ∙ g.row_of.before ∙ ap (λ (xs : List ℕ). letter_count xs) same_take) letters
        (ap (λ (n : ℕ). take next.at old ++ ((Q ++ P) ++ drop n old)) place
        ∙ ap (λ (xs : List ℕ). take next.at old ++ xs) (append_assoc Q P (drop (first.at + first.out) old))
        ∙ ap (λ (xs : List ℕ). take next.at old ++ (Q ++ xs)) (sym rest)
        ∙ ap (λ (xs : List ℕ). xs ++ (Q ++ drop (next.at + next.out) mid)) (sym same_take)
        ∙ g.made)

  -- ---- the next one stands within what the first one put in

  pub within_join : (joined : TextRow) → first.at ≤ next.at → next.at + next.out ≤ first.at + length first.put.items → joined.at ≡ first.at → joined.out ≡ first.out
      → joined.put.items ≡ replaced first.put.items (next.at - first.at) next.out next.put.items → joined.letters_before ≡ first.letters_before → joined.letters_out ≡ first.letters_out
      → Makes old new joined
  within_join joined behind within at_is out_is put_is before_is letters_is =
      let F = take first.at old in
      let P = first.put.items in
      let Q = next.put.items in
      let B = drop (first.at + first.out) old in
      let k : ℕ = next.at - first.at in
      let at : next.at ≡ first.at + k = omega arith in
      let end : next.at + next.out ≡ first.at + (k + next.out) = omega arith in
      let head : take next.at mid ≡ F ++ take k P = mid_take k at ∙ ap (λ (xs : List ℕ). F ++ xs) (take-append-le k P B (omega arith)) in
      let rest : drop (next.at + next.out) mid ≡ drop (k + next.out) P ++ B = mid_drop (next.at + next.out) (k + next.out) end ∙ drop-append-le (k + next.out) P B (omega arith) in
      row_makes old new joined first.at first.out (replaced P k next.out Q) at_is out_is put_is h.row_of.within (before_is ∙ h.row_of.before) (letters_is ∙ h.row_of.letters)
      (inner_text F P Q B k (k + next.out)
      ∙ ap (λ (xs : List ℕ). (F ++ take k P) ++ (Q ++ xs)) (sym rest)
      ∙ ap (λ (xs : List ℕ). xs ++ (Q ++ drop (next.at + next.out) mid)) (sym head)
      ∙ g.made)
    where
      inner_text : (F P Q B : List ℕ) (k e : ℕ) → F ++ ((take k P ++ (Q ++ drop e P)) ++ B) ≡ (F ++ take k P) ++ (Q ++ (drop e P ++ B))
      inner_text F P Q B k e = simp append_assoc
