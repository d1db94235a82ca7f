-- Texts with rows in them.
use Rattle.std.proofs.Common.{◌≡◌, ℕ, ◌+◌, ◌-◌, ◌<◌, ◌≤◌, List, ◌∷◌, ◌++◌, length, take, drop, get_or, ap, sym, ◌∙◌, arith}
use Rattle.std.specs.Prelude.{min}
use Rattle.std.proofs.lemmas.List.{take-append-drop, drop-drop, drop_more, take_min, drop_min, take-take}
use Rattle.std.proofs.lemmas.List.Sums.{fold-append}
use Rattle.follow_text.specs.declared.text_row.TextRow.{TextRow}
use Rattle.follow_text.specs.Rows.{replaced, with_row, with_rows}

-- what stands in front of a place within the bytes, and behind so many of the rest
pub replaced_within : (bytes put front rest back : List ℕ) (at out : ℕ) → front ≡ take (min at (length bytes)) bytes → rest ≡ drop (min at (length bytes)) bytes
    → back ≡ drop (min out (length rest)) rest → front ++ (put ++ back) ≡ replaced bytes at out put
replaced_within bytes put front rest back at out front_is rest_is back_is =
    let rest_at : rest ≡ drop at bytes = rest_is ∙ drop_min at bytes in
    let back_at : back ≡ drop (at + out) bytes = back_is ∙ drop_min out rest ∙ ap (λ (r : List ℕ). drop out r) rest_at ∙ drop-drop out at bytes in
    ap (λ (f : List ℕ). f ++ (put ++ back)) (front_is ∙ take_min at bytes) ∙ ap (λ (b : List ℕ). take at bytes ++ (put ++ b)) back_at

-- the row of what stands between two ends that are alike makes one text of the other
pub between_ends : (old new old_rest new_rest put : List ℕ) (front end : ℕ) → old_rest ≡ drop front old → new_rest ≡ drop front new
    → put ≡ take (length new_rest - end) new_rest → take front old ≡ take front new
    → drop (length old_rest - end) old_rest ≡ drop (length new_rest - end) new_rest → replaced old front (length old_rest - end) put ≡ new
between_ends old new old_rest new_rest put front end old_is new_is put_is alike ends =
    let o : ℕ = length old_rest - end in
    let m : ℕ = length new_rest - end in
    let back : drop (front + o) old ≡ drop m new_rest = sym (drop-drop o front old) ∙ ap (λ (rest : List ℕ). drop o rest) (sym old_is) ∙ ends in
    ap (λ (b : List ℕ). take front old ++ (put ++ b)) back
    ∙ ap (λ (p : List ℕ). take front old ++ (p ++ drop m new_rest)) put_is
    ∙ ap (λ (b : List ℕ). take front old ++ b) (take-append-drop m new_rest ∙ new_is)
    ∙ ap (λ (first : List ℕ). first ++ drop front new) alike
    ∙ take-append-drop front new

-- texts that begin alike begin alike up to an earlier place
pub alike_earlier : (old new : List ℕ) (n k : ℕ) → k ≤ n → take n old ≡ take n new → take k old ≡ take k new
alike_earlier old new n k h alike = sym (take-take k n old h) ∙ ap (λ (xs : List ℕ). take k xs) alike ∙ take-take k n new h

-- texts that end alike end alike from a later place on
pub alike_later : (old new : List ℕ) (n k : ℕ) → k ≤ n → n ≤ length old → n ≤ length new → drop (length old - n) old ≡ drop (length new - n) new
    → drop (length old - k) old ≡ drop (length new - k) new
alike_later old new n k h a b alike =
    let p : (length old - n) + (n - k) ≡ length old - k = omega arith in
    let q : (length new - n) + (n - k) ≡ length new - k = omega arith in
    ap (λ (i : ℕ). drop i old) (sym p) ∙ sym (drop-drop (n - k) (length old - n) old)
    ∙ ap (λ (xs : List ℕ). drop (n - k) xs) alike
    ∙ drop-drop (n - k) (length new - n) new ∙ ap (λ (i : ℕ). drop i new) q

-- one more byte at the ends
pub end_more : (old new : List ℕ) (n : ℕ) → n < length old → n < length new → drop (length old - n) old ≡ drop (length new - n) new
    → get_or old (length old - 1 - n) 0 ≡ get_or new (length new - 1 - n) 0 → drop (length old - (n + 1)) old ≡ drop (length new - (n + 1)) new
end_more old new n a b alike byte =
    let p : length old - (n + 1) ≡ length old - 1 - n = omega arith in
    let q : length new - (n + 1) ≡ length new - 1 - n = omega arith in
    let r : length old - 1 - n + 1 ≡ length old - n = omega arith in
    let s : length new - 1 - n + 1 ≡ length new - n = omega arith in
    ap (λ (i : ℕ). drop i old) p ∙ drop_more old (length old - 1 - n) 0 (omega arith)
    ∙ ap (λ (i : ℕ). get_or old (length old - 1 - n) 0 ∷ drop i old) r
    ∙ ap (λ (x : ℕ). x ∷ drop (length old - n) old) byte
    ∙ ap (λ (xs : List ℕ). get_or new (length new - 1 - n) 0 ∷ xs) alike
    ∙ ap (λ (i : ℕ). get_or new (length new - 1 - n) 0 ∷ drop i new) (sym s)
    ∙ sym (drop_more new (length new - 1 - n) 0 (omega arith))
    ∙ ap (λ (i : ℕ). drop i new) (sym q)

-- rows that were seen, and those that weren't
pub rows_split : (bytes : List ℕ) (rows : List TextRow) (n : ℕ) → with_rows (with_rows bytes (take n rows)) (drop n rows) ≡ with_rows bytes rows
rows_split bytes rows n =
    sym (fold-append with_row bytes (take n rows) (drop n rows)) ∙ ap (λ (all : List TextRow). with_rows bytes all) (take-append-drop n rows)
