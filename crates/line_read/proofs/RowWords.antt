-- The words of a line one by one, and how they stand in a row.
use Rattle.std.proofs.Common.{◌≡◌, ℕ, ◌+◌, ◌<◌, ◌≤◌, Bool, true, false, cond, Some, None, List, [], ◌∷◌, ◌++◌, length, take, drop, set, sym, ap, ◌∙◌, append_assoc, arith, length-append, length-take, refl}
use Rattle.std.specs.Prelude.{◌==◌, nat_lt}
use Rattle.std.specs.Borrow.{Bor}
use Rattle.std.specs.List.{All, slice_split, position, position_or_len}
use Rattle.std.proofs.lemmas.Bool.Decides.{nat_tests}
use Rattle.std.proofs.lemmas.List.{take_more_set, map-append, length-map}
use Rattle.std.proofs.lemmas.List.Splits.{slice_split_none, slice_split_first, length-slice_split}
use Rattle.std.proofs.lemmas.List.Sums.{fails_before_first}
use Rattle.line_spelling.specs.declared.signs.TheConstants.{SPACE}
use Rattle.line_read.specs.Words.{bytes_of, words}

place_of : (a n i : ℕ) (b : Bool) → nat_lt a n ≡ b → cond b (Some a) None ≡ Some i → (a < n) × (a ≡ i)
place_of a n i true e h = (grind (arith, nat_tests), cc)
place_of a n i false e h = absurd (cc)

no_place : (a n : ℕ) (b : Bool) → nat_lt a n ≡ b → cond b (Some a) None ≡ None → n ≤ a
no_place a n true e h = absurd (cc)
no_place a n false e h = grind (arith, nat_tests)

-- the first word ends at the first separator
pub split_first : (p : ℕ → Bool) (xs : List ℕ) (i : ℕ) → position p xs ≡ Some i → slice_split p xs ≡ take i xs ∷ slice_split p (drop (i + 1) xs)
split_first p xs i e =
    let at : (position_or_len p xs < length xs) × (position_or_len p xs ≡ i) = place_of (position_or_len p xs) (length xs) i (nat_lt (position_or_len p xs) (length xs)) refl e in
    slice_split_first p xs 0 at.0 ∙ ap (λ (k : ℕ). take k xs ∷ slice_split p (drop (k + 1) xs)) at.1

-- where there is no separator, all is one word
pub split_last : (p : ℕ → Bool) (xs : List ℕ) → position p xs ≡ None → slice_split p xs ≡ xs ∷ []
split_last p xs e =
    let past : length xs ≤ position_or_len p xs = no_place (position_or_len p xs) (length xs) (nat_lt (position_or_len p xs) (length xs)) refl e in
    let front : All (λ x. p x ≡ false) xs = λ k d m. fails_before_first p xs k d (omega arith) in
    slice_split_none p xs front

-- a row with one more word
pub words_more : (row : List (Bor (List ℕ))) (i : ℕ) (w : Bor (List ℕ)) → i < length row → bytes_of (take (i + 1) (set row i w)) ≡ bytes_of (take i row) ++ w.now ∷ []
words_more row i w within = ap bytes_of (take_more_set row i w within) ∙ map-append (λ w. w.now) (take i row) (w ∷ [])

-- the words of a line stand in the row as far as the rest, and so with the next one
pub words_next : (line rest : List ℕ) (row : List (Bor (List ℕ))) (count end : ℕ) (word after : Bor (List ℕ)) → count < length row
    → words line ≡ bytes_of (take count row) ++ words rest → position (λ b. b == SPACE) rest ≡ Some end → word.now ≡ take end rest → after.now ≡ drop (end + 1) rest
    → words line ≡ bytes_of (take (count + 1) (set row count word)) ++ words after.now
words_next line rest row count end word after within so_far at front back =
    let first : words rest ≡ word.now ∷ words after.now =
    split_first (λ b. b == SPACE) rest end at ∙ ap (λ (ws : List ℕ). ws ∷ words (drop (end + 1) rest)) (sym front) ∙ ap (λ (ws : List ℕ). word.now ∷ words ws) (sym back) in
    so_far ∙ ap (λ (ws : List (List ℕ)). bytes_of (take count row) ++ ws) first
    ∙ sym (append_assoc (bytes_of (take count row)) (word.now ∷ []) (words after.now))
    ∙ ap (λ (ws : List (List ℕ)). ws ++ words after.now) (sym (words_more row count word within))

-- and with the last one
pub words_end : (line rest : List ℕ) (row : List (Bor (List ℕ))) (count : ℕ) (word : Bor (List ℕ)) → count < length row
    → words line ≡ bytes_of (take count row) ++ words rest → position (λ b. b == SPACE) rest ≡ None → word.now ≡ rest
    → bytes_of (take (count + 1) (set row count word)) ≡ words line
words_end line rest row count word within so_far none is =
    words_more row count word within ∙ ap (λ (w : List ℕ). bytes_of (take count row) ++ w ∷ []) is
    ∙ ap (λ (ws : List (List ℕ)). bytes_of (take count row) ++ ws) (sym (split_last (λ b. b == SPACE) rest none)) ∙ sym so_far

-- a full row, behind which the line has more
pub words_left : (line rest : List ℕ) (row : List (Bor (List ℕ))) (count : ℕ) → count ≤ length row → length row ≤ count
    → words line ≡ bytes_of (take count row) ++ words rest → length row < length (words line)
words_left line rest row count within full so_far =
    let all : length (words line) ≡ length (bytes_of (take count row)) + length (words rest) = ap length so_far ∙ length-append (bytes_of (take count row)) (words rest) in
    let some : length (bytes_of (take count row)) ≡ length (take count row) = length-map (take count row) (λ w. w.now) in
    omega (arith, length-take count row, length-slice_split (λ b. b == SPACE) rest)
