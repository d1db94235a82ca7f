-- Numbers by their digits.
use Rattle.std.proofs.Common.{◌≡◌, ℕ, ◌+◌, ◌-◌, ◌*◌, ◌<◌, ◌≤◌, true, false, List, None, length, take, drop, get_or, refl, sym, ap, ◌∙◌, arith, take-append-drop}
use Rattle.std.specs.Prelude.{nat_le}
use Rattle.std.specs.Int.Digits.{number_from_digits, number_from_digits_after}
use Rattle.std.proofs.Math.ListN.{get_or-map}
use Rattle.std.proofs.lemmas.List.{length-map}
use Rattle.std.proofs.lemmas.Int.Digits.{number_more, number_after_append, number_after_ge}
use Rattle.std.proofs.lemmas.Bool.Decides.{nat_tests}
use Rattle.line_read.specs.declared.numbers.TheConstants.{ZERO_DIGIT}
use Rattle.line_read.specs.Numbers.{is_numeral, digits_of, read_number}

-- the number of the digits up to one more
pub number_next : (word : List ℕ) (i : ℕ) → i < length word
    → number_from_digits 10 (take (i + 1) (digits_of word)) ≡ number_from_digits 10 (take i (digits_of word)) * 10 + (get_or word i 0 - ZERO_DIGIT)
number_next word i lt =
    let within : i < length (digits_of word) = rw length-map lt in
    number_more 10 (digits_of word) i within ∙ ap (λ n. number_from_digits 10 (take i (digits_of word)) * 10 + n) (get_or-map (λ d. d - ZERO_DIGIT) word i 0)

-- digits in front make no more than all of them
pub number_front : (ds : List ℕ) (i : ℕ) → number_from_digits 10 (take i ds) ≤ number_from_digits 10 ds
number_front ds i =
    let whole : number_from_digits 10 ds ≡ number_from_digits_after 10 (number_from_digits 10 (take i ds)) (drop i ds)
    = ap (number_from_digits 10) (sym (take-append-drop i ds)) ∙ number_after_append 10 0 (take i ds) (drop i ds) in
    omega (arith, whole, number_after_ge 10 (number_from_digits 10 (take i ds)) (drop i ds) (omega arith))

-- a word whose first digits make too much is no number
pub number_above : (limit i : ℕ) (word : List ℕ) → is_numeral word ≡ true → limit < number_from_digits 10 (take i (digits_of word)) → read_number limit word ≡ None
unfolding read_number
number_above limit i word numeral lt =
    let above : nat_le (number_from_digits 10 (digits_of word)) limit ≡ false = grind (arith, nat_tests, number_front (digits_of word) i) in
    rw (numeral, above) refl
