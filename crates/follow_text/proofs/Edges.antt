-- Edges between pieces, and the bytes in front of them and behind them.
use Rattle.std.proofs.Common.{◌≡◌, ℕ, zero, suc, ◌+◌, ◌-◌, ◌≤◌, List, [], ◌∷◌, ◌++◌, length, take, drop, refl, ap, sym, ◌∙◌, arith, append_assoc}
use Rattle.std.specs.Prelude.{slice_range, sum, min}
use Rattle.std.specs.List.{concat}
use Rattle.std.proofs.Math.Seq.{take-add}
use Rattle.std.proofs.lemmas.List.{take-append-drop, drop-drop, length-drop, take_min, drop_min}
use Rattle.std.proofs.lemmas.List.Folds.{concat-append}
use Rattle.std.proofs.lemmas.List.Sums.{sum_by-cons}
use Rattle.peer_step.specs.Text.{cut}
use Rattle.peer_step.proofs.Cuts.{concat_cut}
use Rattle.follow_text.specs.Rows.{replaced}
use Rattle.follow_text.specs.Shown.{with_pieces}

-- the bytes of the first pieces
pub front_bytes : (sizes bytes : List ℕ) (n : ℕ) → sum sizes ≡ length bytes → concat (take n (cut sizes bytes)) ≡ take (sum (take n sizes)) bytes
front_bytes sizes bytes zero whole = refl
front_bytes [] bytes (suc n) whole = refl
front_bytes (s ∷ sizes) bytes (suc n) whole =
    let len = length-drop s bytes in
    let all = sum_by-cons (λ (x : ℕ). x) s sizes in
    ap (λ (rest : List ℕ). take s bytes ++ rest) (front_bytes sizes (drop s bytes) n (omega (arith, len, all, whole)))
    ∙ sym (take-add s (sum (take n sizes)) bytes)
    ∙ ap (λ (k : ℕ). take k bytes) (sym (sum_by-cons (λ (x : ℕ). x) s (take n sizes)))

-- and of the others
pub back_bytes : (sizes bytes : List ℕ) (n : ℕ) → sum sizes ≡ length bytes → concat (drop n (cut sizes bytes)) ≡ drop (sum (take n sizes)) bytes
back_bytes sizes bytes zero whole = concat_cut sizes bytes whole
back_bytes [] [] (suc n) whole = refl
back_bytes [] (b ∷ bytes) (suc n) whole = absurd cc
back_bytes (s ∷ sizes) bytes (suc n) whole =
    let len = length-drop s bytes in
    let all = sum_by-cons (λ (x : ℕ). x) s sizes in
    back_bytes sizes (drop s bytes) n (omega (arith, len, all, whole))
    ∙ drop-drop (sum (take n sizes)) s bytes
    ∙ ap (λ (k : ℕ). drop k bytes) (sym (sum_by-cons (λ (x : ℕ). x) s (take n sizes)))

-- bytes up to a place: those up to an earlier one, and those between
up_to : (start place : ℕ) (bytes : List ℕ) → start ≤ place → take start bytes ++ slice_range bytes start place ≡ take place bytes
up_to start place bytes h =
    let all : start + (place - start) ≡ place = omega arith in
    sym (take-add start (place - start) bytes) ∙ ap (λ (k : ℕ). take k bytes) all

-- bytes from a place on: those up to a later one, and those behind that
from_on : (place stop : ℕ) (bytes : List ℕ) → place ≤ stop → slice_range bytes place stop ++ drop stop bytes ≡ drop place bytes
from_on place stop bytes h =
    let all : place + (stop - place) ≡ stop = omega arith in
    ap (λ (k : ℕ). slice_range bytes place stop ++ drop k bytes) (sym all)
    ∙ ap (λ (rest : List ℕ). slice_range bytes place stop ++ rest) (sym (drop-drop (stop - place) place bytes))
    ∙ take-append-drop (stop - place) (drop place bytes)

-- a range with what stands beside it up to two edges
beside : (bytes text : List ℕ) (start stop from to : ℕ) → start ≤ from → to ≤ stop
    → take start bytes ++ ((slice_range bytes start from ++ (text ++ slice_range bytes to stop)) ++ drop stop bytes) ≡ take from bytes ++ (text ++ drop to bytes)
beside bytes text start stop from to before behind =
    let front = slice_range bytes start from in
    let back = slice_range bytes to stop in
    ap (λ (rest : List ℕ). take start bytes ++ rest)
    (append_assoc front (text ++ back) (drop stop bytes)
    ∙ ap (λ (rest : List ℕ). front ++ rest) (append_assoc text back (drop stop bytes) ∙ ap (λ (rest : List ℕ). text ++ rest) (from_on to stop bytes behind)))
    ∙ sym (append_assoc (take start bytes) front (text ++ drop to bytes))
    ∙ ap (λ (first : List ℕ). first ++ (text ++ drop to bytes)) (up_to start from bytes before)

-- pieces between two edges that are replaced by others, which have a text and what stands beside a range
pub replaced_pieces : (sizes bytes text : List ℕ) (put : List (List ℕ)) (a e start stop from to : ℕ) → sum sizes ≡ length bytes
    → start ≡ sum (take a sizes) → stop ≡ sum (take e sizes) → start ≤ from → to ≤ stop
    → concat put ≡ slice_range bytes start from ++ (text ++ slice_range bytes to stop)
    → concat (take a (cut sizes bytes) ++ (put ++ drop e (cut sizes bytes))) ≡ take from bytes ++ (text ++ drop to bytes)
replaced_pieces sizes bytes text put a e start stop from to whole start_is stop_is before behind put_is =
    let P = cut sizes bytes in
    concat-append (take a P) (put ++ drop e P)
    ∙ ap (λ (rest : List ℕ). concat (take a P) ++ rest) (concat-append put (drop e P))
    ∙ ap (λ (first : List ℕ). first ++ (concat put ++ concat (drop e P))) (front_bytes sizes bytes a whole ∙ ap (λ (k : ℕ). take k bytes) (sym start_is))
    ∙ ap (λ (last : List ℕ). take start bytes ++ (concat put ++ last)) (back_bytes sizes bytes e whole ∙ ap (λ (k : ℕ). drop k bytes) (sym stop_is))
    ∙ ap (λ (middle : List ℕ). take start bytes ++ (middle ++ drop stop bytes)) put_is
    ∙ beside bytes text start stop from to before behind

-- the same of a range that may go past the end
pub replaced_range : (sizes bytes text front back : List ℕ) (put pieces : List (List ℕ)) (a e start stop from to low high : ℕ) → from ≤ to → sum sizes ≡ length bytes
    → cut sizes bytes ≡ pieces → a ≤ e → start ≡ sum (take a sizes) → stop ≡ sum (take e sizes) → high ≡ min to (length bytes) → low ≡ min from high → start ≤ low → high ≤ stop
    → front ≡ slice_range bytes start low → back ≡ slice_range bytes high stop → concat put ≡ front ++ (text ++ back)
    → concat (with_pieces pieces a (e - a) put) ≡ replaced (concat pieces) from (to - from) text
replaced_range sizes bytes text front back put pieces a e start stop from to low high order whole view later start_is stop_is high_is low_is before behind front_is back_is put_is =
    let last : a + (e - a) ≡ e = omega arith in
    let range : from + (to - from) ≡ to = omega arith in
    let first : low ≡ min from (length bytes) = omega arith in
    let low_take : take low bytes ≡ take from bytes = ap (λ (k : ℕ). take k bytes) first ∙ take_min from bytes in
    let high_drop : drop high bytes ≡ drop (from + (to - from)) bytes = ap (λ (k : ℕ). drop k bytes) high_is ∙ drop_min to bytes ∙ ap (λ (k : ℕ). drop k bytes) (sym range) in
    let shown : bytes ≡ concat pieces = sym (concat_cut sizes bytes whole) ∙ ap (λ (p : List (List ℕ)). concat p) view in
    ap (λ (p : List (List ℕ)). concat (take a p ++ (put ++ drop (a + (e - a)) p))) (sym view)
    ∙ ap (λ (k : ℕ). concat (take a (cut sizes bytes) ++ (put ++ drop k (cut sizes bytes)))) last
    ∙ replaced_pieces sizes bytes text put a e start stop low high whole start_is stop_is before behind
    (put_is ∙ ap (λ (f : List ℕ). f ++ (text ++ back)) front_is ∙ ap (λ (b : List ℕ). slice_range bytes start low ++ (text ++ b)) back_is)
    ∙ ap (λ (f : List ℕ). f ++ (text ++ drop high bytes)) low_take
    ∙ ap (λ (b : List ℕ). take from bytes ++ (text ++ b)) high_drop
    ∙ ap (λ (b : List ℕ). replaced b from (to - from) text) shown
