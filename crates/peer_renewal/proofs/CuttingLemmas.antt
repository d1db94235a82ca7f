-- A text that is cut into pieces, `specs/Cutting.antt`.
use Rattle.std.proofs.Common.{◌≡◌, ℕ, ◌+◌, ◌<◌, ◌≤◌, List, [], ◌∷◌, ◌++◌, length, drop, ap, length-append, length-drop, arith}

-- each piece takes a byte at least
pub few_cut : (pieces : List (List ℕ)) (piece back rest : List ℕ) (most size : ℕ) → 0 < size → size ≤ length rest → back ≡ drop size rest
    → length pieces + length rest ≤ most → length (pieces ++ piece ∷ []) + length back ≤ most
few_cut pieces piece back rest most size some within back_is before =
    let more = length-append pieces (piece ∷ []) in
    let left : length back ≡ length (drop size rest) = ap (λ (l : List ℕ). length l) back_is in
    let less = length-drop size rest in
    omega (arith, more, left, less, some, within, before)
