-- Joined bytes that are cut give the pieces again.
use Rattle.std.proofs.Common.{◌≡◌, ℕ, zero, suc, ◌≤◌, true, ◌&&◌, List, [], ◌∷◌, ◌++◌, length, take, drop, Some, refl, ap, ◌∙◌, arith}
use Rattle.std.specs.Prelude.{slice_get, option_map}
use Rattle.std.specs.List.{concat, sum}
use Rattle.std.proofs.Math.Seq.{take-length}
use Rattle.std.proofs.lemmas.List.{take-append-le, drop-append-le, take-append-drop, length-drop, length-append, length-take-le}
use Rattle.std.proofs.lemmas.List.Folds.{list_all-append}
use Rattle.std.proofs.lemmas.List.Sums.{sum_by-cons, sum_by-append}
use Rattle.coop_request.specs.Piece.{is_piece}
use Rattle.peer_step.specs.Text.{cut, AreSizes}

pub concat_cut : (sizes bytes : List ℕ) → sum sizes ≡ length bytes → concat (cut sizes bytes) ≡ bytes
concat_cut [] [] whole = refl
concat_cut [] (b ∷ bytes) whole = absurd (cc)
concat_cut (size ∷ sizes) bytes whole =
    let n = length-drop size bytes in
    let s = sum_by-cons (λ x. x) size sizes in
    ap (λ rest. take size bytes ++ rest) (concat_cut sizes (drop size bytes) (omega (arith, n, s, whole))) ∙ take-append-drop size bytes

pub cut_push : (sizes bytes piece : List ℕ) → sum sizes ≡ length bytes → cut (sizes ++ length piece ∷ []) (bytes ++ piece) ≡ cut sizes bytes ++ piece ∷ []
cut_push [] [] piece whole = ap (λ p. p ∷ []) (take-length piece)
cut_push [] (b ∷ bytes) piece whole = absurd (cc)
cut_push (size ∷ sizes) bytes piece whole =
    let n = length-drop size bytes in
    let s = sum_by-cons (λ x. x) size sizes in
    let few : size ≤ length bytes = omega (arith, s, whole) in
    rw (take-append-le size bytes piece few, drop-append-le size bytes piece few)
    (ap (λ rest. take size bytes ∷ rest) (cut_push sizes (drop size bytes) piece (omega (arith, n, s, whole))))

pub AreSizes-push : (sizes bytes piece : List ℕ) → AreSizes sizes bytes → is_piece piece ≡ true → AreSizes (sizes ++ length piece ∷ []) (bytes ++ piece)
AreSizes-push sizes bytes piece sizes_are piece_is =
    let all = list_all-append is_piece (cut sizes bytes) (piece ∷ []) in
    record {
      whole =
          let n = sum_by-append (λ x. x) sizes (length piece ∷ []) in
          let m = length-append bytes piece in
          let whole = sizes_are.whole in
          omega (arith, n, m, whole);
      pieces =
          rw (cut_push sizes bytes piece sizes_are.whole)
          (all ∙ ap (λ b. b && (is_piece piece && true)) sizes_are.pieces ∙ ap (λ b. b && true) piece_is);
    }

-- as many pieces as sizes
pub length_cut : (sizes bytes : List ℕ) → length (cut sizes bytes) ≡ length sizes
length_cut [] bytes = refl
length_cut (size ∷ sizes) bytes = ap suc (length_cut sizes (drop size bytes))

-- its number of bytes is the size there
pub size_at : (sizes bytes : List ℕ) (i : ℕ) → sum sizes ≡ length bytes → option_map (λ (p : List ℕ). length p) (slice_get (cut sizes bytes) i) ≡ slice_get sizes i
size_at [] bytes i whole = refl
size_at (s ∷ sizes) bytes zero whole =
    let first = sum_by-cons (λ x. x) s sizes in
    ap (λ (n : ℕ). Some n) (length-take-le s bytes (omega (arith, first, whole)))
size_at (s ∷ sizes) bytes (suc i) whole =
    let first = sum_by-cons (λ x. x) s sizes in
    let n = length-drop s bytes in
    size_at sizes (drop s bytes) i (omega (arith, n, first, whole))
