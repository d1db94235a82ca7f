-- A text that is cut into pieces.
use Rattle.std.proofs.Common.{◌≡◌, ℕ, List, [], ◌∷◌, ◌++◌, take, drop, Some, ap, sym, ◌∙◌, append_assoc, append-nil, take-append-drop}
use Rattle.std.specs.List.{concat}
use Rattle.std.proofs.lemmas.Option.{cond_some}
use Rattle.std.proofs.lemmas.List.Folds.{concat-append}
use Rattle.element_name.specs.Cases.{when}
use Rattle.coop_request.specs.Piece.{is_piece}

-- one more piece that is cut from the beginning of what is left
pub first_cut : (pieces : List (List ℕ)) (piece front back rest whole : List ℕ) (size : ℕ) → Some piece ≡ when (is_piece front) front → front ≡ take size rest → back ≡ drop size rest
    → concat pieces ++ rest ≡ whole → concat (pieces ++ piece ∷ []) ++ back ≡ whole
first_cut pieces piece front back rest whole size found front_is back_is before =
    let same : piece ≡ front = sym (cond_some (is_piece front) front piece (sym found)).1 in
    ap (λ (xs : List ℕ). xs ++ back) (concat-append pieces (piece ∷ []))
    ∙ ap (λ (xs : List ℕ). (concat pieces ++ xs) ++ back) (append-nil piece ∙ same ∙ front_is)
    ∙ append_assoc (concat pieces) (take size rest) back
    ∙ ap (λ (xs : List ℕ). concat pieces ++ (take size rest ++ xs)) back_is
    ∙ ap (λ (xs : List ℕ). concat pieces ++ xs) (take-append-drop size rest)
    ∙ before
