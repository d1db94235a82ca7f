-- Edits that replace pieces by others.
use Rattle.std.proofs.Common.{◌≡◌, ℕ, ◌+◌, List, [], ◌∷◌, ◌++◌, length, take, drop, refl, ap, sym, ◌∙◌, arith, append_assoc, length-append}
use Rattle.std.specs.Prelude.{fold, insert, remove}
use Rattle.std.proofs.lemmas.List.{take-append-drop, drop-drop, length-drop, length-take-le}
use Rattle.std.proofs.lemmas.List.Sums.{fold-append}
use Rattle.peer_core.specs.Laws.{text_edited}
use Rattle.follow_text.specs.Edits.{deletions, inserts, ReplacedLaw}

abbrev Pieces : Type 0
Pieces = List (List ℕ)

-- a piece between others goes
removed : (front back : Pieces) (piece : List ℕ) → remove (front ++ piece ∷ back) (length front) ≡ front ++ back
removed [] back piece = refl
removed (x ∷ front) back piece = ap (λ (rest : Pieces). x ∷ rest) (removed front back piece)

-- a piece comes between others
inserted : (front back : Pieces) (piece : List ℕ) → insert (front ++ back) (length front) piece ≡ (front ++ piece ∷ []) ++ back
inserted [] back piece = refl
inserted (x ∷ front) back piece = ap (λ (rest : Pieces). x ∷ rest) (inserted front back piece)

all_removed : (front middle back : Pieces) → fold text_edited (front ++ (middle ++ back)) (deletions (length front) (length middle)) ≡ front ++ back
all_removed front [] back = refl
all_removed front (piece ∷ middle) back =
    ap (λ (P : Pieces). fold text_edited P (deletions (length front) (length middle))) (removed front (middle ++ back) piece) ∙ all_removed front middle back

all_inserted : (front put back : Pieces) → fold text_edited (front ++ back) (inserts (length front) put) ≡ front ++ (put ++ back)
all_inserted front [] back = refl
all_inserted front (piece ∷ put) back =
    let longer : length front + 1 ≡ length (front ++ piece ∷ []) = sym (length-append front (piece ∷ [])) in
    ap (λ (P : Pieces). fold text_edited P (inserts (length front + 1) put)) (inserted front back piece)
    ∙ ap (λ (n : ℕ). fold text_edited ((front ++ piece ∷ []) ++ back) (inserts n put)) longer
    ∙ all_inserted (front ++ piece ∷ []) put back
    ∙ append_assoc front (piece ∷ []) (put ++ back)

-- pieces in three parts
parts : (pieces : Pieces) (at out : ℕ) → pieces ≡ take at pieces ++ (take out (drop at pieces) ++ drop (at + out) pieces)
parts pieces at out =
    sym (take-append-drop at pieces)
    ∙ ap (λ (rest : Pieces). take at pieces ++ rest) (sym (take-append-drop out (drop at pieces)) ∙ ap (λ (rest : Pieces). take out (drop at pieces) ++ rest) (drop-drop out at pieces))

pub replaced_by : ReplacedLaw
replaced_by pieces put at out few =
    let front = take at pieces in
    let middle = take out (drop at pieces) in
    let back = drop (at + out) pieces in
    let n : length front ≡ at = length-take-le at pieces (omega arith) in
    let left = length-drop at pieces in
    let m : length middle ≡ out = length-take-le out (drop at pieces) (omega arith) in
    fold-append text_edited pieces (deletions at out) (inserts at put)
    ∙ ap (λ (P : Pieces). fold text_edited (fold text_edited P (deletions at out)) (inserts at put)) (parts pieces at out)
    ∙ ap (λ (k : ℕ). fold text_edited (fold text_edited (front ++ (middle ++ back)) (deletions at k)) (inserts at put)) (sym m)
    ∙ ap (λ (k : ℕ). fold text_edited (fold text_edited (front ++ (middle ++ back)) (deletions k (length middle))) (inserts k put)) (sym n)
    ∙ ap (λ (P : Pieces). fold text_edited P (inserts (length front) put)) (all_removed front middle back)
    ∙ all_inserted front put back
