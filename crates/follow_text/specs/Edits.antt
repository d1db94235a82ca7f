-- The edits that replace pieces by others.
use Rattle.std.specs.Prelude.{◌≡◌, ℕ, zero, suc, ◌+◌, ◌≤◌, List, [], ◌∷◌, ◌++◌, length, fold}
use Rattle.peer_step.specs.declared.step.LocalEdit.{LocalEdit}
use Rattle.peer_step.specs.declared.step.LocalEdit.TheVariants.{Insert, Delete}
use Rattle.peer_core.specs.Laws.{text_edited}
use Rattle.follow_text.specs.Shown.{with_pieces}

-- so many pieces go at a place, one after another
abbrev pub deletions : ℕ → ℕ → List LocalEdit
deletions at zero = []
deletions at (suc out) = Delete at ∷ deletions at out

-- these come there, one behind another
abbrev pub inserts : ℕ → List (List ℕ) → List LocalEdit
inserts at [] = []
inserts at (piece ∷ pieces) = Insert at piece ∷ inserts (at + 1) pieces

-- made one after another they put these pieces in place of so many others
abbrev pub ReplacedLaw : Type 0
ReplacedLaw = (pieces put : List (List ℕ)) (at out : ℕ) → at + out ≤ length pieces
    → fold text_edited pieces (deletions at out ++ inserts at put) ≡ with_pieces pieces at out put
