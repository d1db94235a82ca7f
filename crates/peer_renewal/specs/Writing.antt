-- The steps that write a text.
use Rattle.std.specs.Prelude.{ℕ, ◌+◌, List, [], ◌∷◌}
use Rattle.peer_step.specs.declared.step.LocalEdit.TheVariants.{Insert}
use Rattle.peer_step.specs.declared.step.Step.{Step}
use Rattle.peer_step.specs.declared.step.Step.TheVariants.{Edit}

-- the steps that write pieces one behind another, from a place on
abbrev pub steps_from : ℕ → List (List ℕ) → List Step
steps_from at [] = []
steps_from at (piece ∷ pieces) = Edit (Insert at piece) ∷ steps_from (at + 1) pieces
