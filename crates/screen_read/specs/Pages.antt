-- Pages: texts that were published, each with the number of steps that led to it.
use Rattle.std.specs.Prelude.{◌≡◌, ℕ, ◌<◌, List, [], ◌∷◌, ◌++◌}
use mathlib.Core.List.{IsPrefix}

-- what contracts see of a page: how many steps, and the text after them
pub record PageText : Type 0 where
  pub steps : ℕ
  pub text : List (List ℕ)

abbrev pub page_text : ℕ → List (List ℕ) → PageText
page_text steps text = record { steps = steps; text = text }

-- each page has more steps than the one before it
abbrev pub IsAscending : List PageText → Type 0
IsAscending [] = Unit {0}
IsAscending (p ∷ []) = Unit {0}
IsAscending (p ∷ q ∷ qs) = (p.steps < q.steps) × IsAscending (q ∷ qs)

-- the page is the last of these
abbrev pub IsNewest : List PageText → PageText → Type 0
IsNewest pages p = (before : List PageText) × (pages ≡ before ++ p ∷ [])

-- each of these lists begins the pages
abbrev pub AllBegin : List (List PageText) → List PageText → Type 0
AllBegin [] pages = Unit {0}
AllBegin (l ∷ ls) pages = IsPrefix l pages × AllBegin ls pages
