-- Which links an order ends.
use Rattle.std.specs.Prelude.{◌≡◌, ℕ}
use Rattle.host_house.specs.declared.done.Consequence.{Consequence}
use Rattle.host_house.specs.declared.done.Consequence.TheVariants.{Nothing, People, Closed, Role, Documents, Moved, Renewed}

-- all links to the document of this number end, and no others
abbrev pub EndsLinksTo : ℕ → Consequence → Type 0
EndsLinksTo number (Moved document) = document ≡ number
EndsLinksTo number (Renewed document) = document ≡ number
EndsLinksTo number Nothing = ⊥
EndsLinksTo number People = ⊥
EndsLinksTo number (Closed site) = ⊥
EndsLinksTo number (Role person) = ⊥
EndsLinksTo number Documents = ⊥
