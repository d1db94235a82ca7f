-- Who is told of a document that has taken another one's place.
use Rattle.std.specs.Prelude.{ℕ, Bool, false, List, Option, Some, None}
use Rattle.host_renewal.specs.declared.former.Former.{Former}
use Rattle.host_renewal.specs.Formers.{is_former}

-- whether a link that knows this document, if it knows one, knows a former one
abbrev pub claimed_former : List Former → Option (List ℕ) → Bool
claimed_former formers None = false
claimed_former formers (Some identity) = is_former formers identity
