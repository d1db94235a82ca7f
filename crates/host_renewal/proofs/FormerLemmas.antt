-- One more former document in a row.
use Rattle.std.proofs.Common.{◌≡◌, List, [], ◌∷◌, ◌++◌}
use Rattle.std.proofs.lemmas.List.{flat_map_more}
use Rattle.host_renewal.specs.declared.former.Former.{Former}
use Rattle.host_renewal.specs.Formers.{former_bytes, formers_bytes}

-- its bytes stand behind those of the others
pub former_more : (row : List Former) (f : Former) → formers_bytes row ++ former_bytes f ≡ formers_bytes (row ++ f ∷ [])
former_more row f = flat_map_more former_bytes [] row f
