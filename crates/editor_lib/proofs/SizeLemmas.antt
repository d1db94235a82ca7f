-- The sizes of the first pieces, one piece further.
use Rattle.std.proofs.Common.{◌≡◌, ℕ, ◌+◌, List, [], ◌∷◌, ◌++◌, length, take, Option, Some, None, refl, ap, ◌∙◌}
use Rattle.std.specs.Prelude.{map, option_map, slice_get}
use Rattle.std.proofs.lemmas.List.{map_more}
use Rattle.std.proofs.lemmas.Option.{slice_get_within, get_or_from_slice_get}

-- a size is that of a piece
sized : (piece : Option (List ℕ)) (size : ℕ) → option_map length piece ≡ Some size → (p : List ℕ) × (piece ≡ Some p) × (length p ≡ size)
sized None size is = absurd cc
sized (Some p) size is = (p, refl, cc)

pub sizes_more : (text : List (List ℕ)) (place size : ℕ) → option_map length (slice_get text place) ≡ Some size → map length (take (place + 1) text) ≡ map length (take place text) ++ size ∷ []
sizes_more text place size is =
    let s = sized (slice_get text place) size is in
    map_more length text place s.0 (slice_get_within text place s.0 s.1)
    ∙ ap (λ (n : ℕ). map length (take place text) ++ n ∷ []) (ap length (get_or_from_slice_get text place s.0 s.0 s.1) ∙ s.2)
