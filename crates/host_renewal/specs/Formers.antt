-- The documents whose place a renewal has taken.
use Rattle.std.specs.Prelude.{ℕ, Bool, List, ◌++◌, bytes_eq}
use Rattle.std.specs.List.{flat_map, list_any}
use Rattle.host_seal.specs.Seals.{seal_bytes}
use Rattle.host_renewal.specs.declared.former.Former.{Former}

-- the bytes of one: its identity, the bytes of its seal, and the digest of its certificate
abbrev pub former_bytes : Former → List ℕ
former_bytes former = former.identity ++ seal_bytes former.seal ++ former.certificate

-- those of a row of them, one behind another
abbrev pub formers_bytes : List Former → List ℕ
formers_bytes formers = flat_map former_bytes formers

-- whether one of them has this identity
abbrev pub is_former : List Former → List ℕ → Bool
is_former formers identity = list_any (λ f. bytes_eq f.identity identity) formers
