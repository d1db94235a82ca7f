-- What reading an input comes to.
use Rattle.std.specs.Prelude.{◌≡◌, ℕ, List, [], ◌⊎◌, Some}
use Rattle.line_engine.specs.declared.status.Status.TheVariants.{Done}
use Rattle.line_engine.specs.Output.{Output, bad_line, too_long}
use Rattle.race_run.specs.Lists.{output_with, list_part}

-- the bytes of the end alone, or the line alone that says which line is bad, or that the input is too long
abbrev pub IsAlone : List ℕ → Output → Type 0
IsAlone bytes out = (out ≡ record { written = bytes; status = Done }) ⊎ ((out ≡ too_long) ⊎ ((k : ℕ) × (out ≡ bad_line k)))

abbrev pub SilentLaw : Type 0
SilentLaw = (bytes input : List ℕ) → IsAlone bytes (output_with bytes input)

-- where reading fails, nothing is written
abbrev pub SilentFaultLaw : Type 0
SilentFaultLaw = (bytes written : List ℕ) → list_part bytes ≡ Some written → written ≡ []
