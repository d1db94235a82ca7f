-- The numbers that calls give.
use Rattle.std.specs.Prelude.{◌≡◌, ℕ}
use Rattle.editor_lib.specs.declared.code.Code.{Code}
use Rattle.editor_lib.specs.declared.code.Code.TheVariants.{Done, Bad, NoMemory, Untold}

abbrev pub number : Code → ℕ
number Done = 0
number Bad = 1
number NoMemory = 2
number Untold = 3

-- the number is that of a code for which this holds
abbrev pub GivesCode : ℕ → (Code → Type 0) → Type 0
GivesCode n Holds = (code : Code) × (n ≡ number code) × Holds code
