-- What reading a file of records gives.
use Rattle.std.specs.Prelude.{ℕ, List}
use Rattle.peer_disk.specs.declared.walk.Ending.{Ending}
use Rattle.peer_disk.specs.declared.walk.Ending.TheVariants.{Closed, Broken}
use Rattle.peer_disk.specs.declared.walk.Loaded.{Loaded}
use Rattle.peer_disk.specs.Records.{HasBodies, BreaksAfter, IsClosedGate, IsNoRecord, bytes_of_each}

-- bytes behind whole records end so
abbrev pub EndsWith : Ending → List ℕ → Type 0
EndsWith Closed rest = IsClosedGate rest
EndsWith Broken rest = IsNoRecord rest

-- a file of this site with these bodies ends so
abbrev pub EndsSo : Ending → ℕ → List (List ℕ) → List ℕ → Type 0
EndsSo Closed site bodies file = HasBodies site bodies file
EndsSo Broken site bodies file = BreaksAfter site bodies file

-- what was read is what the file has
abbrev pub Loads : ℕ → Loaded → List ℕ → Type 0
Loads site loaded file = EndsSo loaded.ending site (bytes_of_each loaded.bodies.items) file
