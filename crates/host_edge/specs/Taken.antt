-- Why a link ends on which bytes come.
use Rattle.std.specs.Prelude.{◌≡◌, ◌⊎◌, Result, Err}
use Rattle.host_link.specs.declared.ending.Ending.{Ending}
use Rattle.host_link.specs.declared.ending.Ending.TheVariants.{NoMemory}
use Rattle.host_socket.specs.declared.socket.After.{After}
use Rattle.host_socket.specs.declared.socket.After.TheVariants.{Ends}

-- it ends so, unless memory is wanting
abbrev pub EndsBy : {A : Type 0} → Ending → Result A After → Type 0
EndsBy why outcome = (outcome ≡ Err (Ends why)) ⊎ (outcome ≡ Err (Ends NoMemory))
