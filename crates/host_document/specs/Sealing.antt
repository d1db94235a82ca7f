-- Why a document isn't opened that is another than was sealed.
use Rattle.std.specs.Prelude.{ℕ, List, length, Option, option_map}
use Rattle.edit_message.specs.declared.message.Message.{Message}
use Rattle.host_seal.specs.declared.seal.Seal.{Seal}
use Rattle.host_seal.specs.declared.seal.SealFault.{SealFault}
use Rattle.host_seal.specs.declared.seal.SealFault.TheVariants as seals
use Rattle.host_seal.specs.Seals.{seal_fault}
use Rattle.host_interface.specs.declared.fault.OpenFault.{OpenFault}
use Rattle.host_interface.specs.declared.fault.OpenFault.TheVariants as opens

-- why a document isn't opened whose journal isn't taken for the one that was sealed, by how many messages were found and sealed
abbrev pub open_fault : ℕ → ℕ → SealFault → OpenFault
open_fault found sealed seals.Fewer = opens.Fewer found sealed
open_fault found sealed seals.Others = opens.Others found sealed
open_fault found sealed seals.NoMemory = opens.NoMemory

-- why one isn't opened that has saved these messages, by its seal
abbrev pub seal_open_fault : Seal → List Message → Option OpenFault
seal_open_fault seal journal = option_map (open_fault (length journal) seal.items) (seal_fault seal journal)
