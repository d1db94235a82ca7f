-- What a seal is good for.
use Rattle.std.specs.Prelude.{◌≡◌, List, ◌++◌, None}
use Rattle.edit_message.specs.declared.message.Message.{Message}
use Rattle.host_seal.specs.declared.seal.Seal.{Seal}
use Rattle.host_seal.specs.Seals.{seal_of, seal_fault, IsSealed}

-- no fault is found in a journal just where the seal is that of its first messages
abbrev pub FaultLaw : Type 0
FaultLaw = (seal : Seal) (journal : List Message)
    → (seal_fault seal journal ≡ None → IsSealed seal journal) × (IsSealed seal journal → seal_fault seal journal ≡ None)

-- what was sealed has no fault by its seal, whatever comes behind it
abbrev pub GrowthLaw : Type 0
GrowthLaw = (messages more : List Message) → seal_fault (seal_of messages) (messages ++ more) ≡ None
