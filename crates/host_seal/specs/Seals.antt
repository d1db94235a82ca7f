-- What a seal says of a journal.
use Rattle.std.specs.Prelude.{◌≡◌, ℕ, not, List, [], ◌∷◌, ◌++◌, length, take, Option, bytes_eq, nat_lt}
use Rattle.std.specs.Int.{w32, to_be_bytes}
use Rattle.sha2.specs.Sha256.{sha256}
use Rattle.element_name.specs.Cases.{when, first_of}
use Rattle.edit_message.specs.declared.message.Message.{Message}
use Rattle.host_seal.specs.declared.seal.Seal.{Seal}
use Rattle.host_seal.specs.declared.seal.SealFault.{SealFault}
use Rattle.host_seal.specs.declared.seal.SealFault.TheVariants.{Fewer, Others}
use Rattle.host_seal.specs.Frames.{item_frames}

-- the seal of messages: their number, and the digest of their frames
abbrev pub seal_of : List Message → Seal
seal_of messages = record { items = length messages; digest = sha256 (item_frames messages) }

-- messages are the first of a journal
abbrev pub IsBeginning : List Message → List Message → Type 0
IsBeginning messages journal = messages ≡ take (length messages) journal

-- a seal is that of a journal's first messages, as many as it says
abbrev pub IsSealed : Seal → List Message → Type 0
IsSealed seal journal = seal ≡ seal_of (take seal.items journal)

-- why a journal doesn't begin with what was sealed, the first of these
abbrev pub seal_fault : Seal → List Message → Option SealFault
seal_fault seal journal = first_of (
    when (nat_lt (length journal) seal.items) Fewer
    ∷ when (not (bytes_eq (sha256 (item_frames (take seal.items journal))) seal.digest)) Others
    ∷ [])

-- the bytes of a seal: the number of messages, highest byte first, and the digest
abbrev pub seal_bytes : Seal → List ℕ
seal_bytes seal = to_be_bytes w32 seal.items ++ seal.digest
