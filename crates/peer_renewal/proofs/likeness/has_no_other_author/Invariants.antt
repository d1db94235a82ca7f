use Rattle.std.proofs.Common.{◌≡◌, Bool, drop}
use Rattle.std.specs.List.{list_all}
use Rattle.edit_message.specs.declared.message.Message.{Message}
use Rattle.edit_message.specs.Message.{key_of}
use Rattle.peer_renewal.specs.Renewal.{is_administrators}
use Rattle.peer_renewal.proofs.likeness.has_no_other_author.Given as goal

abbrev pub invariant-loop-place : goal.invariant-loop-place
invariant-loop-place l =
    let test : Message → Bool = λ m. is_administrators (key_of m) in
    list_all test l.peer.journal ≡ list_all test (drop l.place l.peer.journal)
