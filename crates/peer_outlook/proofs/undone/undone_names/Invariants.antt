use Rattle.std.proofs.Common.{◌≡◌, take}
use Rattle.std.specs.Prelude.{filter_map}
use Rattle.edit_message.specs.Message.{key_of}
use Rattle.peer_outlook.specs.Outlook.{undone_by_key}
use Rattle.peer_outlook.proofs.undone.undone_names.Given as goal

abbrev pub invariant-loop-i : goal.invariant-loop-i
invariant-loop-i l = l.names.items ≡ filter_map (λ m. undone_by_key l.before l.after (key_of m)) (take l.i l.before.journal)
