-- The sites for the places in front of this one.
use Rattle.std.proofs.Common.{◌≡◌, take}
use Rattle.std.specs.List.{flat_map}
use Rattle.edit_frame.specs.Spelling.{short_bytes}
use Rattle.peer_core.specs.Peer.{shown_elements}
use Rattle.editor_lib.specs.Writers.{writer_of}
use Rattle.editor_lib.proofs.shown.writers.Given as goal

abbrev pub invariant-loop-place : goal.invariant-loop-place
invariant-loop-place l = l.sites.items ≡ flat_map (λ element. short_bytes (writer_of l.peer element)) (take l.place (shown_elements l.peer))
