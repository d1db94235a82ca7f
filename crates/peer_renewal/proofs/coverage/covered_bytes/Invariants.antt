use Rattle.std.proofs.Common.{◌≡◌, ◌++◌, map, drop}
use Rattle.coop_request.specs.History.{text_order}
use Rattle.auth_match.specs.Coverage.{covers}
use Rattle.peer_core.specs.Peer.{history, text, shown_elements}
use Rattle.peer_renewal.specs.Coverage.{each_byte, covered_bytes}
use Rattle.peer_renewal.proofs.coverage.covered_bytes.Given as goal

abbrev pub invariant-loop-at : goal.invariant-loop-at
invariant-loop-at l =
    l.bits.items ++ map (covers (text_order (history l.peer)) l.extent) (each_byte (drop l.at (shown_elements l.peer)) (drop l.at (text l.peer)))
    ≡ covered_bytes l.peer l.extent
