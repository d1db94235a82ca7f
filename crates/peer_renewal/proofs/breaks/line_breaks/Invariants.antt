use Rattle.std.proofs.Common.{◌≡◌, vec_len}
use Rattle.peer_renewal.proofs.breaks.line_breaks.Given as goal

abbrev pub invariant-loop-byte : goal.invariant-loop-byte
invariant-loop-byte l = vec_len l.breaks ≡ l.byte-index
