use Rattle.std.proofs.Common.{◌≡◌, ◌++◌, drop}
use Rattle.std.specs.Prelude.{flat_map}
use Rattle.report_text.specs.Closing.{waits_line}
use Rattle.report_text.proofs.closing.put_each.Given as goal

abbrev pub invariant-loop-i : goal.invariant-loop-i
invariant-loop-i l = l.lines.items ++ flat_map (waits_line l.peer) (drop l.i l.peer.held) ≡ l.fn.lines.items ++ flat_map (waits_line l.peer) l.peer.held
