use Rattle.std.proofs.Common.{◌≡◌, take}
use Rattle.std.specs.Prelude.{flat_map}
use Rattle.form_link.specs.Lines.{fault_line}
use Rattle.form_link.proofs.fault_telling.fault_lines.Given as goal

abbrev pub invariant-loop-fault : goal.invariant-loop-fault
invariant-loop-fault l = l.lines.items ≡ flat_map fault_line (take l.fault-index l.faults)
