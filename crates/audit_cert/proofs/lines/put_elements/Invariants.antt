use Rattle.std.proofs.Common.{◌≡◌, ◌++◌, drop, map}
use Rattle.std.specs.List.{concat}
use Rattle.audit_cert.specs.Certificate.{element_line}
use Rattle.audit_cert.proofs.lines.put_elements.Given as goal

abbrev pub invariant-loop-name : goal.invariant-loop-name
invariant-loop-name l = l.out.items ++ concat (map element_line (drop l.name-index l.names)) ≡ l.fn.out.items ++ concat (map element_line l.names)
