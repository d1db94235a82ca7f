use Rattle.std.proofs.Common.{◌≡◌, ◌+◌, ◌≤◌, drop}
use Rattle.audit_cert.specs.Audit.{differing_line}
use Rattle.audit_cert.proofs.auditing.differing_line.Given as goal

abbrev pub invariant-loop-byte : goal.invariant-loop-byte
invariant-loop-byte l = record {
  few : l.line ≤ l.byte-index + 1;
  left : differing_line l.due l.told + 1 ≡ l.line + differing_line (drop l.byte-index l.due) l.rest;
}
