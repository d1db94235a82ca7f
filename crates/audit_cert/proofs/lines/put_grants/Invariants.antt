use Rattle.std.proofs.Common.{◌≡◌, ◌++◌, drop, map}
use Rattle.std.specs.List.{concat}
use Rattle.audit_cert.specs.Certificate.{grant_line}
use Rattle.audit_cert.proofs.lines.put_grants.Given as goal

abbrev pub invariant-loop-grant : goal.invariant-loop-grant
invariant-loop-grant l = l.out.items ++ concat (map grant_line (drop l.grant-index l.grants)) ≡ l.fn.out.items ++ concat (map grant_line l.grants)
