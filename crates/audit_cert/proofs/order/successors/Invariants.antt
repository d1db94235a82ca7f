use Rattle.std.proofs.Common.{◌-◌, length}
use Rattle.audit_cert.specs.Anchors.{name_under}
use Rattle.audit_cert.proofs.Followings.{IsComing}
use Rattle.audit_cert.proofs.order.successors.Given as goal

abbrev pub invariant-names : goal.invariant-names
invariant-names l = IsComing l.anchors (length l.anchors - l.counter) l.coming (name_under l.next)
