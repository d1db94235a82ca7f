use Rattle.std.proofs.Common.{take}
use Rattle.audit_cert.specs.Basis.{IsBasisOf}
use Rattle.audit_cert.proofs.basis.Basis.take_items.Given as goal

abbrev pub invariant-loop-place : goal.invariant-loop-place
invariant-loop-place g l = IsBasisOf (take l.place l.journal) l.self.log (g.E.Elements.names l.self.elements) l.self.ids
