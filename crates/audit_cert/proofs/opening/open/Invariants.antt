use Rattle.std.proofs.Common.{length}
use Rattle.audit_cert.specs.Audit.{StartWith}
use Rattle.audit_cert.proofs.opening.open.Given as goal

abbrev pub invariant-frames : goal.invariant-frames
invariant-frames l = StartWith l.bytes l.frames.items l.rest

abbrev pub decreases-frames : goal.decreases-frames
decreases-frames l = length l.rest
