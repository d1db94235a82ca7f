use Rattle.std.proofs.Common.{refl}
use Rattle.std.specs.Fmt.{digits}
use Rattle.audit_cert.proofs.laws.sample_certificate.Goals as goal

pub returns : goal.returns
unfolding digits
returns c = refl
