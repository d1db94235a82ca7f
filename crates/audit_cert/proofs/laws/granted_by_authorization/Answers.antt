use Rattle.audit_cert.proofs.GrantingAuths.{granting_law}
use Rattle.audit_cert.proofs.laws.granted_by_authorization.Goals as goal

pub returns : goal.returns
returns c = granting_law
