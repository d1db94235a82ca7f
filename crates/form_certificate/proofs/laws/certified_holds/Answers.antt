use Rattle.form_certificate.proofs.AuditAnswers.{answer_of_certified}
use Rattle.form_certificate.proofs.laws.certified_holds.Goals as goal

pub returns : goal.returns
returns c = answer_of_certified
