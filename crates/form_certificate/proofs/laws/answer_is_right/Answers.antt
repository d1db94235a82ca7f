use Rattle.form_certificate.proofs.AuditAnswers.{answer_right}
use Rattle.form_certificate.proofs.laws.answer_is_right.Goals as goal

pub returns : goal.returns
returns c = answer_right
