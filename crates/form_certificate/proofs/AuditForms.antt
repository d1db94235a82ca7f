-- What is said of a journal and its certificate.
use Rattle.std.proofs.Common.{◌≡◌, ℕ, true, List, [], ◌++◌, Result, Ok, Err, sym, ap, ◌∙◌}
use Rattle.std.specs.Prelude.{IfOk}
use Rattle.std.proofs.lemmas.Bool.{true≢false}
use Rattle.line_engine.specs.declared.status.Status.{Status}
use Rattle.line_engine.specs.declared.status.Status.TheVariants as statuses
use Rattle.line_engine.specs.Output.{Output, is_whole}
use Rattle.line_engine.proofs.LineRuns.{written_is}
use Rattle.audit_cert.specs.declared.fault.AuditFault.{AuditFault}
use Rattle.audit_cert.specs.declared.fault.AuditFault.TheVariants as faults
use Rattle.audit_cert.specs.Audit.{IsCertified, IsAuditFault}
use Rattle.form_certificate.specs.Answer.{audit_answer}
use Rattle.form_certificate.specs.Audit.{holds_line, told_of}
use Rattle.form_certificate.proofs.AuditAnswers.{answer_certified, answer_fault}

pub told_holds : (bytes : List ℕ) (counts : ℕ × ℕ) (before now : List ℕ) → IsCertified bytes counts → now ≡ before ++ holds_line counts → before ≡ []
    → told_of (audit_answer bytes) ≡ record { written = now; status = statuses.Done }
told_holds bytes counts before now certified appended none =
    written_is _ (holds_line counts) before now statuses.Done (ap told_of (answer_certified bytes counts certified)) appended none

pub told_fault : {E : Type 0} (r : Result Status E) (bytes : List ℕ) (fault : AuditFault) (now : List ℕ) → IsAuditFault bytes fault
    → IfOk r (λ status. told_of (Err fault) ≡ record { written = now; status = status }) → IfOk r (λ status. is_whole status ≡ true)
    → IfOk r (λ status. told_of (audit_answer bytes) ≡ record { written = now; status = status })
told_fault (Err e) bytes fault now at told whole = tt
told_fault (Ok status) bytes (faults.BadFrame f) now at told whole = ap told_of (answer_fault bytes (faults.BadFrame f) at (λ e. cc)) ∙ told
told_fault (Ok status) bytes (faults.NotJournal k) now at told whole = ap told_of (answer_fault bytes (faults.NotJournal k) at (λ e. cc)) ∙ told
told_fault (Ok status) bytes (faults.Differs k) now at told whole = ap told_of (answer_fault bytes (faults.Differs k) at (λ e. cc)) ∙ told
told_fault (Ok status) bytes faults.NoMemory now at told whole =
    let same : statuses.NoMemory ≡ status = ap (λ (o : Output). o.status) told in
    let is : is_whole statuses.NoMemory ≡ true = ap is_whole same ∙ whole in
    absurd (true≢false (sym is))
