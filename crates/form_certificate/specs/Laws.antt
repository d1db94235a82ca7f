-- The laws of certificates that are read again.
use Rattle.std.specs.Prelude.{◌≡◌, ℕ, List, Result, Ok, Err, length}
use Rattle.edit_message.specs.declared.message.Message.{Message}
use Rattle.edit_message.specs.Message.{requests_of, entries_of}
use Rattle.line_engine.specs.Input.{counted_bytes}
use Rattle.edit_frame.specs.Spells.{IsBytes}
use Rattle.peer_tables.specs.Journal.{IsWithin}
use Rattle.audit_cert.specs.declared.fault.AuditFault.{AuditFault}
use Rattle.audit_cert.specs.declared.fault.AuditFault.TheVariants.{BadFrame, NotJournal, Differs, NoMemory}
use Rattle.audit_cert.specs.Audit.{IsCertified, IsBroken, IsNoJournal, DiffersAt}
use Rattle.form_certificate.specs.Certify.{certified_bytes}
use Rattle.form_certificate.specs.Answer.{audit_answer}

-- what an answer says of bytes; want of memory is none
abbrev pub IsRightAnswer : List ℕ → Result (ℕ × ℕ) AuditFault → Type 0
IsRightAnswer bytes (Ok counts) = IsCertified bytes counts
IsRightAnswer bytes (Err (BadFrame fault)) = IsBroken bytes fault
IsRightAnswer bytes (Err (NotJournal k)) = IsNoJournal bytes k
IsRightAnswer bytes (Err (Differs k)) = DiffersAt bytes k
IsRightAnswer bytes (Err NoMemory) = ⊥

-- what is answered of an input, as far as it counts, is so
abbrev pub IsRightlyAnswered : List ℕ → Type 0
IsRightlyAnswered input = IsBytes (counted_bytes input) → IsRightAnswer (counted_bytes input) (audit_answer (counted_bytes input))

-- what is answered of bytes is so
abbrev pub RightAnswerLaw : Type 0
RightAnswerLaw = (bytes : List ℕ) → IsBytes bytes → IsRightAnswer bytes (audit_answer bytes)

-- of what is written of a journal within its limits it is answered that its certificate holds
abbrev pub CertifiedLaw : Type 0
CertifiedLaw = (J : List Message) → IsWithin J → audit_answer (certified_bytes J) ≡ Ok (length (requests_of J), length (entries_of J))
