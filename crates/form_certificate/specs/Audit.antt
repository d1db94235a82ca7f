-- What is written of a journal and its certificate.
use Rattle.std.specs.Prelude.{ℕ, Bool, List, [], ◌∷◌, Option, Some, Result, Ok, Err, decimal, codes, if◌then◌else◌}
use Rattle.line_engine.specs.declared.status.Status.TheVariants as statuses
use Rattle.line_engine.specs.Output.{Output, too_long}
use Rattle.line_spelling.specs.Line.{line_of}
use Rattle.line_engine.specs.Input.{is_cut, counted_bytes}
use Rattle.line_spelling.specs.Values.{spaced}
use Rattle.report_text.specs.Frame.{frame_fault_line}
use Rattle.audit_cert.specs.declared.fault.AuditFault.{AuditFault}
use Rattle.audit_cert.specs.declared.fault.AuditFault.TheVariants as faults
use Rattle.form_certificate.specs.Answer.{audit_answer}

-- the certificate holds, of so many requests and entries
abbrev pub holds_line : ℕ × ℕ → List ℕ
holds_line counts = line_of (spaced (codes "certificate" ∷ codes "holds" ∷ decimal counts.0 ∷ decimal counts.1 ∷ []))

-- the frames are no journal, from frame k on
abbrev pub no_journal_line : ℕ → List ℕ
no_journal_line k = line_of (spaced (codes "not" ∷ codes "a" ∷ codes "journal" ∷ decimal k ∷ []))

-- the certificate is another, from line k on
abbrev pub differs_line : ℕ → List ℕ
differs_line k = line_of (spaced (codes "certificate" ∷ codes "line" ∷ decimal k ∷ codes "differs" ∷ []))

-- the line of an answer, and its status; want of memory is answered of no bytes
abbrev pub told_of : Result (ℕ × ℕ) AuditFault → Output
told_of (Ok counts) = record { written = holds_line counts; status = statuses.Done }
told_of (Err (faults.BadFrame fault)) = record { written = frame_fault_line fault; status = statuses.BadInput }
told_of (Err (faults.NotJournal k)) = record { written = no_journal_line k; status = statuses.NotShown }
told_of (Err (faults.Differs k)) = record { written = differs_line k; status = statuses.NotShown }
told_of (Err faults.NoMemory) = record { written = []; status = statuses.NoMemory }

-- what is written at the end of an input, or of the part of it that counts
abbrev pub audited : Bool → List ℕ → Output
audited cut bytes = if cut then too_long else told_of (audit_answer bytes)

-- what `audit` writes of an input, and its status
abbrev pub audit_output : List ℕ → Output
audit_output input = audited (is_cut input) (counted_bytes input)

-- what it writes of bytes after which reading fails: nothing
abbrev pub audit_part : List ℕ → Option (List ℕ)
audit_part bytes = Some []
