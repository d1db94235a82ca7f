use Rattle.std.proofs.Common.{◌≡◌, ◌++◌, drop}
use Rattle.form_certificate.specs.Certify.{journal_bytes}
use Rattle.form_certificate.proofs.certifying.put_journal.Given as goal

abbrev pub invariant-loop-item : goal.invariant-loop-item
invariant-loop-item l = l.out.items ++ journal_bytes (drop l.item-index l.journal) ≡ l.fn.out.items ++ journal_bytes l.journal
