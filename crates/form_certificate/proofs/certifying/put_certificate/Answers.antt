use Rattle.peer_core.proofs.RestoreLemmas.{no_fail_law}
use Rattle.form_certificate.proofs.certifying.put_certificate.Goals as goal

pub unreachable-requires : goal.unreachable-requires
unreachable-requires c =
    let breaks = rw c.in-Err-NotJournal.field-0-is at c.in-Err-NotJournal.ensures.fail in
    no_fail_law c.args.journal.now breaks.0 c.requires breaks.2
