use Rattle.std.proofs.Common.{sym, subst}
use Rattle.std.proofs.lemmas.Result.{err_from_is_err_and}
use Rattle.editor_lib.specs.Journal.{SpellsRow}
use Rattle.editor_lib.proofs.RowLemmas.{bad_peer}
use Rattle.editor_lib.proofs.desk.Desk.restore.Goals as goal

pub returns-in_err-restore-clause-bad : goal.returns-in_err-restore-clause-bad
returns-in_err-restore-clause-bad c = λ is journal.
    let p = err_from_is_err_and c.from_residual-in_err-restore.result c.from_residual-in_err-restore.ensures.1 in
    bad_peer c.args.frames.now c.deref.result.now c.in_err-restore.field-0.0 (subst (SpellsRow c.args.frames.now) (sym c.deref.ensures.value) c.in_ok-messages.ensures.row)
    c.in_err-restore.ensures.fail (cc) journal
