use Rattle.std.proofs.Common.{arith}
use Rattle.std.proofs.lemmas.Bool.Decides.{nat_tests}
use Rattle.std.proofs.lemmas.Result.{err_from_is_err_and}
use Rattle.editor_lib.proofs.RowLemmas.{no_row}
use Rattle.editor_lib.proofs.journal.messages_of.Goals as goal

pub returns-in_err-message-clause-bad : goal.returns-in_err-message-clause-bad
returns-in_err-message-clause-bad c = λ is messages.
    let p = err_from_is_err_and c.from_residual.result c.from_residual.ensures.1 in
    no_row c.args.bytes.now c.messages.rest.now c.messages.messages.items messages c.messages.invariant (λ none. grind (arith, nat_tests)) (c.in_err-message.ensures.bad (cc))
