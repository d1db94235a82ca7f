use Rattle.std.proofs.Common.{length}
use Rattle.editor_lib.proofs.RowLemmas.{StartsRow}
use Rattle.editor_lib.proofs.journal.messages_of.Given as goal

abbrev pub invariant-messages : goal.invariant-messages
invariant-messages l = StartsRow l.bytes l.messages.items l.rest

abbrev pub decreases-messages : goal.decreases-messages
decreases-messages l = length l.rest
