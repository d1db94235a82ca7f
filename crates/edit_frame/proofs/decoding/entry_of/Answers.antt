use Rattle.std.proofs.Common.{rules}
use Rattle.edit_frame.proofs.Memory.{lists_after}
use Rattle.edit_frame.proofs.decoding.entry_of.Goals as goal

pub returns-in_err-op-clause-memory : goal.returns-in_err-op-clause-memory
returns-in_err-op-clause-memory c = λ wants.
    lists_after c.args.rest.now.now c.short_of.new.rest.now c.in_ok-version.version c.in_ok-version.ensures (c.in_err-op.ensures.memory (search rules))
