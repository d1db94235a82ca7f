use Rattle.std.proofs.Common.{rules}
use Rattle.edit_frame.proofs.Memory.{auth_lists, object_lists}
use Rattle.edit_frame.proofs.reading.operation_of.Goals as goal

pub returns-in_err-extent_of-in-3-clause-memory : goal.returns-in_err-extent_of-in-3-clause-memory
returns-in_err-extent_of-in-3-clause-memory c = λ wants.
    object_lists c.args.rest.now.now c.byte_of.new.rest.now c.short_of-in-3.new.rest.now c.in_ok-byte_of.field-0 c.in_ok-short_of-in-3.field-0 c.in_ok-byte_of.ensures c.in-3.is c.in_ok-short_of-in-3.ensures
    (c.in_err-extent_of-in-3.ensures.memory (search rules))

pub returns-in_err-auth_of-in-5-clause-memory : goal.returns-in_err-auth_of-in-5-clause-memory
returns-in_err-auth_of-in-5-clause-memory c = λ wants. auth_lists c.args.rest.now.now c.byte_of.new.rest.now c.in_ok-byte_of.field-0 c.in_ok-byte_of.ensures c.in-5.is
