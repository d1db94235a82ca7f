use Rattle.edit_frame.proofs.Memory.{elements_by}
use Rattle.edit_frame.proofs.reading.extent_of.Goals as goal

pub returns-in_err-names_of-in-2-clause-memory : goal.returns-in_err-names_of-in-2-clause-memory
returns-in_err-names_of-in-2-clause-memory c = λ wants. elements_by c.args.rest.now.now c.byte_of.new.rest.now c.in_ok-byte_of.field-0 c.in_ok-byte_of.ensures c.in-2.is
