use Rattle.std.proofs.Common.{ap, ◌∙◌}
use Rattle.edit_frame.specs.Splitter.{Splitter}
use Rattle.edit_frame.proofs.Streams.{none_follows, fault_follows}
use Rattle.edit_frame.proofs.splitter.Splitter.first_lent.Goals as goal

pub returns-in-Ok-None-clause-follows : goal.returns-in-Ok-None-clause-follows
returns-in-Ok-None-clause-follows c = none_follows c.as_slice.result.now c.in-Ok-None.field-0 c.args.self.now c.in-Ok-None.field-0-is c.in-Ok-None.ensures (c.as_slice.ensures ∙ ap (λ (s : Splitter). s.rest) c.self.view_is)

pub returns-in-Err-Fault-clause-follows : goal.returns-in-Err-Fault-clause-follows
returns-in-Err-Fault-clause-follows c = fault_follows c.as_slice.result.now c.in-Err-Fault.field-0 c.in-Err-Fault.kind c.args.self.now c.in-Err-Fault.field-0-is c.in-Err-Fault.ensures (c.as_slice.ensures ∙ ap (λ (s : Splitter). s.rest) c.self.view_is)
