use Rattle.std.proofs.Common.{ap, ◌∙◌}
use Rattle.edit_frame.specs.Reading.{frame_at}
use Rattle.edit_frame.proofs.Streams.{nothing_waits}
use Rattle.edit_frame.proofs.splitter.Splitter.new.Goals as goal

pub returns-clause-waiting : goal.returns-clause-waiting
returns-clause-waiting c = ap frame_at c.new.ensures.items ∙ nothing_waits
