use Rattle.std.proofs.Common.{ap, ◌∙◌}
use Rattle.screen_read.specs.Ends.{BoardPages}
use Rattle.screen_read.proofs.Boards.{shows}
use Rattle.screen_read.proofs.writer.show_next.Goals as goal

pub publish_as-shower-requires : goal.publish_as-shower-requires
publish_as-shower-requires g c next is = shows _ _ _ _ _ _ _ is c.in-Ok.ensures.pending (rw c.in-Ok.ensures.desk c.requires)
