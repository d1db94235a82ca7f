use Rattle.std.proofs.Common.{refl}
use Rattle.screen_read.proofs.Boards.{sees}
use Rattle.screen_read.proofs.reader.look.Goals as goal

pub enter_as-requires : goal.enter_as-requires
enter_as-requires c x = sees _ _ x x refl
