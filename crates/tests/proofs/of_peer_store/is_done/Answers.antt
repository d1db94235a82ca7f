use Rattle.std.proofs.Common.{Some}
use Rattle.peer_disk.specs.History.{bytes_after_all}
use Rattle.tests.proofs.of_peer_store.is_done.Goals as goal

pub saves_two-done-requires : goal.saves_two-done-requires
saves_two-done-requires c = c.inserts_two.ensures (Some (bytes_after_all c.create.new.disk.first c.create.new.disk.history)) c.in-Ok.ensures.gate
