use Rattle.peer_disk.proofs.Histories.{counted}
use Rattle.peer_disk.proofs.mem_disk.MemDiskDisk.len.Goals as goal

pub returns-then-fails_now-clause-cause : goal.returns-then-fails_now-clause-cause
returns-then-fails_now-clause-cause c = counted c.args.self.now c.fails_now.new.self c.fails_now.result c.fails_now.ensures.later c.fails_now.ensures.after c.if-fails_now.true
