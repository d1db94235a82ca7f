use Rattle.std.proofs.Common.{ap, Some}
use Rattle.peer_disk.specs.declared.mem_disk.DiskCall.TheVariants.{Synced}
use Rattle.peer_disk.proofs.Histories.{counted, later_than, has_after, leaves_then, time_then, sync_keeps}
use Rattle.peer_disk.proofs.mem_disk.MemDiskDisk.sync.Goals as goal

pub returns-then-fails_now-clause-cause : goal.returns-then-fails_now-clause-cause
returns-then-fails_now-clause-cause c = counted c.args.self.now c.fails_now.new.self c.fails_now.result c.fails_now.ensures.later c.fails_now.ensures.after c.if-fails_now.true

pub returns-in-Ok-clause-durable : goal.returns-in-Ok-clause-durable
returns-in-Ok-clause-durable c left now =
    let m = c.args.self.now in
    leaves_then m c.settle.new.self Synced left (later_than m c.fails_now.new.self c.settle.new.self Synced c.fails_now.result c.fails_now.ensures.after c.if-fails_now.false c.in-Ok.ensures.ok) now

pub returns-in-Ok-clause-seen : goal.returns-in-Ok-clause-seen
returns-in-Ok-clause-seen c =
    let m = c.args.self.now in
    ap Some (has_after m c.settle.new.self Synced (later_than m c.fails_now.new.self c.settle.new.self Synced c.fails_now.result c.fails_now.ensures.after c.if-fails_now.false c.in-Ok.ensures.ok))

pub returns-in-Ok-clause-crash : goal.returns-in-Ok-clause-crash
returns-in-Ok-clause-crash c left now =
    let m = c.args.self.now in
    sync_keeps m c.settle.new.self left (later_than m c.fails_now.new.self c.settle.new.self Synced c.fails_now.result c.fails_now.ensures.after c.if-fails_now.false c.in-Ok.ensures.ok) now

pub returns-in-Ok-clause-time : goal.returns-in-Ok-clause-time
returns-in-Ok-clause-time c =
    let m = c.args.self.now in
    time_then m c.settle.new.self Synced (later_than m c.fails_now.new.self c.settle.new.self Synced c.fails_now.result c.fails_now.ensures.after c.if-fails_now.false c.in-Ok.ensures.ok)
