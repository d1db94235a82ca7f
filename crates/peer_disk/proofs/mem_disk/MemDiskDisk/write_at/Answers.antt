use Rattle.std.proofs.Common.{◌∙◌}
use Rattle.peer_disk.specs.declared.mem_disk.DiskCall.TheVariants.{Wrote}
use Rattle.peer_disk.specs.Disk.{overwritten}
use Rattle.peer_disk.specs.History.{bytes_after_all}
use Rattle.peer_disk.proofs.Histories.{counted, later_than, has_after, time_then, wrote_follows}
use Rattle.peer_disk.proofs.mem_disk.MemDiskDisk.write_at.Goals as goal

pub returns-then-fails_now-clause-cause : goal.returns-then-fails_now-clause-cause
returns-then-fails_now-clause-cause c = counted c.args.self.now c.fails_now.new.self c.fails_now.result c.fails_now.ensures.later c.fails_now.ensures.after c.if-fails_now.true

pub returns-in-Ok-clause-written : goal.returns-in-Ok-clause-written
returns-in-Ok-clause-written c =
    let m = c.args.self.now in
    let ok = c.in-Ok.ensures.ok in
    let later = later_than m c.fails_now.new.self c.put.new.self (Wrote ok.0) c.fails_now.result c.fails_now.ensures.after c.if-fails_now.false ok.3 in
    has_after m c.put.new.self (Wrote ok.0) later ∙ (λ i. overwritten (bytes_after_all m.first m.history) (ok.1 i) (ok.2 i))

pub returns-in-Ok-clause-crash : goal.returns-in-Ok-clause-crash
returns-in-Ok-clause-crash c =
    let m = c.args.self.now in
    let ok = c.in-Ok.ensures.ok in
    let later = later_than m c.fails_now.new.self c.put.new.self (Wrote ok.0) c.fails_now.result c.fails_now.ensures.after c.if-fails_now.false ok.3 in
    wrote_follows m c.put.new.self ok.0 c.args.from c.args.bytes.now later ok.1 ok.2

pub returns-in-Ok-clause-time : goal.returns-in-Ok-clause-time
returns-in-Ok-clause-time c =
    let m = c.args.self.now in
    let ok = c.in-Ok.ensures.ok in
    time_then m c.put.new.self (Wrote ok.0) (later_than m c.fails_now.new.self c.put.new.self (Wrote ok.0) c.fails_now.result c.fails_now.ensures.after c.if-fails_now.false ok.3)
