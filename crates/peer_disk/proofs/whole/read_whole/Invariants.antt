use Rattle.std.proofs.Common.{◌≡◌, ℕ, ◌-◌, ◌^◌, ◌<◌, ◌≤◌, List, length}
use Rattle.peer_disk.specs.Disk.{LeavesOnly}
use Rattle.peer_disk.proofs.Chunks.{BeginsSo}
use Rattle.peer_disk.proofs.whole.read_whole.Given as goal

abbrev pub invariant-chunks : goal.invariant-chunks
invariant-chunks g l = record {
  begun : BeginsSo (g.D.Disk.seen l.fn.disk) l.bytes.items;
  room : 0 < length l.chunk.items;
  same : g.D.Disk.seen l.disk ≡ g.D.Disk.seen l.fn.disk;
  crash : (left : List ℕ) → g.D.Disk.may_leave l.disk left → g.D.Disk.may_leave l.fn.disk left;
  moments : LeavesOnly g.D.Disk.moment g.D.Disk.left_since l.fn.disk l.disk (g.D.Disk.may_leave l.fn.disk);
  faults : g.D.Disk.faults l.fn.disk ≤ g.D.Disk.faults l.disk;
}

abbrev pub decreases-chunks : goal.decreases-chunks
decreases-chunks g l = 2 ^ 63 - length l.bytes.items
