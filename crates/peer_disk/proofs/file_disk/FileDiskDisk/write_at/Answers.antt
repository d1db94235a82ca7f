use Rattle.std.proofs.Common.{length}
use Rattle.peer_disk.proofs.Tearing.{torn_same}
use Rattle.peer_disk.proofs.file_disk.FileDiskDisk.write_at.Goals as goal

pub returns-clause-crash : goal.returns-clause-crash
returns-clause-crash c left now = (left, tt, torn_same c.args.from (length c.args.bytes.now) left)
