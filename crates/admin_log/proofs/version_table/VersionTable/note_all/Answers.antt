use Rattle.std.proofs.Common.{refl}
use Rattle.admin_log.proofs.VersionTables.{one_of_all}
use Rattle.admin_log.proofs.version_table.VersionTable.note_all.Goals as goal

pub returns-clause-ok : goal.returns-clause-ok
returns-clause-ok c = one_of_all c.args.self.now _ c.args.version c.in_ok-insert.ensures.updates.0 refl
