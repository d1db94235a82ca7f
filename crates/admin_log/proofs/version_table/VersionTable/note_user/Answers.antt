use Rattle.std.proofs.Common.{refl}
use Rattle.admin_log.proofs.VersionTables.{one_of_user}
use Rattle.admin_log.proofs.version_table.VersionTable.note_user.Goals as goal

pub returns-clause-ok : goal.returns-clause-ok
returns-clause-ok c = one_of_user c.args.self.now _ c.args.version c.args.user c.in_ok-insert.ensures.updates.0 refl
