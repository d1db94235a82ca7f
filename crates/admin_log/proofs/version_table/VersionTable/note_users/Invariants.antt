use Rattle.std.proofs.Common.{take}
use Rattle.policy_book.specs.Lists.{has_number}
use Rattle.admin_log.specs.VersionTable.{NotesMore}
use Rattle.admin_log.proofs.version_table.VersionTable.note_users.Given as goal

abbrev pub invariant-loop-user : goal.invariant-loop-user
invariant-loop-user l = NotesMore l.fn.self l.self l.version (has_number (take l.user-index l.users))
