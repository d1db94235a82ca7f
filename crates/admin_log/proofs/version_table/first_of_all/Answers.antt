use Rattle.admin_log.proofs.VersionTables.{none_before_first}
use Rattle.admin_log.proofs.version_table.first_of_all.Goals as goal

pub returns-in-Some-clause-none : goal.returns-in-Some-clause-none
returns-in-Some-clause-none c = λ v low high.
    none_before_first c.args.versions.now c.args.from c.args.end c.range.result (c.range.ensures.in_range tt) c.in-Some.version.now _ c.in-Some.ensures.steps v low high
