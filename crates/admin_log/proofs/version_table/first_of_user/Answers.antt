use Rattle.std.proofs.Common.{arith}
use Rattle.admin_log.proofs.VersionTables.{none_of_user, pair_first_within, none_before_pair}
use Rattle.admin_log.proofs.version_table.first_of_user.Goals as goal

pub returns-in-Some-clause-from : goal.returns-in-Some-clause-from
returns-in-Some-clause-from c =
    (pair_first_within c.args.versions.now c.args.user c.args.from c.args.end c.range.result (c.range.ensures.in_range tt) c.in-Some.noted.now _ c.in-Some.ensures.steps).0

pub returns-in-Some-clause-end : goal.returns-in-Some-clause-end
returns-in-Some-clause-end c =
    let high = (pair_first_within c.args.versions.now c.args.user c.args.from c.args.end c.range.result (c.range.ensures.in_range tt) c.in-Some.noted.now _ c.in-Some.ensures.steps).1 in
    omega (arith, high)

pub returns-in-Some-clause-none : goal.returns-in-Some-clause-none
returns-in-Some-clause-none c = λ v low high.
    none_before_pair c.args.versions.now c.args.user c.args.from c.args.end c.range.result (c.range.ensures.in_range tt) c.in-Some.noted.now _ c.in-Some.ensures.steps v low high

pub returns-in-None-clause-none : goal.returns-in-None-clause-none
returns-in-None-clause-none c = λ v low high.
    none_of_user c.args.versions.now c.args.user c.args.from c.args.end c.range.result (c.range.ensures.in_range tt) c.in-None.ensures.steps.0 v low high
