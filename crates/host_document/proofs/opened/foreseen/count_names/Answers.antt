use Rattle.std.proofs.Common.{arith, get_or}
use Rattle.std.proofs.lemmas.Grind.{common_steps}
use Rattle.std.proofs.lemmas.List.Sums.{count_by_more_yes, count_by_more_no, count_by-le-length}
use Rattle.element_name.specs.Name.{start}
use Rattle.host_document.proofs.opened.foreseen.count_names.Goals as goal

pub overflow_add-counts : goal.overflow_add-counts
overflow_add-counts c = grind (arith, common_steps, count_by-le-length, c.loop-name.invariant.number (get_or c.args.names.now c.loop-name.name-index start).site)

pub loop-name-preserved : goal.loop-name-preserved
loop-name-preserved c = record {
  number = λ user. grind (arith, common_steps, count_by_more_yes, count_by_more_no, c.loop-name.invariant.number user);
  some = λ user. grind (arith, common_steps, c.loop-name.invariant.some user);
}
