use Rattle.std.proofs.Common.{◌<◌, ◌^◌, length, arith}
use Rattle.tomb_seq.proofs.SumLemmas.{so_far_none, so_far_more, so_far_fits, so_far_all}
use Rattle.tomb_seq.proofs.sums.regroup.Goals as goal

pub loop-sum-init : goal.loop-sum-init
loop-sum-init c = so_far_none c.args.parts.now c.args.groups.now

pub sum_of-requires : goal.sum_of-requires
sum_of-requires c = so_far_fits c.args.parts.now _ c.loop-sum.groups c.loop-sum.sum-index c.head_len-size.result (2 ^ 64) c.loop-sum.invariant c.requires.fits

pub loop-sum-preserved : goal.loop-sum-preserved
loop-sum-preserved c =
    let below : c.loop-sum.sum-index < length c.loop-sum.groups = omega arith in
    so_far_more c.args.parts.now _ c.loop-sum.groups c.loop-sum.sum-index c.head_len-size.result c.sum_of.result c.loop-sum.invariant below c.head_len-size.ensures c.sum_of.ensures

pub returns-clause-grouped : goal.returns-clause-grouped
returns-clause-grouped c = so_far_all c.args.parts.now _ c.loop-sum.groups c.loop-sum.sum-index c.loop-sum.invariant (omega arith) (omega arith)
