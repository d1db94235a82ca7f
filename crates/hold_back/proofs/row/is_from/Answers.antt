use Rattle.std.proofs.Common.{arith}
use Rattle.std.proofs.lemmas.Bool.Decides.{nat_tests}
use Rattle.hold_back.proofs.Rows.{rank_read}
use Rattle.hold_back.proofs.row.is_from.Goals as goal

pub returns : goal.returns
returns c =
    let there = rank_read c.args.row.now.items c.args.at c.index.result.now (omega arith) c.index.ensures in
    let said = c.comes_before.ensures in
    grind (arith, nat_tests, there, said)
