use Rattle.std.proofs.Common.{ap, length, arith, length-set}
use Rattle.std.specs.Prelude.{sum}
use Rattle.std.proofs.lemmas.List.Sums.{sum_by-set}
use Rattle.tomb_seq.proofs.sums.Sums.split.Goals as goal

pub set-requires : goal.set-requires
set-requires c =
    let s = sum_by-set (λ n. n) c.args.self.now.parts c.args.rank c.args.first 0 c.requires.rank in
    record { rank = c.requires.rank; fits = omega (arith, s, c.requires.both, c.requires.fits) }

pub insert-requires : goal.insert-requires
insert-requires c =
    let s = sum_by-set (λ n. n) c.args.self.now.parts c.args.rank c.args.first 0 c.requires.rank in
    let t = ap sum c.set.ensures.parts in
    let n = ap length c.set.ensures.parts in
    let m = length-set c.args.self.now.parts c.args.rank c.args.first in
    record { rank = omega (arith, n, m, c.requires.rank); room = omega (arith, n, m, c.set.ensures.room, c.requires.room); fits = omega (arith, s, t, c.requires.both, c.requires.fits) }
