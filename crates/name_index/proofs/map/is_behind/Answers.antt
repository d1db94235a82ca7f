use Rattle.std.proofs.Common.{◌-◌, ◌<◌, length, arith}
use Rattle.name_index.proofs.Flats.{chunk_sorted, past_all}
use Rattle.name_index.proofs.map.is_behind.Goals as goal

pub is_below-requires : goal.is_below-requires
is_below-requires g c =
    let some : length c.args.chunks.now - 1 < length c.args.chunks.now = omega (arith, c.if-len-eq0.false) in
    record { ordered = chunk_sorted g.K.Ord.cmp c.args.chunks.now (length c.args.chunks.now - 1) c.index-chunks-len.result some c.index-chunks-len.is c.requires.ordered }

pub returns-else-len-eq0-clause-past : goal.returns-else-len-eq0-clause-past
returns-else-len-eq0-clause-past g c = λ yes.
    past_all g.met.K.Ord.total c.args.key c.args.chunks.now c.index-chunks-len.result c.requires.ordered (omega (arith, c.if-len-eq0.false)) c.index-chunks-len.is c.is_below.ensures.some (c.is_below.ensures.past yes)
