use Rattle.std.proofs.Common.{◌<◌, ◌∙◌, length, sym, ap, arith}
use Rattle.std.specs.Ordering.{is_eq}
use Rattle.name_index.proofs.Changes.{gap_here}
use Rattle.name_index.proofs.chunk.is_here.Goals as goal

pub returns-clause-gap : goal.returns-clause-gap
returns-clause-gap g c = λ not.
    let within = c.requires.place.within in
    let off = c.if-at-entries.false in
    let l : c.args.at < length c.args.entries.now = omega (arith, within, off) in
    gap_here g.met.K.Ord.total c.args.key c.args.entries.now c.args.at c.index-entries-at.result c.requires.ordered c.requires.place l
    (ap is_eq (sym c.cmp.ensures) ∙ sym c.is_eq.ensures ∙ not)
