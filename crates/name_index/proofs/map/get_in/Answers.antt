use Rattle.std.proofs.Common.{◌∙◌, sym}
use Rattle.name_index.proofs.Flats.{chunk_sorted, lookup_spot}
use Rattle.name_index.proofs.map.get_in.Goals as goal

pub get-requires : goal.get-requires
get-requires g c = record { ordered = chunk_sorted g.K.Ord.cmp c.args.chunks.now c.spot-c.result c.index-chunks-c.result c.spot-c.ensures.within c.index-chunks-c.is c.requires.ordered }

pub returns : goal.returns
returns g c = c.get.ensures ∙ sym (lookup_spot g.K.Ord.cmp c.args.key c.args.chunks.now c.spot-c.result c.index-chunks-c.result c.spot-c.ensures c.index-chunks-c.is)
