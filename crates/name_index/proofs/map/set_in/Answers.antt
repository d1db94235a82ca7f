use Rattle.std.proofs.Common.{◌∙◌, ap, set, subst}
use Rattle.name_index.specs.Chunks.{flat, IsSpot}
use Rattle.name_index.proofs.Flats.{chunk_sorted, set_spot}
use Rattle.name_index.proofs.map.set_in.Goals as goal

pub set-requires : goal.set-requires
set-requires g c =
    let spot = subst (λ cs. IsSpot (g.K.Ord.cmp c.args.key) cs c.spot-c.result) c.deref.ensures.value c.spot-c.ensures in
    record { ordered = chunk_sorted g.K.Ord.cmp c.args.chunks.now.items c.spot-c.result c.index_mut-chunk.result.now spot.within c.index_mut-chunk.ensures.value c.requires.ordered }

pub returns : goal.returns
returns g c =
    let cs = c.args.chunks.now.items in
    let spot = subst (λ ds. IsSpot (g.K.Ord.cmp c.args.key) ds c.spot-c.result) c.deref.ensures.value c.spot-c.ensures in
    ap (λ x. flat (set cs c.spot-c.result x)) c.set.ensures ∙ set_spot g.K.Ord.cmp c.args.key cs c.spot-c.result c.index_mut-chunk.result.now spot c.index_mut-chunk.ensures.value c.args.value
