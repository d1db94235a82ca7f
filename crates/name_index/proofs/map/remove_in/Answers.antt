use Rattle.std.proofs.Common.{◌∙◌, ap, set, subst, sym, arith}
use Rattle.std.specs.BTreeMap.{is_at}
use Rattle.name_index.specs.Chunks.{flat, IsSpot}
use Rattle.name_index.proofs.Flats.{chunk_sorted, lookup_spot, remove_spot, remove_chunk}
use Rattle.name_index.proofs.Results.{remove_absent}
use Rattle.name_index.proofs.map.remove_in.Goals as goal

pub remove-requires-clause-ordered : goal.remove-requires-clause-ordered
remove-requires-clause-ordered g c =
    let spot = subst (λ cs. IsSpot (g.K.Ord.cmp c.args.key) cs c.spot-c.result) c.deref.ensures.value c.spot-c.ensures in
    chunk_sorted g.K.Ord.cmp c.args.chunks.now.items c.spot-c.result c.index_mut-chunk.result.now spot.within c.index_mut-chunk.ensures.value c.requires.ordered

pub returns-then-len-gt1-clause-value : goal.returns-then-len-gt1-clause-value
returns-then-len-gt1-clause-value g c =
    let spot = subst (λ cs. IsSpot (g.K.Ord.cmp c.args.key) cs c.spot-c.result) c.deref.ensures.value c.spot-c.ensures in
    c.remove.ensures.value ∙ sym (lookup_spot g.K.Ord.cmp c.args.key c.args.chunks.now.items c.spot-c.result c.index_mut-chunk.result.now spot c.index_mut-chunk.ensures.value)

pub returns-then-len-gt1-clause-entries : goal.returns-then-len-gt1-clause-entries
returns-then-len-gt1-clause-entries g c =
    let cs = c.args.chunks.now.items in
    let spot = subst (λ ds. IsSpot (g.K.Ord.cmp c.args.key) ds c.spot-c.result) c.deref.ensures.value c.spot-c.ensures in
    ap (λ x. flat (set cs c.spot-c.result x)) c.remove.ensures.entries ∙ remove_spot g.K.Ord.cmp c.args.key cs c.spot-c.result c.index_mut-chunk.result.now spot c.index_mut-chunk.ensures.value

pub get-requires : goal.get-requires
get-requires g c =
    let spot = subst (λ cs. IsSpot (g.K.Ord.cmp c.args.key) cs c.spot-c.result) c.deref.ensures.value c.spot-c.ensures in
    record { ordered = chunk_sorted g.K.Ord.cmp c.args.chunks.now.items c.spot-c.result c.index-2.result.now spot.within c.index-2.ensures c.requires.ordered }

pub returns-in_default-clause-value : goal.returns-in_default-clause-value
returns-in_default-clause-value g c =
    let spot = subst (λ cs. IsSpot (g.K.Ord.cmp c.args.key) cs c.spot-c.result) c.deref.ensures.value c.spot-c.ensures in
    sym (lookup_spot g.K.Ord.cmp c.args.key c.args.chunks.now.items c.spot-c.result c.index-2.result.now spot c.index-2.ensures ∙ sym c.get.ensures ∙ c.in_default.is)

pub returns-in_default-clause-entries : goal.returns-in_default-clause-entries
returns-in_default-clause-entries g c =
    let spot = subst (λ cs. IsSpot (g.K.Ord.cmp c.args.key) cs c.spot-c.result) c.deref.ensures.value c.spot-c.ensures in
    sym (remove_absent (is_at (g.K.Ord.cmp c.args.key)) (flat c.args.chunks.now.items)
    (lookup_spot g.K.Ord.cmp c.args.key c.args.chunks.now.items c.spot-c.result c.index-2.result.now spot c.index-2.ensures ∙ sym c.get.ensures ∙ c.in_default.is))

pub returns-clause-value : goal.returns-clause-value
returns-clause-value g c =
    let spot = subst (λ cs. IsSpot (g.K.Ord.cmp c.args.key) cs c.spot-c.result) c.deref.ensures.value c.spot-c.ensures in
    sym (lookup_spot g.K.Ord.cmp c.args.key c.args.chunks.now.items c.spot-c.result c.index-2.result.now spot c.index-2.ensures ∙ sym c.get.ensures ∙ c.in-Some.is)

pub returns-clause-entries : goal.returns-clause-entries
returns-clause-entries g c =
    let cs = c.args.chunks.now.items in
    let spot = subst (λ ds. IsSpot (g.K.Ord.cmp c.args.key) ds c.spot-c.result) c.deref.ensures.value c.spot-c.ensures in
    let found = lookup_spot g.K.Ord.cmp c.args.key cs c.spot-c.result c.index-2.result.now spot c.index-2.ensures ∙ sym c.get.ensures ∙ c.in-Some.is in
    ap flat c.remove-2.ensures.items
    ∙ remove_chunk g.K.Ord.cmp c.args.key cs c.spot-c.result c.index.result.now spot c.index.ensures (omega (arith, c.len.ensures, c.if-len-gt1.false)) (λ none. absurd (cc (sym found ∙ none)))
