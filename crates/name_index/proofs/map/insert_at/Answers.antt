use Rattle.std.proofs.Common.{◌∙◌, ap, set, sym}
use Rattle.name_index.specs.Chunks.{flat}
use Rattle.name_index.proofs.Flats.{chunk_sorted, insert_spot, lookup_spot}
use Rattle.name_index.proofs.map.insert_at.Goals as goal

pub insert-requires : goal.insert-requires
insert-requires g c = record { ordered = chunk_sorted g.K.Ord.cmp c.args.chunks.now.items c.args.c c.index_mut-chunk.result.now c.requires.spot.within c.index_mut-chunk.ensures.value c.requires.ordered }

pub returns-clause-ok : goal.returns-clause-ok
returns-clause-ok g c =
    let cs = c.args.chunks.now.items in
    record {
      entries = ap (λ x. flat (set cs c.args.c x)) c.in_ok-old.ensures.ok.entries ∙ insert_spot g.K.Ord.cmp c.args.key cs c.args.c c.index_mut-chunk.result.now c.requires.spot c.index_mut-chunk.ensures.value c.args.value;
      answer = c.in_ok-old.ensures.ok.answer ∙ sym (lookup_spot g.K.Ord.cmp c.args.key c.args.chunks.now.items c.args.c c.index_mut-chunk.result.now c.requires.spot c.index_mut-chunk.ensures.value);
    }
