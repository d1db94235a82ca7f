use Rattle.std.proofs.Common.{◌+◌, ◌∙◌, ap, sym}
use Rattle.std.specs.Prelude.{slice_get}
use Rattle.std.proofs.lemmas.List.{take_rest}
use Rattle.name_index.specs.Chunks.{flat}
use Rattle.name_index.proofs.Flats.{chunk_sorted, find_left, find_behind}
use Rattle.name_index.proofs.map.next_in.Goals as goal

pub next_above-requires : goal.next_above-requires
next_above-requires g c = record { ordered = chunk_sorted g.K.Ord.cmp c.args.chunks.now c.spot-c.result c.index-chunks-c.result c.spot-c.ensures.within c.index-chunks-c.is c.requires.ordered }

pub returns-in-Some : goal.returns-in-Some
returns-in-Some g c = sym (find_left g.K.Ord.cmp c.args.key c.args.chunks.now c.spot-c.result c.index-chunks-c.result c.spot-c.ensures c.index-chunks-c.is c.in-Some.entry (sym c.in-Some.ensures))

pub returns-in-None : goal.returns-in-None
returns-in-None g c =
    c.first_of.ensures ∙ ap (λ cs. slice_get (flat cs) 0) (take_rest c.args.chunks.now (c.spot-c.result + 1))
    ∙ sym (find_behind g.K.Ord.cmp c.args.key c.args.chunks.now c.spot-c.result c.index-chunks-c.result c.spot-c.ensures c.index-chunks-c.is (sym c.in-None.ensures))
