use Rattle.std.proofs.Common.{◌∙◌, ap, List, arith}
use Rattle.std.specs.Prelude.{slice_get}
use Rattle.tomb_seq.specs.declared.slot.Slot.{Slot}
use Rattle.tomb_seq.specs.Slots.{names_in}
use Rattle.tomb_seq.specs.Runs.{Run, slots_of}
use Rattle.tomb_seq.proofs.SlotLemmas.{length_names}
use Rattle.tomb_seq.proofs.RunReads.{of_all}
use Rattle.tomb_seq.proofs.RunSums.{part_ranks, parts_sum, name_by_parts}
use Rattle.tomb_seq.proofs.blocks.Blocks.name_at.Goals as goal

pub find-spot-requires : goal.find-spot-requires
find-spot-requires c =
    let runs = c.self.inside.list.items in
    omega (arith, parts_sum of_all runs c.self.inside.lens.parts c.self.invariant.counts.lens, length_names (slots_of runs), c.self.invariant.runs.count)

pub index-requires : goal.index-requires
index-requires c = omega (arith, part_ranks of_all c.self.inside.list.items c.self.inside.lens.parts c.self.invariant.counts.lens, c.find-spot.ensures.rank)

pub returns : goal.returns
returns c =
    let at = c.find-spot.ensures in
    c.name_at.ensures
    ∙ ap (λ (ss : List Slot). slice_get (names_in ss) c.find-spot.result.place) c.slots.ensures.value
    ∙ name_by_parts of_all c.self.inside.list.items c.self.inside.lens.parts c.self.invariant.counts.lens c.find-spot.result c.index.result.now c.args.place at.rank at.within at.place c.index.ensures
    ∙ ap (λ (bs : List Run). slice_get (names_in (slots_of bs)) c.args.place) c.self.view_is
