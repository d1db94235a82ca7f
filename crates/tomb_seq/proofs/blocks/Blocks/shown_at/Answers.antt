use Rattle.std.proofs.Common.{◌∙◌, sym, ap, List, arith}
use Rattle.std.specs.Prelude.{slice_get}
use Rattle.std.proofs.lemmas.Option.{slice_get_past}
use Rattle.tomb_seq.specs.Slots.{marked_names}
use Rattle.tomb_seq.specs.Runs.{Run, slots_of}
use Rattle.tomb_seq.proofs.RunReads.{of_shown}
use Rattle.tomb_seq.proofs.RunSums.{part_ranks, parts_sum, name_by_parts}
use Rattle.tomb_seq.proofs.blocks.Blocks.shown_at.Goals as goal

pub returns-then-i-total : goal.returns-then-i-total
returns-then-i-total c =
    let runs = c.self.inside.list.items in
    let s = parts_sum of_shown runs c.self.inside.shows.parts c.self.invariant.counts.shows in
    sym (slice_get_past (marked_names (slots_of runs)) c.args.i (omega (arith, s, c.total.ensures)))
    ∙ ap (λ (bs : List Run). slice_get (marked_names (slots_of bs)) c.args.i) c.self.view_is

pub find-spot-requires : goal.find-spot-requires
find-spot-requires c = omega (arith, c.total.ensures)

pub index-requires : goal.index-requires
index-requires c = omega (arith, part_ranks of_shown c.self.inside.list.items c.self.inside.shows.parts c.self.invariant.counts.shows, c.find-spot.ensures.rank)

pub returns : goal.returns
returns c =
    let at = c.find-spot.ensures in
    c.shown_at.ensures
    ∙ name_by_parts of_shown c.self.inside.list.items c.self.inside.shows.parts c.self.invariant.counts.shows c.find-spot.result c.index.result.now c.args.i at.rank at.within at.place c.index.ensures
    ∙ ap (λ (bs : List Run). slice_get (marked_names (slots_of bs)) c.args.i) c.self.view_is
