use Rattle.std.proofs.Common.{◌∙◌, ap, List, length}
use Rattle.tomb_seq.specs.Slots.{marked_names}
use Rattle.tomb_seq.specs.Runs.{Run, slots_of}
use Rattle.tomb_seq.proofs.RunReads.{of_shown}
use Rattle.tomb_seq.proofs.RunSums.{parts_sum}
use Rattle.tomb_seq.proofs.blocks.Blocks.shown.Goals as goal

pub returns : goal.returns
returns c =
    c.total.ensures
    ∙ parts_sum of_shown c.self.inside.list.items c.self.inside.shows.parts c.self.invariant.counts.shows
    ∙ ap (λ (runs : List Run). length (marked_names (slots_of runs))) c.self.view_is
