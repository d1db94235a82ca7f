use Rattle.std.proofs.Common.{◌≡◌, ◌∙◌, [], List, length, ap, arith}
use Rattle.std.proofs.lemmas.List.{nil_from_length}
use Rattle.tomb_seq.specs.Runs.{Run, slots_of}
use Rattle.tomb_seq.proofs.RunReads.{of_all, of_shown}
use Rattle.tomb_seq.proofs.RunSums.{parts_le}
use Rattle.tomb_seq.proofs.blocks.Blocks.insert_first.Goals as goal
use Rattle.tomb_seq.proofs.blocks.Blocks.insert_first.Goals.{In_ok-put}

-- there is no element yet
empty : (c : In_ok-put) → length (slots_of c.self.inside.list.items) ≡ 0
empty c =
    let v = ap length c.self.view_is in
    let none : c.self.inside.list.items ≡ [] = nil_from_length c.self.inside.list.items (omega (arith, v, c.requires.none)) in
    ap (λ (bs : List Run). length (slots_of bs)) none

pub insert-requires : goal.insert-requires
insert-requires c =
    let n = empty (goal.at.insert-requires c).In_ok-put in
    let t = parts_le of_all c.self.inside.list.items _ (c.in_ok-reserve-2.ensures.parts ∙ c.self.invariant.counts.lens) in
    record { rank = omega arith; room = c.in_ok-reserve-2.ensures.room; fits = omega (arith, n, t) }

pub insert-requires-2 : goal.insert-requires-2
insert-requires-2 c =
    let n = empty (goal.at.insert-requires-2 c).In_ok-put in
    let t = parts_le of_shown c.self.inside.list.items _ (c.in_ok-reserve-3.ensures.parts ∙ c.self.invariant.counts.shows) in
    record { rank = omega arith; room = c.in_ok-reserve-3.ensures.room; fits = omega (arith, n, t) }
