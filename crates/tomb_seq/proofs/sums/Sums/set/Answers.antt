use Rattle.std.proofs.Common.{◌-◌, ◌+◌, ◌/◌, ◌<◌, ◌≡◌, ◌∙◌, length, set, ap, arith, length-set}
use Rattle.std.specs.Prelude.{slice_index, sum}
use Rattle.std.proofs.lemmas.Grind.{get_or_default_zero}
use Rattle.std.proofs.lemmas.List.Sums.{sum_by-set}
use Rattle.tomb_seq.specs.Sums.{Numbers}
use Rattle.tomb_seq.proofs.SumLemmas.{group_below, part_le, group_le, set_grouped}
use Rattle.tomb_seq.proofs.sums.Sums.set.Goals as goal
use Rattle.tomb_seq.proofs.sums.Sums.set.Goals.{After-index}

-- the number that was there, and the sum of its group
read : (c : After-index) → (c.args.rank < length c.self.inside.parts.items) × (c.index-was.result.now ≡ slice_index c.self.inside.parts.items c.args.rank) × (c.index.result.now ≡ slice_index c.self.inside.groups.items (c.args.rank / 32))
read c =
    let v = ap (λ (n : Numbers). length n.parts) c.self.view_is in
    let l : c.args.rank < length c.self.inside.parts.items = omega (arith, v, c.requires.rank) in
    let below = group_below c.self.inside.parts.items c.self.inside.groups.items c.self.invariant.grouped c.args.rank l in (
      l,
      c.index-was.ensures ∙ get_or_default_zero c.self.inside.parts.items c.args.rank c.index-was.result.now l,
      c.index.ensures ∙ get_or_default_zero c.self.inside.groups.items (c.args.rank / 32) c.index.result.now below,
    )

pub overflow_sub-index : goal.overflow_sub-index
overflow_sub-index c =
    let (l, was, now) = read (goal.at.overflow_sub-index c).After-index in
    let p = part_le c.self.inside.parts.items c.self.inside.groups.items c.self.invariant.grouped c.args.rank l in
    omega (arith, was, now, p)

pub overflow_add-index : goal.overflow_add-index
overflow_add-index c =
    let parts = c.self.inside.parts.items in
    let groups = c.self.inside.groups.items in
    let (l, was, now) = read (goal.at.overflow_add-index c).After-index in
    let p = part_le parts groups c.self.invariant.grouped c.args.rank l in
    let q = group_le parts groups c.self.invariant.grouped c.args.rank l in
    let s = sum_by-set (λ n. n) parts c.args.rank c.args.number 0 l in
    let f = ap (λ (n : Numbers). sum (set n.parts c.args.rank c.args.number)) c.self.view_is in
    omega (arith, was, now, p, q, s, f, c.requires.fits)

pub invariant_of-self : goal.invariant_of-self
invariant_of-self c =
    let parts = c.self.inside.parts.items in
    let groups = c.self.inside.groups.items in
    let new = c.index.result.now - c.index-was.result.now + c.args.number in
    let (l, was, now) = read (goal.at.invariant_of-self c).After-index in
    let p = part_le parts groups c.self.invariant.grouped c.args.rank l in
    let q = group_le parts groups c.self.invariant.grouped c.args.rank l in
    record {
      grouped = set_grouped parts groups c.self.invariant.grouped c.args.rank l c.args.number new (omega (arith, was, now));
      room = let b = length-set groups (c.args.rank / 32) new in let r = c.self.invariant.room in omega (arith, b, r);
      all = let s = sum_by-set (λ n. n) parts c.args.rank c.args.number 0 l in omega (arith, s, was, p, q, c.self.invariant.all);
    }
