use Rattle.std.proofs.Common.{◌+◌, ◌-◌, ◌*◌, ◌∙◌, ℕ, List, length, take, drop, ap, arith}
use Rattle.std.specs.Prelude.{slice_index, sum}
use Rattle.std.proofs.lemmas.List.{take_rest}
use Rattle.tomb_seq.specs.Sums.{Numbers, sum_before}
use Rattle.tomb_seq.proofs.SumLemmas.{groups_all, group_within, found_place}
use Rattle.tomb_seq.proofs.sums.Sums.find.Goals as goal

pub find_in-group-requires : goal.find_in-group-requires
find_in-group-requires c =
    let e = ap sum c.deref.ensures.value in
    let a = groups_all c.self.inside.parts.items c.self.inside.groups.items c.self.invariant.grouped in
    let v = ap (λ (n : Numbers). sum n.parts) c.self.view_is in
    omega (arith, e, a, v, c.requires)

pub find_in-spot-requires : goal.find_in-spot-requires
find_in-spot-requires c =
    let parts = c.self.inside.parts.items in
    let groups = c.self.inside.groups.items in
    let g = c.find_in-group.result.rank in
    let n = ap length c.deref.ensures.value in
    let s = ap (λ (ns : List ℕ). slice_index ns g) c.deref.ensures.value in
    let w = (group_within parts groups c.self.invariant.grouped g c.find_in-group.result.place (omega (arith, n, c.find_in-group.ensures.rank)) (omega (arith, s, c.find_in-group.ensures.within))).1 in
    let e = ap (λ (ns : List ℕ). sum (take (length ns - g * 32) (drop (g * 32) ns))) c.deref-2.ensures.value ∙ ap sum (take_rest parts (g * 32)) in
    omega (arith, e, w)

pub returns-clause-place : goal.returns-clause-place
returns-clause-place c =
    let parts = c.self.inside.parts.items in
    let groups = c.self.inside.groups.items in
    let g = c.find_in-group.result.rank in
    let r = c.find_in-spot.result.rank in
    let p = c.find_in-spot.result.place in
    let n = ap length c.deref.ensures.value in
    let s = ap (λ (ns : List ℕ). sum_before ns g) c.deref.ensures.value in
    let e = ap (λ (ns : List ℕ). sum_before (take (length ns - g * 32) (drop (g * 32) ns)) r) c.deref-2.ensures.value ∙ ap (λ (ns : List ℕ). sum_before ns r) (take_rest parts (g * 32)) in
    let v = ap (λ (m : Numbers). sum_before m.parts (g * 32 + r)) c.self.view_is in
    let f = found_place parts groups c.self.invariant.grouped g c.find_in-group.result.place c.args.place r p (omega (arith, n, c.find_in-group.ensures.rank)) (omega (arith, s, c.find_in-group.ensures.place)) (omega (arith, e, c.find_in-spot.ensures.place)) in
    omega (arith, f, v)
