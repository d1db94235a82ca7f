use Rattle.std.proofs.Common.{◌+◌, ◌-◌, ◌*◌, ◌/◌, ℕ, List, length, take, drop, ap, arith}
use Rattle.std.specs.Prelude.{sum}
use Rattle.tomb_seq.specs.Sums.{Numbers, sum_before}
use Rattle.tomb_seq.proofs.SumLemmas.{before_le, groups_all, front_is, before_add}
use Rattle.tomb_seq.proofs.sums.Sums.before.Goals as goal

pub sum_of-requires : goal.sum_of-requires
sum_of-requires c =
    let q = c.args.rank / 32 in
    let groups = c.self.inside.groups.items in
    let e = ap (λ (ns : List ℕ). sum (take q ns)) c.deref.ensures.value in
    let m = before_le groups q in
    let a = groups_all c.self.inside.parts.items groups c.self.invariant.grouped in
    omega (arith, e, m, a, c.self.invariant.all)

pub sum_of-requires-2 : goal.sum_of-requires-2
sum_of-requires-2 c =
    let q = c.args.rank / 32 in
    let parts = c.self.inside.parts.items in
    let e = ap (λ (ns : List ℕ). sum (take (c.args.rank - q * 32) (drop (q * 32) ns))) c.deref-2.ensures.value in
    let m = before_le parts (q * 32 + (c.args.rank - q * 32)) in
    let a = before_add parts (q * 32) (c.args.rank - q * 32) in
    omega (arith, e, m, a, c.self.invariant.all)

pub overflow_add-result : goal.overflow_add-result
overflow_add-result c =
    let q = c.args.rank / 32 in
    let parts = c.self.inside.parts.items in
    let groups = c.self.inside.groups.items in
    let v = ap (λ (n : Numbers). length n.parts) c.self.view_is in
    let w = c.self.invariant.grouped.cover in
    let f = front_is parts groups c.self.invariant.grouped q c.args.rank (omega (arith, v, w, c.requires)) (omega arith) in
    let d = ap (λ (ns : List ℕ). sum (take q ns)) c.deref.ensures.value in
    let e = ap (λ (ns : List ℕ). sum (take (c.args.rank - q * 32) (drop (q * 32) ns))) c.deref-2.ensures.value in
    let m = before_le parts c.args.rank in
    omega (arith, f, d, e, m, c.sum_of.ensures, c.sum_of-2.ensures, c.self.invariant.all)

pub returns : goal.returns
returns c =
    let q = c.args.rank / 32 in
    let parts = c.self.inside.parts.items in
    let groups = c.self.inside.groups.items in
    let v = ap (λ (n : Numbers). length n.parts) c.self.view_is in
    let s = ap (λ (n : Numbers). sum_before n.parts c.args.rank) c.self.view_is in
    let w = c.self.invariant.grouped.cover in
    let f = front_is parts groups c.self.invariant.grouped q c.args.rank (omega (arith, v, w, c.requires)) (omega arith) in
    let d = ap (λ (ns : List ℕ). sum (take q ns)) c.deref.ensures.value in
    let e = ap (λ (ns : List ℕ). sum (take (c.args.rank - q * 32) (drop (q * 32) ns))) c.deref-2.ensures.value in
    omega (arith, f, d, e, s, c.sum_of.ensures, c.sum_of-2.ensures)
