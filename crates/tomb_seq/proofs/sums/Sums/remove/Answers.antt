use Rattle.std.proofs.Common.{◌<◌, ◌≡◌, ◌∙◌, ℕ, List, length, ap, subst, arith}
use Rattle.std.specs.Prelude.{sum}
use Rattle.std.proofs.lemmas.List.{with_items_is}
use Rattle.std.proofs.lemmas.List.Edits.{length-remove}
use Rattle.std.proofs.lemmas.List.Sums.{sum_by-remove}
use Rattle.tomb_seq.specs.Sums.{Numbers, AreGrouped}
use Rattle.tomb_seq.proofs.sums.Sums.remove.Goals as goal

pub regroup-requires : goal.regroup-requires
regroup-requires c =
    let parts = c.self.inside.parts.items in
    let v = ap (λ (n : Numbers). length n.parts) c.self.view_is in
    let l : c.args.rank < length parts = omega (arith, v, c.requires) in
    let a = ap length (c.deref.ensures.value ∙ c.remove-gone.ensures.items) in
    let s = ap sum (c.deref.ensures.value ∙ c.remove-gone.ensures.items) in
    let d = length-remove parts c.args.rank l in
    let e = ap length c.deref_mut.ensures.value in
    let u = sum_by-remove (λ n. n) parts c.args.rank 0 l in
    let w = c.self.invariant.grouped.cover in
    record { cover = omega (arith, a, d, e, w); fits = omega (arith, s, u, c.self.invariant.all) }

pub overflow_sub-self : goal.overflow_sub-self
overflow_sub-self c =
    let parts = c.self.inside.parts.items in
    let v = ap (λ (n : Numbers). length n.parts) c.self.view_is in
    let u = sum_by-remove (λ n. n) parts c.args.rank c.remove-gone.result (omega (arith, v, c.requires)) in
    omega (arith, u, c.remove-gone.ensures.value, c.self.invariant.all)

pub invariant_of-self : goal.invariant_of-self
invariant_of-self c =
    let new = c.regroup.new.groups in
    let parts = c.self.inside.parts.items in
    let v = ap (λ (n : Numbers). length n.parts) c.self.view_is in
    let e = ap length c.deref_mut.ensures.value in
    let same : length new ≡ c.self.inside.groups.len = omega (arith, c.regroup.ensures.size, c.deref_mut.ensures.len) in
    let s = ap sum c.remove-gone.ensures.items in
    let u = sum_by-remove (λ n. n) parts c.args.rank c.remove-gone.result (omega (arith, v, c.requires)) in
    rw (with_items_is c.self.inside.groups new same) (record {
      grouped = subst (λ (ns : List ℕ). AreGrouped ns new) c.deref.ensures.value c.regroup.ensures.grouped;
      room = omega (arith, e, c.regroup.ensures.size, c.self.invariant.room, c.remove-gone.ensures.capacity);
      all = omega (arith, s, u, c.remove-gone.ensures.value, c.self.invariant.all);
    })
