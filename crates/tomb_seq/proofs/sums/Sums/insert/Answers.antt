use Rattle.std.proofs.Common.{◌≡◌, ◌∙◌, ℕ, List, length, ap, subst, arith}
use Rattle.std.specs.Prelude.{sum}
use Rattle.std.proofs.lemmas.List.{with_items_is}
use Rattle.std.proofs.lemmas.List.Edits.{length-insert}
use Rattle.std.proofs.lemmas.List.Sums.{sum_by-insert}
use Rattle.tomb_seq.specs.Sums.{Numbers, AreGrouped}
use Rattle.tomb_seq.proofs.sums.Sums.insert.Goals as goal

pub put-requires : goal.put-requires
put-requires c =
    let v = ap (λ (n : Numbers). length n.parts) c.self.view_is in
    let w = ap (λ (n : Numbers). n.room) c.self.view_is in
    record { rank = omega (arith, v, c.requires.rank); room = omega (arith, v, w, c.requires.room, c.self.invariant.room) }

pub regroup-requires : goal.regroup-requires
regroup-requires c =
    let parts = c.self.inside.parts.items in
    let v = ap (λ (n : Numbers). length n.parts) c.self.view_is in
    let w = ap (λ (n : Numbers). n.room) c.self.view_is in
    let t = ap (λ (n : Numbers). sum n.parts) c.self.view_is in
    let a = ap length (c.deref.ensures.value ∙ c.put.ensures.items) in
    let s = ap sum (c.deref.ensures.value ∙ c.put.ensures.items) in
    let d = length-insert parts c.args.rank c.args.number (omega (arith, v, c.requires.rank)) in
    let e = ap length c.deref_mut.ensures.value in
    let u = sum_by-insert (λ n. n) parts c.args.rank c.args.number in
    record { cover = omega (arith, a, d, e, v, w, c.requires.room); fits = omega (arith, s, u, t, c.requires.fits) }

pub overflow_add-self : goal.overflow_add-self
overflow_add-self c =
    let t = ap (λ (n : Numbers). sum n.parts) c.self.view_is in
    omega (arith, t, c.self.invariant.all, c.requires.fits)

pub invariant_of-self : goal.invariant_of-self
invariant_of-self c =
    let new = c.regroup.new.groups in
    let e = ap length c.deref_mut.ensures.value in
    let same : length new ≡ c.self.inside.groups.len = omega (arith, c.regroup.ensures.size, c.deref_mut.ensures.len) in
    let s = ap sum c.put.ensures.items in
    let u = sum_by-insert (λ n. n) c.self.inside.parts.items c.args.rank c.args.number in
    rw (with_items_is c.self.inside.groups new same) (record {
      grouped = subst (λ (ns : List ℕ). AreGrouped ns new) c.deref.ensures.value c.regroup.ensures.grouped;
      room = omega (arith, e, c.regroup.ensures.size, c.self.invariant.room, c.put.ensures.capacity);
      all = omega (arith, s, u, c.self.invariant.all);
    })
