use Rattle.std.proofs.Common.{None, cond, ◌∙◌, ap, sym, subst, length, arith}
use Rattle.std.specs.Prelude.{is_some}
use Rattle.std.specs.Map.{lookup}
use Rattle.std.specs.BTreeMap.{is_at}
use Rattle.name_index.specs.Chunks.{flat, IsOrdered}
use Rattle.name_index.proofs.Results.{ordered_remove, lookup_removed, length_remove, one_less}
use Rattle.name_index.proofs.map.ChunkMap.remove.Goals as goal

pub overflow_sub-self : goal.overflow_sub-self
overflow_sub-self g c =
    let es = flat c.self.inside.chunks.items in
    let n = length_remove (is_at (g.K.Ord.cmp c.args.key)) es in
    let m = one_less c.remove_in-value.result c.is_some.result c.one.result c.is_some.ensures c.one.ensures ∙ ap (λ found. cond (is_some found) 1 0) c.remove_in-value.ensures.value in
    omega (arith, n, m, c.self.invariant.count)

pub invariant_of-self : goal.invariant_of-self
invariant_of-self g c =
    let es = flat c.self.inside.chunks.items in
    let test = is_at (g.K.Ord.cmp c.args.key) in
    let e = c.remove_in-value.ensures.entries in
    let f = ap length e in
    let n = length_remove test es in
    let m = one_less c.remove_in-value.result c.is_some.result c.one.result c.is_some.ensures c.one.ensures ∙ ap (λ found. cond (is_some found) 1 0) c.remove_in-value.ensures.value in
    record {
      ordered = subst (IsOrdered g.K.Ord.cmp) (sym e) (ordered_remove g.K.Ord.cmp test es c.self.invariant.ordered);
      count = omega (arith, f, n, m, c.self.invariant.count);
    }

pub returns-clause-updates : goal.returns-clause-updates
returns-clause-updates g c = λ q.
    let es = flat c.self.inside.chunks.items in
    ap (lookup (is_at (g.K.Ord.cmp q))) c.remove_in-value.ensures.entries ∙ lookup_removed g.met.K.Ord.total es c.args.key q c.self.invariant.ordered
    ∙ ap (λ fs. cond (is_at (g.K.Ord.cmp c.args.key) q) None (lookup (is_at (g.K.Ord.cmp q)) fs)) c.self.view_is

pub returns-clause-ordered : goal.returns-clause-ordered
returns-clause-ordered g c =
    let es = flat c.self.inside.chunks.items in
    subst (IsOrdered g.K.Ord.cmp) (sym c.remove_in-value.ensures.entries) (ordered_remove g.K.Ord.cmp (is_at (g.K.Ord.cmp c.args.key)) es c.self.invariant.ordered)
