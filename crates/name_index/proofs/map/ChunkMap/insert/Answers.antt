use Rattle.std.proofs.Common.{Some, cond, ◌∙◌, ap, sym, subst, length, arith}
use Rattle.std.specs.Prelude.{is_some}
use Rattle.std.specs.Map.{lookup}
use Rattle.std.specs.BTreeMap.{is_at}
use Rattle.name_index.specs.Chunks.{flat, IsOrdered}
use Rattle.name_index.proofs.Results.{ordered_insert, lookup_insert, length_insert, one_more}
use Rattle.name_index.proofs.map.ChunkMap.insert.Goals as goal

pub invariant_of-self-2 : goal.invariant_of-self-2
invariant_of-self-2 g c =
    let o = g.met.K.Ord.total in
    let es = flat c.self.inside.chunks.items in
    let e = c.in_ok-old.ensures.ok.entries in
    let n = ap length e ∙ length_insert o es c.args.key c.args.value c.self.invariant.ordered in
    let m = one_more c.in_ok-old.old c.is_none.result c.one.result c.is_none.ensures c.one.ensures ∙ ap (λ found. cond (is_some found) 0 1) c.in_ok-old.ensures.ok.answer in
    record {
      ordered = subst (IsOrdered g.K.Ord.cmp) (sym e) (ordered_insert o es c.args.key c.args.value c.self.invariant.ordered);
      count = omega (arith, n, m, c.self.invariant.count);
    }

pub returns-clause-updates : goal.returns-clause-updates
returns-clause-updates g c = λ q.
    let es = flat c.self.inside.chunks.items in
    ap (lookup (is_at (g.K.Ord.cmp q))) c.in_ok-old.ensures.ok.entries ∙ lookup_insert g.met.K.Ord.total es c.args.key c.args.value q
    ∙ ap (λ fs. cond (is_at (g.K.Ord.cmp c.args.key) q) (Some c.args.value) (lookup (is_at (g.K.Ord.cmp q)) fs)) c.self.view_is

pub returns-clause-ordered : goal.returns-clause-ordered
returns-clause-ordered g c =
    let es = flat c.self.inside.chunks.items in
    subst (IsOrdered g.K.Ord.cmp) (sym c.in_ok-old.ensures.ok.entries) (ordered_insert g.met.K.Ord.total es c.args.key c.args.value c.self.invariant.ordered)
