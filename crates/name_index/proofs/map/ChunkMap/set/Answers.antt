use Rattle.std.proofs.Common.{Some, IsSome, cond, ◌∙◌, ap, sym, subst, length}
use Rattle.std.specs.Map.{lookup}
use Rattle.std.specs.BTreeMap.{is_at}
use Rattle.std.proofs.lemmas.Map.{length-set_value}
use Rattle.name_index.specs.Chunks.{flat, IsOrdered}
use Rattle.name_index.proofs.Results.{ordered_set, lookup_set}
use Rattle.name_index.proofs.map.ChunkMap.set.Goals as goal

pub invariant_of-self : goal.invariant_of-self
invariant_of-self g c =
    let es = flat c.self.inside.chunks.items in
    let test = is_at (g.K.Ord.cmp c.args.key) in
    record {
      ordered = subst (IsOrdered g.K.Ord.cmp) (sym c.set_in.ensures) (ordered_set g.K.Ord.cmp test es c.args.value c.self.invariant.ordered);
      count = c.self.invariant.count ∙ sym (ap length c.set_in.ensures ∙ length-set_value test es c.args.value);
    }

pub returns-clause-ordered : goal.returns-clause-ordered
returns-clause-ordered g c =
    let es = flat c.self.inside.chunks.items in
    subst (IsOrdered g.K.Ord.cmp) (sym c.set_in.ensures) (ordered_set g.K.Ord.cmp (is_at (g.K.Ord.cmp c.args.key)) es c.args.value c.self.invariant.ordered)

pub returns-clause-updates : goal.returns-clause-updates
returns-clause-updates g c = λ some q.
    let es = flat c.self.inside.chunks.items in
    let there = subst (λ fs. IsSome (lookup (is_at (g.K.Ord.cmp c.args.key)) fs)) (sym c.self.view_is) some in
    ap (lookup (is_at (g.K.Ord.cmp q))) c.set_in.ensures ∙ lookup_set g.met.K.Ord.total es c.args.key q c.args.value there
    ∙ ap (λ fs. cond (is_at (g.K.Ord.cmp c.args.key) q) (Some c.args.value) (lookup (is_at (g.K.Ord.cmp q)) fs)) c.self.view_is
