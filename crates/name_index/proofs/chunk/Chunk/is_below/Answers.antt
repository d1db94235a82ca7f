use Rattle.std.proofs.Common.{◌≡◌, ◌-◌, true, ◌∙◌, length, get_or, sym, subst, ap}
use Rattle.std.specs.Ordering.{is_gt}
use Rattle.name_index.specs.Chunks.{IsPast, IsOrdered, first_key}
use Rattle.name_index.proofs.Entries.{all_below_last}
use Rattle.name_index.proofs.chunk.Chunk.is_below.Goals as goal

pub returns-clause-past : goal.returns-clause-past
returns-clause-past g c = λ yes.
    let es = c.deref-entries.result.now in
    let same = c.deref-entries.ensures.value ∙ c.self.view_is in
    let gt : is_gt (g.K.Ord.cmp c.args.key (get_or es (length es - 1) c.index-entries-entries.result).0) ≡ true = ap is_gt (sym c.cmp.ensures) ∙ sym c.is_gt.ensures ∙ yes in
    subst (IsPast (g.K.Ord.cmp c.args.key)) same
    (all_below_last g.met.K.Ord.total c.args.key es c.index-entries-entries.result c.self.inside.first (ap first_key c.deref-entries.ensures.value ∙ c.self.invariant) (subst (IsOrdered g.K.Ord.cmp) (sym same) c.requires.ordered) gt)
