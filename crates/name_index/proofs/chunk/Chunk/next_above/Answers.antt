use Rattle.std.proofs.Common.{◌+◌, ◌∙◌, drop, sym, subst, ap}
use Rattle.std.specs.Prelude.{slice_get}
use Rattle.name_index.specs.Chunks.{IsPlace, IsHit, IsBefore}
use Rattle.name_index.proofs.Changes.{find-hit, find-gap}
use Rattle.name_index.proofs.chunk.Chunk.next_above.Goals as goal

pub returns-then-is_here : goal.returns-then-is_here
returns-then-is_here g c =
    let place = subst (λ fs. IsPlace (g.K.Ord.cmp c.args.key) fs c.place-at.result) (c.deref.ensures.value ∙ c.self.view_is) c.place-at.ensures in
    let hit = subst (λ fs. IsHit (g.K.Ord.cmp c.args.key) fs c.place-at.result) (c.deref-2.ensures.value ∙ c.self.view_is) (c.is_here.ensures.hit c.if-is_here.true) in
    c.entry_at.ensures ∙ ap (λ fs. slice_get fs (c.place-at.result + 1)) (c.deref-then-is_here.ensures.value ∙ c.self.view_is) ∙ sym (find-hit g.K.Ord.cmp c.args.key c.args.self.now c.place-at.result place hit c.index-first.result.now g.met.K.Ord.total c.requires.ordered)

pub returns-else-is_here : goal.returns-else-is_here
returns-else-is_here g c =
    let place = subst (λ fs. IsPlace (g.K.Ord.cmp c.args.key) fs c.place-at.result) (c.deref.ensures.value ∙ c.self.view_is) c.place-at.ensures in
    let gap = subst (λ fs. IsBefore (g.K.Ord.cmp c.args.key) (drop c.place-at.result fs)) (c.deref-2.ensures.value ∙ c.self.view_is) (c.is_here.ensures.gap c.if-is_here.false) in
    c.entry_at-else-is_here.ensures ∙ ap (λ fs. slice_get fs c.place-at.result) (c.deref-else-is_here.ensures.value ∙ c.self.view_is) ∙ sym (find-gap g.K.Ord.cmp c.args.key c.args.self.now c.place-at.result place gap)
