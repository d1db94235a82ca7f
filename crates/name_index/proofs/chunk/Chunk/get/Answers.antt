use Rattle.std.proofs.Common.{◌∙◌, Some, drop, get_or, sym, subst, ap}
use Rattle.name_index.specs.Chunks.{IsPlace, IsHit, IsBefore}
use Rattle.name_index.proofs.Changes.{lookup-hit, lookup-gap}
use Rattle.name_index.proofs.chunk.Chunk.get.Goals as goal

pub returns-then-is_here : goal.returns-then-is_here
returns-then-is_here g c =
    let place = subst (λ fs. IsPlace (g.K.Ord.cmp c.args.key) fs c.place-at.result) (c.deref.ensures.value ∙ c.self.view_is) c.place-at.ensures in
    let hit = subst (λ fs. IsHit (g.K.Ord.cmp c.args.key) fs c.place-at.result) (c.deref-2.ensures.value ∙ c.self.view_is) (c.is_here.ensures.hit c.if-is_here.true) in
    let r = c.index.result.now in
    ap (λ e. Some e.1) (c.index.ensures ∙ ap (λ fs. get_or fs c.place-at.result r) c.self.view_is) ∙ sym (lookup-hit g.K.Ord.cmp c.args.key c.args.self.now c.place-at.result place hit r)

pub returns-else-is_here : goal.returns-else-is_here
returns-else-is_here g c =
    let place = subst (λ fs. IsPlace (g.K.Ord.cmp c.args.key) fs c.place-at.result) (c.deref.ensures.value ∙ c.self.view_is) c.place-at.ensures in
    let gap = subst (λ fs. IsBefore (g.K.Ord.cmp c.args.key) (drop c.place-at.result fs)) (c.deref-2.ensures.value ∙ c.self.view_is) (c.is_here.ensures.gap c.if-is_here.false) in
    sym (lookup-gap g.K.Ord.cmp c.args.key c.args.self.now c.place-at.result place gap)
