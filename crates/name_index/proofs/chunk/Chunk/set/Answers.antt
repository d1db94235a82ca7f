use Rattle.std.proofs.Common.{◌∙◌, drop, get_or, set, sym, subst, ap}
use Rattle.name_index.specs.Chunks.{IsPlace, IsHit, IsBefore}
use Rattle.name_index.proofs.Changes.{set-hit, set-gap}
use Rattle.name_index.proofs.chunk.Chunk.set.Goals as goal

pub returns-then-is_here : goal.returns-then-is_here
returns-then-is_here g c =
    let place = subst (λ fs. IsPlace (g.K.Ord.cmp c.args.key) fs c.place-at.result) (c.deref.ensures.value ∙ c.self.view_is) c.place-at.ensures in
    let hit = subst (λ fs. IsHit (g.K.Ord.cmp c.args.key) fs c.place-at.result) (c.deref-2.ensures.value ∙ c.self.view_is) (c.is_here.ensures.hit c.if-is_here.true) in
    let r = c.index-old.result.now in
    ap (λ e. set c.self.inside.entries.items c.place-at.result (e.0, c.args.value)) c.index-old.ensures
    ∙ ap (λ fs. set fs c.place-at.result ((get_or fs c.place-at.result r).0, c.args.value)) c.self.view_is ∙ sym (set-hit g.K.Ord.cmp c.args.key c.args.self.now c.place-at.result place hit r c.args.value)

pub returns-else-is_here : goal.returns-else-is_here
returns-else-is_here g c =
    let place = subst (λ fs. IsPlace (g.K.Ord.cmp c.args.key) fs c.place-at.result) (c.deref.ensures.value ∙ c.self.view_is) c.place-at.ensures in
    let gap = subst (λ fs. IsBefore (g.K.Ord.cmp c.args.key) (drop c.place-at.result fs)) (c.deref-2.ensures.value ∙ c.self.view_is) (c.is_here.ensures.gap c.if-is_here.false) in
    sym (set-gap g.K.Ord.cmp c.args.key c.args.self.now c.place-at.result place gap c.args.value)
