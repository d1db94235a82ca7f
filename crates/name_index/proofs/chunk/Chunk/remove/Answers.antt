use Rattle.std.proofs.Common.{◌∙◌, Some, drop, get_or, sym, subst, ap}
use Rattle.std.specs.List.{remove}
use Rattle.name_index.specs.Chunks.{IsPlace, IsHit, IsBefore}
use Rattle.name_index.proofs.Changes.{remove-hit, remove-gap, lookup-hit, lookup-gap}
use Rattle.name_index.proofs.chunk.Chunk.remove.Goals as goal

pub returns-then-is_here-clause-value : goal.returns-then-is_here-clause-value
returns-then-is_here-clause-value g c =
    let place = subst (λ fs. IsPlace (g.K.Ord.cmp c.args.key) fs c.place-at.result) (c.deref.ensures.value ∙ c.self.view_is) c.place-at.ensures in
    let hit = subst (λ fs. IsHit (g.K.Ord.cmp c.args.key) fs c.place-at.result) (c.deref-2.ensures.value ∙ c.self.view_is) (c.is_here.ensures.hit c.if-is_here.true) in
    let r = c.index.result.now in
    ap (λ e. Some e.1) (c.index.ensures ∙ ap (λ fs. get_or fs c.place-at.result r) c.self.view_is) ∙ sym (lookup-hit g.K.Ord.cmp c.args.key c.args.self.now c.place-at.result place hit r)

pub returns-then-is_here-clause-entries : goal.returns-then-is_here-clause-entries
returns-then-is_here-clause-entries g c =
    let place = subst (λ fs. IsPlace (g.K.Ord.cmp c.args.key) fs c.place-at.result) (c.deref.ensures.value ∙ c.self.view_is) c.place-at.ensures in
    let hit = subst (λ fs. IsHit (g.K.Ord.cmp c.args.key) fs c.place-at.result) (c.deref-2.ensures.value ∙ c.self.view_is) (c.is_here.ensures.hit c.if-is_here.true) in
    c.take_at.ensures.entries ∙ ap (λ fs. remove fs c.place-at.result) c.self.view_is ∙ sym (remove-hit g.K.Ord.cmp c.args.key c.args.self.now c.place-at.result place hit c.index.result.now)

pub returns-else-is_here-clause-value : goal.returns-else-is_here-clause-value
returns-else-is_here-clause-value g c =
    let place = subst (λ fs. IsPlace (g.K.Ord.cmp c.args.key) fs c.place-at.result) (c.deref.ensures.value ∙ c.self.view_is) c.place-at.ensures in
    let gap = subst (λ fs. IsBefore (g.K.Ord.cmp c.args.key) (drop c.place-at.result fs)) (c.deref-2.ensures.value ∙ c.self.view_is) (c.is_here.ensures.gap c.if-is_here.false) in
    sym (lookup-gap g.K.Ord.cmp c.args.key c.args.self.now c.place-at.result place gap)

pub returns-else-is_here-clause-entries : goal.returns-else-is_here-clause-entries
returns-else-is_here-clause-entries g c =
    let place = subst (λ fs. IsPlace (g.K.Ord.cmp c.args.key) fs c.place-at.result) (c.deref.ensures.value ∙ c.self.view_is) c.place-at.ensures in
    let gap = subst (λ fs. IsBefore (g.K.Ord.cmp c.args.key) (drop c.place-at.result fs)) (c.deref-2.ensures.value ∙ c.self.view_is) (c.is_here.ensures.gap c.if-is_here.false) in
    sym (remove-gap g.K.Ord.cmp c.args.key c.args.self.now c.place-at.result place gap)
