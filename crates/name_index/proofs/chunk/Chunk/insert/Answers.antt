use Rattle.std.proofs.Common.{◌∙◌, Some, drop, get_or, set, sym, subst, ap}
use Rattle.std.specs.List.{insert}
use Rattle.name_index.specs.Chunks.{IsPlace, IsHit, IsBefore}
use Rattle.name_index.proofs.Changes.{insert-hit, insert-gap, lookup-hit, lookup-gap}
use Rattle.name_index.proofs.chunk.Chunk.insert.Goals as goal

pub returns-then-is_here-clause-ok : goal.returns-then-is_here-clause-ok
returns-then-is_here-clause-ok g c =
    let place = subst (λ fs. IsPlace (g.K.Ord.cmp c.args.key) fs c.place-at.result) (c.deref.ensures.value ∙ c.self.view_is) c.place-at.ensures in
    let hit = subst (λ fs. IsHit (g.K.Ord.cmp c.args.key) fs c.place-at.result) (c.deref-2.ensures.value ∙ c.self.view_is) (c.is_here.ensures.hit c.if-is_here.true) in
    let r = c.index-old.result.now in
    record {
      entries = ap (λ e. set c.self.inside.entries.items c.place-at.result (e.0, c.args.value)) c.index-old.ensures
          ∙ ap (λ fs. set fs c.place-at.result ((get_or fs c.place-at.result r).0, c.args.value)) c.self.view_is ∙ sym (insert-hit g.K.Ord.cmp c.args.key c.args.self.now c.place-at.result place hit r c.args.value);
      answer = ap (λ e. Some e.1) (c.index-old.ensures ∙ ap (λ fs. get_or fs c.place-at.result r) c.self.view_is) ∙ sym (lookup-hit g.K.Ord.cmp c.args.key c.args.self.now c.place-at.result place hit r);
    }

pub returns-clause-ok : goal.returns-clause-ok
returns-clause-ok g c =
    let place = subst (λ fs. IsPlace (g.K.Ord.cmp c.args.key) fs c.place-at.result) (c.deref.ensures.value ∙ c.self.view_is) c.place-at.ensures in
    let gap = subst (λ fs. IsBefore (g.K.Ord.cmp c.args.key) (drop c.place-at.result fs)) (c.deref-2.ensures.value ∙ c.self.view_is) (c.is_here.ensures.gap c.if-is_here.false) in
    record {
      entries = c.in_ok-put_at.ensures.ok ∙ ap (λ fs. insert fs c.place-at.result (c.args.key, c.args.value)) c.self.view_is ∙ sym (insert-gap g.K.Ord.cmp c.args.key c.args.self.now c.place-at.result place gap c.args.value);
      answer = sym (lookup-gap g.K.Ord.cmp c.args.key c.args.self.now c.place-at.result place gap);
    }
