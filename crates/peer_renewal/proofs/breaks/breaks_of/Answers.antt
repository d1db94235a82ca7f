use Rattle.std.proofs.Common.{◌≡◌, ◌+◌, Bool, List, length, take, take_all, sym, ap, subst, ◌∙◌, arith}
use Rattle.std.specs.List.{All}
use Rattle.policy_book.specs.Policy.{Policy}
use Rattle.policy_book.specs.declared.parts.Object.{Object}
use Rattle.peer_renewal.specs.Coverage.{covered_bytes, kept_objects}
use Rattle.peer_renewal.specs.Cutting.{HasEdges}
use Rattle.peer_renewal.proofs.BreakLemmas.{edges_more, written_back}
use Rattle.peer_renewal.proofs.breaks.breaks_of.Goals as goal

pub loop-object-preserved : goal.loop-object-preserved
loop-object-preserved c =
    let objects : List Object = c.objects-object-items.result.now in
    let before : List Bool = c.deref_mut.result.now in
    let same : length before ≡ length c.loop-object.breaks.items = ap (λ (l : List Bool). length l) c.deref_mut.ensures.value in
    let HasAll : List Object → List Bool → Type 0 = λ (l : List Object) (breaks : List Bool). All (λ x. HasEdges (covered_bytes c.args.old.now x.extent) breaks) (kept_objects l) in
    subst (HasAll (take (c.loop-object.object-index + 1) objects))
    (sym (written_back c.loop-object.breaks.len c.mark_object.new.breaks c.loop-object.breaks.items (omega (arith, c.mark_object.auto.breaks, same)) (omega (arith, c.deref_mut.ensures.len, same))))
    (edges_more c.args.old.now objects c.loop-object.object-index c.object-item.result before c.mark_object.new.breaks (omega arith) c.object-item.is (omega (arith, c.mark_object.auto.breaks))
    c.in_ok-mark_object.ensures.stay c.in_ok-mark_object.ensures.edges
    (subst (HasAll (take c.loop-object.object-index objects)) (sym c.deref_mut.ensures.value) c.loop-object.invariant))

pub returns : goal.returns
returns c =
    let objects : List Object = c.objects-object-items.result.now in
    let HasAll : List Object → Type 0 = λ (l : List Object). All (λ x. HasEdges (covered_bytes c.args.old.now x.extent) c.loop-object.breaks.items) (kept_objects l) in
    subst HasAll (take_all c.loop-object.object-index objects c.loop-object-test.false ∙ c.objects-object-items.ensures.value ∙ ap (λ (p : Policy). p.objects) c.policy.ensures)
    c.loop-object.invariant
