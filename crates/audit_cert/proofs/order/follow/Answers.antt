use Rattle.std.proofs.Common.{List, [], ◌∷◌, ◌++◌, sym, ap, subst, ◌∙◌}
use Rattle.element_name.specs.Name.{Name}
use Rattle.element_name.specs.Tree.{order}
use Rattle.audit_cert.specs.Anchors.{name_under, placed_from}
use Rattle.audit_cert.proofs.Followings.{IsFollowed, one_followed, all_followed}
use Rattle.audit_cert.proofs.order.follow.Goals as goal

pub loop-name-preserved : goal.loop-name-preserved
loop-name-preserved c =
    let all = order (placed_from c.args.anchors.now) in
    let next = name_under c.args.next.now in
    let m = c.in-Some.name in
    subst (λ (done : List Name). IsFollowed all done next m) (sym (c.in_ok-push.ensures.items ∙ ap (λ (k : Name). c.loop-name.names.items ++ k ∷ []) c.name.ensures))
    (one_followed all c.loop-name.names.items next c.loop-name.last m c.loop-name.invariant (sym c.in-Some.ensures.value))

pub returns : goal.returns
returns c =
    all_followed (order (placed_from c.args.anchors.now)) c.loop-name.names.items (name_under c.args.next.now) c.loop-name.last c.loop-name.invariant
    (sym c.in_default.ensures.value)
