use Rattle.std.proofs.Common.{◌+◌, ◌++◌, List, drop, ap, ◌∙◌, arith}
use Rattle.policy_book.specs.declared.parts.Object.{Object}
use Rattle.peer_renewal.specs.Extents.{made_anew}
use Rattle.peer_renewal.proofs.Gathering.{gathered_more}
use Rattle.peer_renewal.proofs.ExtentLemmas.{anew_split}
use Rattle.peer_renewal.proofs.extents.objects_anew.Goals as goal

pub loop-object-preserved : goal.loop-object-preserved
loop-object-preserved c =
    let objects : List Object = c.objects-object-items.result.now in
    ap (λ (l : List Object). l ++ made_anew c.args.old.now c.args.pieces.now (drop (c.loop-object.object-index + 1) objects)) c.in_ok-push_kept.ensures
    ∙ gathered_more (made_anew c.args.old.now c.args.pieces.now) (anew_split c.args.old.now c.args.pieces.now) c.loop-object.objects.items
    (made_anew c.args.old.now c.args.pieces.now objects) objects c.loop-object.object-index c.object-item.result (omega arith) c.object-item.is c.loop-object.invariant
