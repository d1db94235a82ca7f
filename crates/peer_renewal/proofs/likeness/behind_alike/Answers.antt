use Rattle.std.proofs.Common.{◌≡◌, true, arith}
use Rattle.peer_renewal.specs.Coverage.{is_kept}
use Rattle.peer_renewal.proofs.LikeLemmas.{first_alike}
use Rattle.peer_renewal.proofs.likeness.behind_alike.Goals as goal

pub returns-then-branch : goal.returns-then-branch
returns-then-branch c =
    let kept : is_kept c.args.object.now.extent ≡ true = grind (arith, c.if-not-is_kept.ensures, c.is_kept.ensures) in
    first_alike c.args.old.now c.args.new.now c.args.object.now c.anew-item.result c.args.made.now c.in-len1-up.len_at_least c.anew-item.is kept
    (c.in_ok-is_alike-in-len1-up.ensures.number c.if-branch.true) (c.in_ok-is_alike-in-len1-up.ensures.bytes c.if-branch.true)
