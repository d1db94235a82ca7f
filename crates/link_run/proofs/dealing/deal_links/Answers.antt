use Rattle.std.proofs.Common.{◌+◌, List, sym, subst, arith}
use Rattle.peer_lock.specs.KnownPass.{KnownPass}
use Rattle.peer_lock.specs.Dealt.{Others}
use Rattle.link_run.proofs.DealtPasses.{others_dealt}
use Rattle.link_run.proofs.dealing.deal_links.Goals as goal

pub returns-clause-theirs : goal.returns-clause-theirs
returns-clause-theirs c =
    subst (λ (l : List KnownPass). Others c.in_ok-shared.shared c.args.site (c.args.links + 1) l) (sym c.remove-pass.ensures.items)
    (others_dealt c.in_ok-shared.shared c.args.site (c.args.links + 1) c.in_ok-shared.passes.items c.in_ok-shared.ensures (omega arith))
