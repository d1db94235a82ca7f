use Rattle.std.proofs.Common.{[], ◌∷◌, sym, subst}
use Rattle.peer_disk.specs.Records.{AreBehindGate}
use Rattle.peer_disk.proofs.Behind.{one_behind}
use Rattle.peer_disk.proofs.add.put.Goals as goal

pub returns-clause-any_moment : goal.returns-clause-any_moment
returns-clause-any_moment g c site bodies =
    c.put_behind.ensures.any_moment site bodies (c.args.body.now ∷ []) (subst (AreBehindGate (c.args.body.now ∷ [])) (sym c.behind.ensures.value) (one_behind c.args.body.now c.behind.ensures.short))
