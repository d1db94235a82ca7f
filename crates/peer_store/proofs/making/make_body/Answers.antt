use Rattle.std.proofs.Common.{arith}
use Rattle.std.proofs.lemmas.Result.{IfOk-weaker}
use Rattle.peer_store.proofs.MadeBodies.{makes_body, is_no_step}
use Rattle.peer_store.proofs.making.make_body.Goals as goal

pub returns-clause-made : goal.returns-clause-made
returns-clause-made c =
    IfOk-weaker c.make_in.result _ _ (λ told made. makes_body c.args.peer.now c.make_in.new.peer c.args.body.now told (λ i. omega (arith, c.type_inv.body i)) made) c.make_in.ensures

pub returns-clause-no_step : goal.returns-clause-no_step
returns-clause-no_step c = IfOk-weaker c.make_in.result _ _ (λ told made. is_no_step c.args.peer.now c.make_in.new.peer c.args.body.now told made) c.make_in.ensures
