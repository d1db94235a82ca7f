use Rattle.std.proofs.Common.{List, [], ◌∷◌, ◌++◌, sym, ap, ◌∙◌}
use Rattle.edit_message.specs.declared.message.Message.{Message}
use Rattle.peer_core.proofs.BeginningLemmas.{take_one_more}
use Rattle.host_seal.proofs.sealer.Sealer.follow.Goals as goal

pub loop-place-preserved : goal.loop-place-preserved
loop-place-preserved c =
    c.in_ok-take.ensures.taken ∙ ap (λ (K : List Message). K ++ c.in-Some.item ∷ []) c.loop-place.invariant
    ∙ sym (take_one_more c.args.peer.now.journal c.loop-place.place c.in-Some.item (sym c.in-Some.ensures))
