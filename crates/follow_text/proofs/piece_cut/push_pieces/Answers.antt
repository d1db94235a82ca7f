use Rattle.std.proofs.Common.{ap, ◌∙◌, ◌++◌}
use Rattle.std.specs.List.{concat}
use Rattle.peer_core.proofs.CutLemmas.{first_cut}
use Rattle.follow_text.proofs.piece_cut.push_pieces.Goals as goal

pub loop-rest-preserved : goal.loop-rest-preserved
loop-rest-preserved c =
    ap (λ ps. concat ps ++ c.split_at.result.1.now) c.in_ok-push.ensures.items
    ∙ first_cut c.loop-rest.pieces.items c.in-Some.piece c.split_at.result.0.now c.split_at.result.1.now c.loop-rest.rest.now _ c.piece_len.result
    c.in-Some.ensures c.split_at.ensures.front c.split_at.ensures.back c.loop-rest.invariant
