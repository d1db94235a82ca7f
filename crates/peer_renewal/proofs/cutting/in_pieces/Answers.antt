use Rattle.std.proofs.Common.{◌+◌, ◌≤◌, ◌++◌, length, subst, sym, ap, ◌∙◌, ℕ, List}
use Rattle.std.specs.List.{concat}
use Rattle.peer_core.proofs.CutLemmas.{first_cut}
use Rattle.peer_renewal.proofs.CuttingLemmas.{few_cut}
use Rattle.peer_renewal.proofs.cutting.in_pieces.Goals as goal

pub loop-rest-preserved : goal.loop-rest-preserved
loop-rest-preserved c =
    record {
      bytes =
          ap (λ (ps : List (List ℕ)). concat ps ++ c.split_at.result.1.now) c.in_ok-push.ensures.items
          ∙ first_cut c.loop-rest.pieces.items c.in-Some.piece c.split_at.result.0.now c.split_at.result.1.now c.loop-rest.rest.now _ c.piece_len-size.result
          c.in-Some.ensures c.split_at.ensures.front c.split_at.ensures.back c.loop-rest.invariant.bytes;
      few =
          subst (λ (ps : List (List ℕ)). length ps + length c.split_at.result.1.now ≤ length c.args.text.now) (sym c.in_ok-push.ensures.items)
          (few_cut c.loop-rest.pieces.items c.in-Some.piece c.split_at.result.1.now c.loop-rest.rest.now _ c.piece_len-size.result
          c.piece_len-size.ensures.some c.piece_len-size.ensures.within c.split_at.ensures.back c.loop-rest.invariant.few);
    }
