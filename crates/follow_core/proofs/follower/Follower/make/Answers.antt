use Rattle.std.proofs.Common.{refl, ap, subst, ◌∙◌}
use Rattle.peer_core.specs.Peer.{Peer}
use Rattle.text_change.specs.Ahead.{IsAheadOf}
use Rattle.text_change.specs.Told.{AreRowsOf}
use Rattle.follow_core.specs.Past.{follow_saved}
use Rattle.host_core.proofs.Kept.{kept_still}
use Rattle.follow_core.proofs.Kept.{made_peer, kept_peer, rows_are}
use Rattle.follow_core.proofs.follower.Follower.make.Goals as goal

pub invariant_of-self : goal.invariant_of-self
invariant_of-self g c = record {
  peer_is = kept_peer _ _ c.args.self.now.outbox c.args.self.now.outbox c.args.self.now.peer_is c.in_err-answer.ensures.unchanged refl;
  kept = kept_still g.K.Keeper.keeps _ _ (follow_saved c.args.self.now.outbox) (follow_saved c.args.self.now.outbox) refl c.make.ensures.kept c.args.self.now.kept;
}

pub invariant_of-self-2 : goal.invariant_of-self-2
invariant_of-self-2 g c = record {
  peer_is = made_peer _ _ c.args.step _ _ c.args.self.now.peer_is c.in_ok-answer.ensures.after (c.made.ensures ∙ c.foreseen-past.ensures);
  kept = kept_still g.K.Keeper.keeps _ _ (follow_saved c.args.self.now.outbox) (follow_saved c.made.new.self) (ap follow_saved (c.made.ensures ∙ c.foreseen-past.ensures)) c.make.ensures.kept c.args.self.now.kept;
}

pub returns-clause-rows : goal.returns-clause-rows
returns-clause-rows g c =
    let ahead = subst (λ (p : Peer). IsAheadOf p c.args.step c.in-Ok.ahead.touched) c.peer.ensures c.in-Ok.ensures in
    let told = c.rows-rows.ensures (g.K.Keeper.peer c.args.self.now.keeper) c.args.step ahead c.in_ok-answer.ensures.answer (c.peer-2.ensures ∙ c.in_ok-answer.ensures.after) in
    rows_are _ _ c.args.self.now.outbox _ c.args.step _ c.args.self.now.peer_is c.in_ok-answer.ensures.after (c.made.ensures ∙ c.foreseen-past.ensures)
    (subst (λ (q : Peer). AreRowsOf (g.K.Keeper.peer c.args.self.now.keeper) q c.rows-rows.result.items) c.peer-2.ensures told)
