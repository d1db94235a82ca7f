use Rattle.std.proofs.Common.{◌≡◌, ◌++◌, length}
use Rattle.std.specs.List.{flat_map}
use Rattle.form_feed.specs.Turn.{all_settle_steps}
use Rattle.form_feed.proofs.turn.settle.Given as goal

abbrev pub invariant-steps : goal.invariant-steps
invariant-steps g l = record {
  told : g.T.Telling.told l.to ++ flat_map g.T.Telling.line (all_settle_steps l.peer).answers
      ≡ g.T.Telling.told l.fn.to ++ flat_map g.T.Telling.line (all_settle_steps l.fn.peer).answers;
  peer : (all_settle_steps l.peer).peer ≡ (all_settle_steps l.fn.peer).peer;
}

abbrev pub decreases-steps : goal.decreases-steps
decreases-steps g l = length l.peer.held
