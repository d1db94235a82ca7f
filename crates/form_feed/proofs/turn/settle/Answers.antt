use Rattle.std.proofs.Common.{arith}
use Rattle.form_feed.proofs.Settling.{is_due_by, not_due_by, lines_end, peer_end, lines_more, peer_more, held_less, lines_over, peer_over}
use Rattle.form_feed.proofs.turn.settle.Goals as goal

pub returns-then-not-due-clause-told : goal.returns-then-not-due-clause-told
returns-then-not-due-clause-told g c =
    let step = c.in_ok-due.ensures in
    lines_end g.T.Telling.line c.steps.peer c.settle_first.new.peer (g.T.Telling.told c.steps.to) (g.T.Telling.told c.settle_first.new.to) step.told step.peer _
    (not_due_by _ _ step.due c.if-not-due.true) c.steps.invariant.told

pub returns-then-not-due-clause-peer : goal.returns-then-not-due-clause-peer
returns-then-not-due-clause-peer g c =
    let step = c.in_ok-due.ensures in
    peer_end g.T.Telling.line c.steps.peer c.settle_first.new.peer (g.T.Telling.told c.steps.to) (g.T.Telling.told c.settle_first.new.to) step.told step.peer _
    (not_due_by _ _ step.due c.if-not-due.true) c.steps.invariant.peer

pub steps-smaller : goal.steps-smaller
steps-smaller g c =
    let step = c.in_ok-due.ensures in
    held_less g.T.Telling.line c.steps.peer c.settle_first.new.peer (g.T.Telling.told c.steps.to) (g.T.Telling.told c.settle_first.new.to) step.told step.peer
    (is_due_by _ _ step.due c.if-not-due.false)

pub steps-preserved : goal.steps-preserved
steps-preserved g c =
    let step = c.in_ok-due.ensures in
    let due = is_due_by _ _ step.due c.if-not-due.false in
    record {
      told = lines_more g.T.Telling.line c.steps.peer c.settle_first.new.peer (g.T.Telling.told c.steps.to) (g.T.Telling.told c.settle_first.new.to) step.told step.peer _ due
          c.steps.invariant.told;
      peer = peer_more g.T.Telling.line c.steps.peer c.settle_first.new.peer (g.T.Telling.told c.steps.to) (g.T.Telling.told c.settle_first.new.to) step.told step.peer _ due
          c.steps.invariant.peer;
    }

pub returns-clause-told : goal.returns-clause-told
returns-clause-told g c =
    lines_over g.T.Telling.line c.steps.peer (g.T.Telling.told c.steps.to) _ (omega (arith, c.held_len.ensures, c.steps-test.false)) c.steps.invariant.told

pub returns-clause-peer : goal.returns-clause-peer
returns-clause-peer g c = peer_over c.steps.peer _ (omega (arith, c.held_len.ensures, c.steps-test.false)) c.steps.invariant.peer
