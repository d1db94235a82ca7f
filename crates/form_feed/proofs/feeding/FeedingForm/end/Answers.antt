use Rattle.form_feed.proofs.Forms.{where_ok, ends_cut, ends_short, ends_done}
use Rattle.form_feed.proofs.feeding.FeedingForm.end.Goals as goal

pub returns-then-cut-clause-ends : goal.returns-then-cut-clause-ends
returns-then-cut-clause-ends g c =
    rw c.if-cut.true (ends_cut g.T.Intake.turn g.T.Intake.closing c.args.self.now c.args.out.now.items c.extend_from_slice.new.self.items c.requires.rests.idle
    c.in_ok-extend_from_slice.ensures.items c.requires.empty)

pub returns-in-Err-clause-ends : goal.returns-in-Err-clause-ends
returns-in-Err-clause-ends g c =
    rw c.if-cut.false (ends_short g.T.Intake.turn g.T.Intake.closing c.args.self.now c.in-Err.fault c.args.out.now.items c.frame_fault_line.new.out.items c.requires.rests.idle
    c.in-Err.ensures.0 c.in-Err.ensures.1
    (where_ok c.frame_fault_line.result c.or.result _ _ c.or.ensures (c.in_ok-or.was {u = tt}) c.frame_fault_line.ensures.ok) c.requires.empty)

pub returns-clause-ends : goal.returns-clause-ends
returns-clause-ends g c =
    rw c.if-cut.false (ends_done g.T.Intake.turn g.T.Intake.closing c.args.self.now c.args.out.now.items c.close.new.out.items c.requires.rests.idle c.in_default.ensures
    (where_ok c.close.result c.or-2.result _ _ c.or-2.ensures (c.in_ok-or-2.was {u = tt}) c.close.ensures.lines) c.requires.empty)
