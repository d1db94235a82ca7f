use Rattle.std.proofs.Common.{[], refl, ◌∙◌}
use Rattle.form_feed.proofs.Forms.{waits_by, bad_by, follows_frame}
use Rattle.form_feed.proofs.feeding.FeedingForm.next.Goals as goal

pub returns-in-Ok-Taken-clause-goes : goal.returns-in-Ok-Taken-clause-goes
returns-in-Ok-Taken-clause-goes g c =
    let taken = rw c.in-Ok-Taken.field-0-is at c.in-Ok-Taken.ensures in
    follows_frame g.T.Intake.turn g.T.Intake.closing c.args.self.now (record { intake = c.take_first.new.intake; splitter = c.pass.new.self }) taken.frame
    [] c.take_first.new.out.items taken.first (c.pass.ensures ∙ taken.past) taken.after taken.reply refl

pub returns-in-Ok-Waiting-clause-goes : goal.returns-in-Ok-Waiting-clause-goes
returns-in-Ok-Waiting-clause-goes g c =
    let waiting = rw c.in-Ok-Waiting.field-0-is at c.in-Ok-Waiting.ensures in
    waits_by g.T.Intake.turn g.T.Intake.closing c.args.self.now (record { intake = c.take_first.new.intake; splitter = c.args.self.now.splitter }) waiting.0 refl waiting.1

pub returns-in-Ok-Bad-clause-goes : goal.returns-in-Ok-Bad-clause-goes
returns-in-Ok-Bad-clause-goes g c =
    let bad = rw c.in-Ok-Bad.field-0-is at c.in-Ok-Bad.ensures in
    bad_by g.T.Intake.turn g.T.Intake.closing c.args.self.now (record { intake = c.take_first.new.intake; splitter = c.args.self.now.splitter }) bad.0.fault
    [] c.take_first.new.out.items bad.0.first bad.0.whole bad.0.place bad.1 bad.0.line refl
