use Rattle.form_feed.proofs.Forms.{rests_by}
use Rattle.form_feed.proofs.feeding.Feeding.new.Goals as goal

pub returns-clause-rests : goal.returns-clause-rests
returns-clause-rests g c = rests_by g.T.Intake.turn g.T.Intake.closing (record { intake = c.args.intake; splitter = c.new.result }) c.new.ensures.waiting
