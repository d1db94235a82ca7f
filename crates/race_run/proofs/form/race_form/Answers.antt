use Rattle.race_run.proofs.Races.{raced_short, raced, read_caused, write_caused}
use Rattle.race_run.proofs.form.race_form.Goals as goal

pub returns-in-Done-clause-ran : goal.returns-in-Done-clause-ran
returns-in-Done-clause-ran g c = raced c.args.site _ _ _ _ _ _ _ _ c.in-Done.is c.read_lists-lists.ensures.ran c.race_and_report.ensures.reported

pub returns-in-Done-clause-read_cause : goal.returns-in-Done-clause-read_cause
returns-in-Done-clause-read_cause g c = read_caused c.args.site _ _ _ _ _ _ _ _ _ c.in-Done.is c.read_lists-lists.ensures.read_cause c.race_and_report.ensures.reported

pub returns-in-Done-clause-write_cause : goal.returns-in-Done-clause-write_cause
returns-in-Done-clause-write_cause g c = write_caused _ _ _ _ _ c.in-Done.is c.read_lists-lists.ensures.write_cause c.race_and_report.ensures.cause

pub returns-in_default-clause-ran : goal.returns-in_default-clause-ran
returns-in_default-clause-ran g c = raced_short c.args.site _ _ _ _ _ _ c.in_default.not-Done c.read_lists-lists.ensures.ran
