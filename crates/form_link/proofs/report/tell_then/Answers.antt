use Rattle.form_link.proofs.Tellings.{says_then, says_front, caused_then}
use Rattle.form_link.proofs.report.tell_then.Goals as goal

pub returns-in-Done-clause-says : goal.returns-in-Done-clause-says
returns-in-Done-clause-says g c = says_then _ _ _ _ _ _ _ _ c.in-Done.is c.report.ensures.says c.say.ensures.says

pub returns-in-Done-clause-cause : goal.returns-in-Done-clause-cause
returns-in-Done-clause-cause g c = caused_then _ _ _ _ _ c.in-Done.is c.report.ensures.cause (c.say.ensures.cause c.requires.status)

pub returns-in_default-clause-says : goal.returns-in_default-clause-says
returns-in_default-clause-says g c = says_front _ _ _ _ _ _ c.in_default.not-Done c.report.ensures.says
