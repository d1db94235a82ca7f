use Rattle.std.proofs.Common.{refl, ◌∙◌}
use Rattle.report_run.specs.Report.{report}
use Rattle.form_link.proofs.Tellings.{says_wanting, says_of, caused_told}
use Rattle.form_link.proofs.report.tell_run.Goals as goal

pub returns-in-NoMemory-clause-says : goal.returns-in-NoMemory-clause-says
returns-in-NoMemory-clause-says g c =
    let front = report c.args.history.now.site c.args.history.now.run in
    says_wanting _ _ _ _ _ _ refl (says_of _ _ front _ _ _ _ _ (c.deref.ensures.value ∙ c.in-Ok.ensures) c.faults_status-status.ensures c.tell_then-told.ensures.says)

pub returns-clause-says : goal.returns-clause-says
returns-clause-says g c =
    let front = report c.args.history.now.site c.args.history.now.run in
    says_of _ _ front _ _ _ _ _ (c.deref.ensures.value ∙ c.in-Ok.ensures) c.faults_status-status.ensures c.tell_then-told.ensures.says

pub returns-clause-cause : goal.returns-clause-cause
returns-clause-cause g c = caused_told _ _ _ c.tell_then-told.ensures.cause
