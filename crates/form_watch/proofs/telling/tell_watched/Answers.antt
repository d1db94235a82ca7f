use Rattle.std.proofs.Common.{List, ap}
use Rattle.std.specs.Prelude.{flat_map, map}
use Rattle.report_run.specs.Report.{report}
use Rattle.screen_read.specs.Pages.{PageText}
use Rattle.form_watch.specs.Reads.{page_line}
use Rattle.form_watch.specs.Workers.{told_page}
use Rattle.form_watch.proofs.Tellings.{said_all, said_part, said_short}
use Rattle.form_watch.proofs.telling.tell_watched.Goals as goal

pub returns-in-Ok-clause-says : goal.returns-in-Ok-clause-says
returns-in-Ok-clause-says g c =
    let watched = c.args.watched.now in
    said_all _ _ _ (report watched.history.site watched.history.run) _ _ _ (ap (λ (ps : List PageText). flat_map page_line (map (told_page watched.newest) ps)) c.deref.ensures.value) c.in-Done.is c.report.ensures.says c.in-Ok.ensures.tells

pub returns-in-Err-clause-says : goal.returns-in-Err-clause-says
returns-in-Err-clause-says g c =
    let watched = c.args.watched.now in
    said_part _ _ _ (report watched.history.site watched.history.run) _ _ _ (ap (λ (ps : List PageText). flat_map page_line (map (told_page watched.newest) ps)) c.deref.ensures.value) c.in-Done.is c.report.ensures.says _ c.in-Err.ensures.tells

pub returns-in_default : goal.returns-in_default
returns-in_default g c =
    let watched = c.args.watched.now in
    record {
      says = said_short _ _ (report watched.history.site watched.history.run) _ _ c.in_default.not-Done c.report.ensures.says;
      cause = c.report.ensures.cause;
    }
