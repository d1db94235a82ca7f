use Rattle.std.proofs.Common.{refl, ap, ◌∙◌}
use Rattle.std.proofs.KnownBytes.{Appends-nil}
use Rattle.std.proofs.lemmas.Result.{err_from_is_err_and}
use Rattle.form_watch.specs.Reads.{page_line}
use Rattle.form_watch.proofs.Tellings.{one_told, one_short, all_told}
use Rattle.form_watch.proofs.telling.tell_pages.Goals as goal

pub loop-page-init : goal.loop-page-init
loop-page-init g c = record { told = Appends-nil _; faults = refl }

pub loop-page-preserved : goal.loop-page-preserved
loop-page-preserved g c = record {
  told = one_told _ _ _ c.args.newest.now c.args.pages.now c.loop-page.page-index c.page-item.result (page_line c.told_page.result.now) c.loop-page-test.true c.page-item.is (ap page_line c.told_page.ensures) c.loop-page.invariant.told c.in_ok-tell_page.ensures.tells;
  faults = c.in_ok-tell_page.ensures.cause ∙ c.loop-page.invariant.faults;
}

pub returns-in_err-tell_page-clause-tells : goal.returns-in_err-tell_page-clause-tells
returns-in_err-tell_page-clause-tells g c =
    let p = err_from_is_err_and c.from_residual.result c.from_residual.ensures.1 in
    rw (p.1, p.2)
    (one_short _ _ _ c.args.newest.now c.args.pages.now c.loop-page.page-index c.page-item.result (page_line c.told_page.result.now) c.loop-page-test.true c.page-item.is (ap page_line c.told_page.ensures) c.loop-page.invariant.told _ c.in_err-tell_page.ensures.tells)

pub returns-clause-tells : goal.returns-clause-tells
returns-clause-tells g c = all_told _ _ c.args.newest.now c.args.pages.now c.loop-page.page-index c.loop-page-test.false c.loop-page.invariant.told
