use Rattle.std.proofs.Common.{◌≡◌, length, sym, ◌∙◌}
use Rattle.form_watch.specs.Run.{each_shown}
use Rattle.form_watch.specs.Workers.{Publishing, StopsShort, HasRead}
use Rattle.form_watch.proofs.Full.{stopped_opening, stopped_working}
use Rattle.form_watch.proofs.ReadPages.{has_table, read_pages}
use Rattle.form_watch.proofs.Runs.{history_is, peer_is, pages_are, ok_of, err_of}
use Rattle.form_watch.proofs.watching.watch.Goals as goal

pub end_short-requires-clause-stopped : goal.end_short-requires-clause-stopped
end_short-requires-clause-stopped g c = stopped_opening c.args.site c.in_ok-shared.pass c.in-Err.stopped.0 c.in-Err.stopped.1 c.in_ok-shared.ensures.1 c.in-Err.ensures.stopped

pub end_short-requires-in-Err-published-clause-stopped : goal.end_short-requires-in-Err-published-clause-stopped
end_short-requires-in-Err-published-clause-stopped g c =
    let ends = c.in-Ok.ends in
    let stopped = c.in-Err-published.stopped in
    let stops : StopsShort ends.0 (each_shown c.args.steps.now) stopped.0 stopped.1 = err_of (λ r. StopsShort ends.0 (each_shown c.args.steps.now) r.0 r.1) _ _ c.in-Err-published.is c.work_beside-published.ensures.stopped in
    stopped_working c.args.site c.in_ok-shared.pass ends.0 stopped.0 ends.1 ends.2 c.args.steps.now stopped.1 c.in_ok-shared.ensures.1 c.in-Ok.ensures.opened c.requires stops

pub settle-requires : goal.settle-requires
settle-requires g c =
    let ends = c.in-Ok.ends in
    let did : Publishing ends.1 ends.0 c.args.steps.now c.in-Ok-published.published.1 c.in-Ok-published.published.0 = ok_of (λ r. Publishing ends.1 ends.0 c.args.steps.now r.1 r.0) _ _ c.in-Ok-published.is c.work_beside-published.ensures.published in
    let read : HasRead ends.2 c.in_ok-reader.pages.items c.in_ok-reader.reader = ok_of (λ r. HasRead ends.2 r.1.items r.0) _ _ c.in_ok-reader.was c.work_beside-published.ensures.read in
    has_table ends.2 c.in_ok-reader.reader c.in_ok-reader.pages.items read ∙ c.in-Ok.ensures.opened.board ∙ sym did.board

pub returns-clause-run : goal.returns-clause-run
returns-clause-run g c =
    let ends = c.in-Ok.ends in
    let did : Publishing ends.1 ends.0 c.args.steps.now c.in-Ok-published.published.1 c.in-Ok-published.published.0 = ok_of (λ r. Publishing ends.1 ends.0 c.args.steps.now r.1 r.0) _ _ c.in-Ok-published.is c.work_beside-published.ensures.published in
    history_is c.args.site c.in_ok-shared.pass ends.0 c.in-Ok-published.published.0 ends.1 c.in-Ok-published.published.1 ends.2 c.args.steps.now c.in_ok-shared.ensures.1 c.in-Ok.ensures.opened did c.close-peer.result.0 c.close-peer.result.1 c.close-peer.ensures.closes c.close-peer.ensures.site

pub returns-clause-peer : goal.returns-clause-peer
returns-clause-peer g c =
    let ends = c.in-Ok.ends in
    let did : Publishing ends.1 ends.0 c.args.steps.now c.in-Ok-published.published.1 c.in-Ok-published.published.0 = ok_of (λ r. Publishing ends.1 ends.0 c.args.steps.now r.1 r.0) _ _ c.in-Ok-published.is c.work_beside-published.ensures.published in
    peer_is c.args.site c.in_ok-shared.pass ends.0 c.in-Ok-published.published.0 ends.1 c.in-Ok-published.published.1 ends.2 c.args.steps.now c.in_ok-shared.ensures.1 c.in-Ok.ensures.opened did c.close-peer.result.0 c.close-peer.result.1.run c.close-peer.ensures.closes

pub returns-clause-pages : goal.returns-clause-pages
returns-clause-pages g c =
    let ends = c.in-Ok.ends in
    let did : Publishing ends.1 ends.0 c.args.steps.now c.in-Ok-published.published.1 c.in-Ok-published.published.0 = ok_of (λ r. Publishing ends.1 ends.0 c.args.steps.now r.1 r.0) _ _ c.in-Ok-published.is c.work_beside-published.ensures.published in
    let many : length c.in_ok-reader.pages.items ≡ c.args.reads = ok_of (λ r. length r.1.items ≡ c.args.reads) _ _ c.in_ok-reader.was c.work_beside-published.ensures.many in
    let read : HasRead ends.2 c.in_ok-reader.pages.items c.in_ok-reader.reader = ok_of (λ r. HasRead ends.2 r.1.items r.0) _ _ c.in_ok-reader.was c.work_beside-published.ensures.read in
    read_pages c.args.site c.args.reads c.close-peer.result.1.run ends.2 c.in_ok-reader.reader c.in_ok-reader.pages.items c.in-Ok-published.published.1.pages c.in_ok-newest.newest many read c.in_ok-newest.ensures.read c.in_ok-newest.ensures.newest
    (pages_are c.args.site c.in_ok-shared.pass ends.0 c.in-Ok-published.published.0 ends.1 c.in-Ok-published.published.1 ends.2 c.args.steps.now c.in_ok-shared.ensures.1 c.in-Ok.ensures.opened did c.close-peer.result.0 c.close-peer.result.1.run c.close-peer.ensures.closes)
