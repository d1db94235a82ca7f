use Rattle.std.proofs.Common.{[], refl, ◌∙◌}
use Rattle.std.proofs.KnownBytes.{Appends-nil}
use Rattle.std.proofs.lemmas.Result.{err_from_is_err_and}
use Rattle.report_run.proofs.Tellings.{one_told, one_short}
use Rattle.report_run.proofs.KeptRuns.{peer_at, peer_next, kept_here}
use Rattle.report_run.proofs.reporting.tell_kept_calls.Goals as goal

pub loop-i-init : goal.loop-i-init
loop-i-init g c = record {
  told = ([], Appends-nil _, refl);
  faults = refl;
}

pub tell_kept_call-requires : goal.tell_kept_call-requires
tell_kept_call-requires g c = c.requires _ _ c.in-Some-answer.ensures

pub loop-i-preserved : goal.loop-i-preserved
loop-i-preserved g c =
    let history = c.args.history.now in
    let told = c.loop-i.invariant.told in
    let line = c.in_ok-tell_kept_call.ensures in
    let before = peer_at history c.loop-i.i in
    let at = c.in-Some-step_at.ensures in
    let kept = kept_here history c.loop-i.i _ _ at c.in-Some-answer.ensures in
    record {
      told = one_told _ _ _ before history.run _ _ _ _ _ c.in-Some.ensures at told _ _ _ (peer_next history c.loop-i.i _ at) (line.gathers before kept);
      faults = line.cause ∙ c.loop-i.invariant.faults;
    }

pub returns-in_err-tell_kept_call-clause-gathers : goal.returns-in_err-tell_kept_call-clause-gathers
returns-in_err-tell_kept_call-clause-gathers g c =
    let history = c.args.history.now in
    let before = peer_at history c.loop-i.i in
    let at = c.in-Some-step_at.ensures in
    let kept = kept_here history c.loop-i.i _ _ at c.in-Some-answer.ensures in
    let p = err_from_is_err_and c.from_residual.result c.from_residual.ensures.1 in
    rw (p.1, p.2) (one_short _ _ _ before history.run _ _ _ _ _ c.in-Some.ensures at c.loop-i.invariant.told _ _ (c.in_err-tell_kept_call.ensures.gathers before kept))
