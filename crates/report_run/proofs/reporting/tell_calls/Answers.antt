use Rattle.std.proofs.Common.{[], refl, ◌∙◌}
use Rattle.std.proofs.KnownBytes.{Appends-nil}
use Rattle.std.proofs.lemmas.Result.{err_from_is_err_and}
use Rattle.report_run.proofs.Tellings.{one_told, one_short, peer_on}
use Rattle.report_run.proofs.reporting.tell_calls.Goals as goal

pub loop-i-init : goal.loop-i-init
loop-i-init g c = record {
  told = ([], Appends-nil _, refl);
  peer = refl;
  faults = refl;
}

pub loop-i-preserved : goal.loop-i-preserved
loop-i-preserved g c =
    let run = c.args.history.now.run in
    let told = c.loop-i.invariant.told in
    let line = c.in_ok-tell_call.ensures in
    record {
      told = one_told _ _ _ _ run _ _ _ _ _ c.in-Some.ensures c.in-Some-step_at.ensures told _ _ _ line.peer line.gathers;
      peer = peer_on _ _ _ _ run _ _ _ _ _ c.in-Some.ensures c.in-Some-step_at.ensures told _ _ line.peer c.loop-i.invariant.peer;
      faults = line.cause ∙ c.loop-i.invariant.faults;
    }

pub returns-in_err-tell_call-clause-gathers : goal.returns-in_err-tell_call-clause-gathers
returns-in_err-tell_call-clause-gathers g c =
    let p = err_from_is_err_and c.from_residual.result c.from_residual.ensures.1 in
    rw (p.1, p.2) (one_short _ _ _ _ c.args.history.now.run _ _ _ _ _ c.in-Some.ensures c.in-Some-step_at.ensures c.loop-i.invariant.told _ _ c.in_err-tell_call.ensures.gathers)
