use Rattle.std.proofs.Common.{◌≡◌, ℕ, List, ◌++◌, drop}
use Rattle.std.specs.Io.KnownBytes.{Appends}
use Rattle.peer_core.specs.Peer.{fresh_peer}
use Rattle.report_run.specs.Report.{call_lines}
use Rattle.report_run.proofs.KeptRuns.{peer_at}
use Rattle.report_run.proofs.reporting.tell_kept_calls.Given as goal

abbrev pub invariant-loop-i : goal.invariant-loop-i
invariant-loop-i g l = record {
  told : (said : List ℕ) × Appends (g.K.Sink.written l.fn.sink) (g.K.Sink.written l.sink) said
      × (l.fn.out.items ++ call_lines (fresh_peer l.history.site) l.history.run ≡ (said ++ l.out.items) ++ call_lines (peer_at l.history l.i) (drop l.i l.history.run));
  faults : g.K.Sink.faults l.sink ≡ g.K.Sink.faults l.fn.sink;
}
