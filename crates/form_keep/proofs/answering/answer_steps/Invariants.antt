use Rattle.std.proofs.Common.{◌≡◌, ◌≤◌, List}
use Rattle.std.specs.Io.KnownBytes.{Appends}
use Rattle.peer_step.specs.declared.step.Step.{Step}
use Rattle.peer_store.specs.Store.{HasGate}
use Rattle.form_keep.specs.Replies.{replies_from}
use Rattle.form_keep.specs.Reader.{to_pass, StepsRead}
use Rattle.form_keep.specs.Keeping.{AreKept}
use Rattle.form_keep.proofs.answering.answer_steps.Given as goal

abbrev pub invariant-steps : goal.invariant-steps
invariant-steps g l = record {
  run : (made : List Step) × StepsRead (g.S.Source.left l.fn.source) (g.S.Source.left l.source) l.reader made
      × AreKept l.fn.store l.store made (g.D.Disk.seen l.fn.disk) (g.D.Disk.seen l.disk) (g.D.Disk.may_leave l.fn.disk) (g.D.Disk.may_leave l.disk)
      × Appends (g.K.Sink.written l.fn.sink) (g.K.Sink.written l.sink) (replies_from l.fn.store.peer made);
  gate : HasGate l.store (g.D.Disk.seen l.disk);
  source_faults : g.S.Source.faults l.source ≡ g.S.Source.faults l.fn.source;
  sink_faults : g.K.Sink.faults l.sink ≡ g.K.Sink.faults l.fn.sink;
  disk_faults : g.D.Disk.faults l.fn.disk ≤ g.D.Disk.faults l.disk;
}

abbrev pub decreases-steps : goal.decreases-steps
decreases-steps g l = to_pass l.reader
