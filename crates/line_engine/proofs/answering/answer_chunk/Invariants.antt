use Rattle.std.proofs.Common.{◌≡◌, ◌+◌, ◌≤◌, [], length}
use Rattle.line_engine.proofs.Gathering.{Gathering}
use Rattle.line_engine.proofs.answering.answer_chunk.Given as goal

abbrev pub invariant-answers : goal.invariant-answers
invariant-answers g l = record {
  run : Gathering g.F.Form.meaning l.fn.form l.form (g.K.Sink.written l.fn.sink) (g.K.Sink.written l.sink) l.chunk l.gathered.items;
  empty : l.out.items ≡ [];
  load : g.F.Form.load l.form ≤ g.F.Form.load l.fn.form + length l.chunk;
  faults : g.K.Sink.faults l.sink ≡ g.K.Sink.faults l.fn.sink;
}

abbrev pub decreases-answers : goal.decreases-answers
decreases-answers g l = g.F.Form.held l.form
