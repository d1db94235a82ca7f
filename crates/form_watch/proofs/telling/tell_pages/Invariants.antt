use Rattle.std.proofs.Common.{◌≡◌, take}
use Rattle.std.specs.Prelude.{flat_map, map}
use Rattle.std.specs.Io.KnownBytes.{Appends}
use Rattle.form_watch.specs.Reads.{page_line}
use Rattle.form_watch.specs.Workers.{told_page}
use Rattle.form_watch.proofs.telling.tell_pages.Given as goal

abbrev pub invariant-loop-page : goal.invariant-loop-page
invariant-loop-page g l = record {
  told : Appends (g.K.Sink.written l.fn.sink) (g.K.Sink.written l.sink) (flat_map page_line (map (told_page l.newest) (take l.page-index l.pages)));
  faults : g.K.Sink.faults l.sink ≡ g.K.Sink.faults l.fn.sink;
}
