use Rattle.std.proofs.Common.{◌≡◌, length}
use Rattle.form_watch.specs.Workers.{HasRead}
use Rattle.form_watch.proofs.reading.read_all.Given as goal

abbrev pub invariant-loop-read : goal.invariant-loop-read
invariant-loop-read g l = record {
  many : length l.pages.items ≡ l.read;
  pages : HasRead l.initial.reader l.pages.items l.reader;
}
