use Rattle.std.proofs.Common.{◌∙◌, sym}
use Rattle.line_read.specs.Words.{bytes_of}
use Rattle.script_text.proofs.WorldLines.{later-taken, read_first-first}
use Rattle.script_text.proofs.line.line_of.Goals as goal

pub returns-then-first-clause-opening : goal.returns-then-first-clause-opening
returns-then-first-clause-opening c = λ first. read_first-first (bytes_of c.args.words.now) c.in-Some.line (sym c.in-Some.ensures)

pub returns-in-Ok-Some-clause-later : goal.returns-in-Ok-Some-clause-later
returns-in-Ok-Some-clause-later c = λ later.
    later-taken c.args.peers (bytes_of c.args.words.now) c.in-Ok-Some.line (sym c.in-Ok-Some.ensures ∙ c.in-Ok-Some.field-0-is)
