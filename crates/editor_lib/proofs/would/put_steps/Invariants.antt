-- The steps of the lines before the index, and then those of the others.
use Rattle.std.proofs.Common.{◌≡◌, ◌++◌, map, drop}
use Rattle.std.specs.Prelude.{option_map}
use Rattle.line_read.specs.Words.{bytes_of, each_some}
use Rattle.line_read.specs.Step.{step_line}
use Rattle.editor_lib.proofs.would.put_steps.Given as goal

abbrev pub invariant-loop-line : goal.invariant-loop-line
invariant-loop-line l =
    each_some (map step_line (bytes_of l.lines)) ≡ option_map (λ rest. l.row.items ++ rest) (each_some (map step_line (bytes_of (drop l.line-index l.lines))))
