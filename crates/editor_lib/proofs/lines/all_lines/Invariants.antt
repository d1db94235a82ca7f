-- The lines of the things before the index.
use Rattle.std.proofs.Common.{◌≡◌, take}
use Rattle.std.specs.List.{flat_map}
use Rattle.editor_lib.proofs.lines.all_lines.Given as goal

abbrev pub invariant-loop-thing : goal.invariant-loop-thing
invariant-loop-thing g l = l.lines.items ≡ flat_map g.T.HasLine.line (take l.thing-index l.things)
