use Rattle.std.proofs.Common.{◌≡◌, ◌++◌, length}
use Rattle.line_spelling.specs.Values.{text_text}
use Rattle.line_write.proofs.values.put_text.Given as goal

abbrev pub invariant-loop-i : goal.invariant-loop-i
invariant-loop-i l = l.line.items ++ text_text l.rest ≡ l.fn.line.items ++ text_text l.text

abbrev pub decreases-loop-i : goal.decreases-loop-i
decreases-loop-i l = length l.rest
