use Rattle.std.proofs.Common.{◌≡◌, ◌++◌, drop, map}
use Rattle.std.specs.Prelude.{decimal}
use Rattle.line_spelling.specs.Values.{behind_commas}
use Rattle.line_write.proofs.values.put_more_numbers.Given as goal

abbrev pub invariant-loop-number : goal.invariant-loop-number
invariant-loop-number l = l.line.items ++ behind_commas (map decimal (drop l.number-index l.numbers)) ≡ l.fn.line.items ++ behind_commas (map decimal l.numbers)
