use Rattle.std.proofs.Common.{◌≡◌, ◌++◌, map, drop}
use Rattle.std.specs.Prelude.{option_map}
use Rattle.line_read.specs.Words.{bytes_of, each_some}
use Rattle.line_read.proofs.item.read_each.Given as goal

abbrev pub invariant-loop-word : goal.invariant-loop-word
invariant-loop-word g l =
    each_some (map g.T.Item.spelled (bytes_of l.words)) ≡ option_map (λ rest. l.items.items ++ rest) (each_some (map g.T.Item.spelled (bytes_of (drop l.word-index l.words))))
