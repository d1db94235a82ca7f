use Rattle.std.proofs.Common.{◌≡◌, ◌++◌, false, drop}
use Rattle.std.specs.Prelude.{option_map}
use Rattle.line_read.specs.Pieces.{unescaped_bytes}
use Rattle.line_read.proofs.pieces.unescaped_bytes.Given as goal

abbrev pub invariant-loop-b : goal.invariant-loop-b
invariant-loop-b l = unescaped_bytes false l.word ≡ option_map (λ rest. l.bytes.items ++ rest) (unescaped_bytes l.behind (drop l.b-index l.word))
