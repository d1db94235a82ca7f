use Rattle.std.proofs.Common.{◌≡◌, ◌++◌, false, drop}
use Rattle.std.specs.Prelude.{option_map}
use Rattle.follow_talk.specs.InputRows.{spelled_bytes}
use Rattle.follow_talk.proofs.input_row.spelled_bytes.Given as goal

abbrev pub invariant-loop-letter : goal.invariant-loop-letter
invariant-loop-letter l = spelled_bytes false l.spelled ≡ option_map (λ rest. l.bytes.items ++ rest) (spelled_bytes l.behind (drop l.letter-index l.spelled))
