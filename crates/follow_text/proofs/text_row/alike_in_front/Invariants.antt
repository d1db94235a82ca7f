use Rattle.std.proofs.Common.{◌≡◌, take}
use Rattle.follow_text.proofs.text_row.alike_in_front.Given as goal

abbrev pub invariant-loop-count : goal.invariant-loop-count
invariant-loop-count l = take l.count l.old ≡ take l.count l.new
