use Rattle.std.proofs.Common.{◌≡◌, take}
use Rattle.follow_text.specs.Rows.{with_rows}
use Rattle.follow_text.proofs.text_row.with_rows.Given as goal

abbrev pub invariant-loop-row : goal.invariant-loop-row
invariant-loop-row l = l.text.items ≡ with_rows l.bytes (take l.row-index l.rows)
