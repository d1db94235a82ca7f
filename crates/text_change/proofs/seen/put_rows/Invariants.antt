use Rattle.std.proofs.Common.{◌≡◌, ◌+◌, ◌≤◌, ◌++◌, vec_len, vec_capacity, filter_map, length}
use Rattle.text_change.specs.Seen.{row_by}
use Rattle.text_change.proofs.seen.put_rows.Given as goal

abbrev pub invariant-loop-seen : goal.invariant-loop-seen
invariant-loop-seen l = record {
  can : (goal.iterator-loop-seen).can_next l.seen-iterator;
  finite : (goal.iterator-loop-seen).is_finite l.seen-iterator;
  rows : l.fn.rows.items ++ filter_map (row_by l.peer) l.fn.seen.entries ≡ l.rows.items ++ filter_map (row_by l.peer) l.seen-iterator;
  room : vec_len l.rows + length l.seen-iterator ≤ vec_capacity l.rows;
}
