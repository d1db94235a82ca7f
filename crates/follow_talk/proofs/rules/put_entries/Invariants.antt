use Rattle.std.proofs.Common.{◌≡◌, ◌++◌, take}
use Rattle.follow_talk.specs.OutputRows.{entry_lines}
use Rattle.follow_talk.proofs.rules.put_entries.Given as goal

abbrev pub invariant-loop-place : goal.invariant-loop-place
invariant-loop-place l = l.out.items ≡ l.fn.out.items ++ entry_lines (take l.place l.peer.journal)
