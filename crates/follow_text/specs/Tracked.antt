-- What a program has that is told rows.
use Rattle.std.specs.Prelude.{ℕ, List}
use Rattle.follow_text.specs.declared.tracked.Tracked.{Tracked}
use Rattle.follow_text.specs.Rows.{with_rows}

-- its text once it has seen all rows that it was told
abbrev pub told_bytes : Tracked → List ℕ
told_bytes t = with_rows t.bytes.items t.unseen.items
