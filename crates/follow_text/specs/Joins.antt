-- Two rows of a text, one behind the other, that are told as one.
use Rattle.std.specs.Prelude.{◌==◌, ◌+◌, ◌^◌, Bool, ◌&&◌, ◌||◌, List, ℕ, length, nat_lt, nat_le}
use Rattle.follow_text.specs.declared.text_row.TextRow.{TextRow}
use Rattle.follow_text.specs.Rows.{Makes}

-- the next row begins where what the first one put in ends, or stands within that
abbrev pub stands_in_put : TextRow → TextRow → Bool
stands_in_put first next = nat_le first.at next.at && ((next.at == first.at + length first.put.items) || nat_le (next.at + next.out) (first.at + length first.put.items))

-- the next row ends where the first one begins
abbrev pub ends_before : TextRow → TextRow → Bool
ends_before first next = nat_lt next.at first.at && (next.at + next.out == first.at)

-- one or the other, and what they take out together is a number of the machine
abbrev pub touches_row : TextRow → TextRow → Bool
touches_row first next = nat_lt (first.out + next.out) (2 ^ 64) && (stands_in_put first next || ends_before first next)

-- one row makes of each text what the other makes of it
abbrev pub MakesAs : TextRow → TextRow → Type 0
MakesAs before after = (old new : List ℕ) → Makes old new before → Makes old new after

-- one row makes of each text what the two make of it, one after the other
abbrev pub IsJoin : TextRow → TextRow → TextRow → Type 0
IsJoin first next joined = (old mid new : List ℕ) → Makes old mid first → Makes mid new next → Makes old new joined
