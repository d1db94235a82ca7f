-- What is held of the deletes and the updates that count.
use Rattle.std.specs.Prelude.{[]}
use Rattle.elem_show.specs.Cell.{Counts}
use Rattle.elem_show.specs.Counting.{HasLetters}
use Rattle.elem_show.specs.declared.counts.Held.{Held}
use Rattle.elem_show.specs.declared.counts.Held.TheVariants.{Cuts, Both}

-- the deletes and the updates that count
abbrev pub counts_in : Held → Counts
counts_in (Cuts cuts) = record { cuts = cuts; letters = [] }
counts_in (Both both) = record { cuts = both.value.cuts; letters = both.value.letters.entries }

-- letters that are held are in order, and few
abbrev pub HoldsLetters : Held → Type 0
HoldsLetters (Cuts cuts) = Unit {0}
HoldsLetters (Both both) = HasLetters both.value.letters.entries
