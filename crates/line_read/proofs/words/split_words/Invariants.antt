use Rattle.std.proofs.Common.{◌≡◌, ◌++◌, ◌-◌, ◌≤◌, length, take}
use Rattle.line_read.specs.Words.{bytes_of, words}
use Rattle.line_read.proofs.words.split_words.Given as goal

abbrev pub invariant-loop-count : goal.invariant-loop-count
invariant-loop-count l = record {
  within : l.count ≤ length l.row;
  words : words l.line ≡ bytes_of (take l.count l.row) ++ words l.rest;
}

abbrev pub decreases-loop-count : goal.decreases-loop-count
decreases-loop-count l = length l.row - l.count
