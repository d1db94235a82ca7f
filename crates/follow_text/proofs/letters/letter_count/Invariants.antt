use Rattle.std.proofs.Common.{◌≡◌, ◌≤◌, take}
use Rattle.follow_text.specs.Letters.{letter_count}
use Rattle.follow_text.proofs.letters.letter_count.Given as goal

abbrev pub invariant-loop-byte : goal.invariant-loop-byte
invariant-loop-byte l = record {
  count : l.count ≡ letter_count (take l.byte-index l.bytes);
  bound : l.count ≤ l.byte-index;
}
