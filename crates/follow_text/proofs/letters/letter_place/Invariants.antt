use Rattle.std.proofs.Common.{◌≡◌, ◌≤◌, take}
use Rattle.follow_text.specs.Letters.{letter_count}
use Rattle.follow_text.proofs.letters.letter_place.Given as goal

abbrev pub invariant-loop-at : goal.invariant-loop-at
invariant-loop-at l = record {
  count : l.count ≡ letter_count (take l.at l.bytes);
  few : l.count ≤ l.number;
}
