use Rattle.std.proofs.Common.{◌≡◌, ◌≤◌, take}
use Rattle.std.specs.Int.Digits.{number_from_digits}
use Rattle.line_read.specs.Numbers.{digits_of}
use Rattle.line_read.proofs.numbers.read_number.Given as goal

abbrev pub invariant-loop-digit : goal.invariant-loop-digit
invariant-loop-digit l = record {
  value : l.value ≡ number_from_digits 10 (take l.digit-index (digits_of l.word));
  small : l.value ≤ l.limit;
}
