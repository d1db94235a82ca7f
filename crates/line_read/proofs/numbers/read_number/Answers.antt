use Rattle.std.proofs.Common.{◌≡◌, ◌+◌, ◌-◌, ◌*◌, sym, take, arith, get_or}
use Rattle.std.specs.Int.Digits.{number_from_digits}
use Rattle.line_read.specs.declared.numbers.TheConstants.{ZERO_DIGIT}
use Rattle.line_read.specs.Numbers.{digits_of}
use Rattle.line_read.proofs.DigitLemmas.{number_next, number_above}
use Rattle.line_read.proofs.numbers.read_number.Goals as goal

pub returns-then-value-limit-clause-value : goal.returns-then-value-limit-clause-value
returns-then-value-limit-clause-value c =
    let i = c.loop-digit.digit-index in
    let word = c.args.word.now in
    let next : number_from_digits 10 (take (i + 1) (digits_of word)) ≡ number_from_digits 10 (take i (digits_of word)) * 10 + (get_or word i 0 - ZERO_DIGIT)
    = number_next word i c.loop-digit-test.true in
    sym (number_above c.args.limit (i + 1) word (sym c.if-not-is_numeral.ensures) (omega (arith, next, c.loop-digit.invariant.value, c.if-value-limit.true, c.from.ensures, c.saturating_sub.ensures)))

pub loop-digit-preserved : goal.loop-digit-preserved
loop-digit-preserved c =
    let i = c.loop-digit.digit-index in
    let word = c.args.word.now in
    let next : number_from_digits 10 (take (i + 1) (digits_of word)) ≡ number_from_digits 10 (take i (digits_of word)) * 10 + (get_or word i 0 - ZERO_DIGIT)
    = number_next word i c.loop-digit-test.true in
    record {
      value = omega (arith, next, c.loop-digit.invariant.value, c.from.ensures, c.saturating_sub.ensures);
      small = omega (arith, c.if-value-limit.false);
    }
