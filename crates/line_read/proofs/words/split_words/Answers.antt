use Rattle.std.proofs.Common.{sym, refl, ◌∙◌, arith, length-set}
use Rattle.line_read.proofs.RowWords.{words_next, words_end, words_left}
use Rattle.line_read.proofs.words.split_words.Goals as goal

pub returns-in_default-clause-words : goal.returns-in_default-clause-words
returns-in_default-clause-words c =
    words_end c.args.line.now c.loop-count.rest.now c.loop-count.row c.loop-count.count c.loop-count.rest c.loop-count-test.true c.loop-count.invariant.words
    (sym c.first_space.ensures.value ∙ c.in_default.is) refl

pub loop-count-preserved : goal.loop-count-preserved
loop-count-preserved c = record {
  within = omega (arith, length-set c.loop-count.row c.loop-count.count c.in_front.result);
  words =
      words_next c.args.line.now c.loop-count.rest.now c.loop-count.row c.loop-count.count c.in-Some.end c.in_front.result c.behind-rest.result c.loop-count-test.true
      c.loop-count.invariant.words (sym c.first_space.ensures.value ∙ c.in-Some.is) c.in_front.ensures c.behind-rest.ensures;
}

pub returns-clause-none : goal.returns-clause-none
returns-clause-none c =
    let left = words_left c.args.line.now c.loop-count.rest.now c.loop-count.row c.loop-count.count c.loop-count.invariant.within c.loop-count-test.false c.loop-count.invariant.words in
    omega (arith, left)
