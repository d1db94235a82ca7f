use Rattle.line_write.proofs.PlainTexts.{front_from_first, all_from_first}
use Rattle.line_write.proofs.values.escaped_in.Goals as goal

pub returns-clause-plain : goal.returns-clause-plain
returns-clause-plain c = front_from_first c.args.text.now c.memchr2.result c.memchr2.ensures

pub returns-clause-none : goal.returns-clause-none
returns-clause-none c = all_from_first c.args.text.now c.memchr2.result c.memchr2.ensures
