use Rattle.std.proofs.Common.{◌++◌}
use Rattle.line_spelling.specs.Values.{text_text}
use Rattle.line_write.proofs.PlainTexts.{text_next}
use Rattle.line_write.proofs.values.put_text.Goals as goal

pub loop-i-preserved : goal.loop-i-preserved
loop-i-preserved c =
    text_next c.loop-i.line.items c.put_text_until.new.line.items (c.args.line.now.items ++ text_text c.args.text.now) c.loop-i.rest.now c.behind-rest.result.now c.in-Some.i
    c.in_ok-put_text_until.ensures c.behind-rest.ensures c.loop-i.invariant
