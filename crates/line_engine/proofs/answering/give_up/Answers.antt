use Rattle.std.proofs.Common.{length, subst, sym}
use Rattle.std.proofs.Math.Seq.{take-length}
use Rattle.std.specs.Io.KnownBytes.{Appends}
use Rattle.line_engine.proofs.answering.give_up.Goals as goal

pub returns-in-Ok-clause-begins : goal.returns-in-Ok-clause-begins
returns-in-Ok-clause-begins g c =
    let lines = c.args.gathered.now in
    (length lines, subst (Appends _ _) (sym (take-length lines)) c.in-Ok.ensures.ok)
