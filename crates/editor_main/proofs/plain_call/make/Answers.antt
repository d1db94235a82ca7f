use Rattle.std.proofs.Common.{◌∙◌}
use Rattle.line_engine.specs.declared.status.Status.TheVariants.{Done}
use Rattle.edit_make.specs.Schedule.{made_world}
use Rattle.edit_make.specs.Summary.{summary_text}
use Rattle.editor_main.proofs.Commands.{said_lines}
use Rattle.editor_main.proofs.plain_call.make.Goals as goal

pub returns-in-Ok-clause-says : goal.returns-in-Ok-clause-says
returns-in-Ok-clause-says g c =
    let seed = c.args.seed in
    let edits = c.args.edits in
    said_lines c.deref.result.now (summary_text seed edits (made_world seed edits)) Done _ _ _ c.say.ensures.says.0 (c.deref.ensures.value ∙ c.in-Ok.ensures) c.say.ensures.says.1
