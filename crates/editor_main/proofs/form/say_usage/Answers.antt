use Rattle.std.proofs.Common.{◌∙◌}
use Rattle.line_engine.specs.declared.status.Status.TheVariants.{Usage}
use Rattle.editor_main.specs.Forms.{usage_line}
use Rattle.editor_main.proofs.Commands.{said_lines}
use Rattle.editor_main.proofs.form.say_usage.Goals as goal

pub returns-in-Ok-clause-says : goal.returns-in-Ok-clause-says
returns-in-Ok-clause-says g c =
    said_lines c.deref.result.now usage_line Usage _ _ _ c.say.ensures.says.0 (c.deref.ensures.value ∙ c.in-Ok.ensures) c.say.ensures.says.1
