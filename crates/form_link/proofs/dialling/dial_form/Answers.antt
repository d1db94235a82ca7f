use Rattle.std.proofs.Common.{refl}
use Rattle.form_link.proofs.Causes.{told_cause}
use Rattle.form_link.proofs.Doors.{door_ok, form_told}
use Rattle.form_link.proofs.dialling.dial_form.Goals as goal

pub returns-in-Ok-clause-ran : goal.returns-in-Ok-clause-ran
returns-in-Ok-clause-ran g c =
    form_told _ c.args.site _ _ _ _ _ _ _ _ c.read_steps-input.result.steps.items _ c.read_steps-input.result.end c.read_steps-input.ensures.read c.read_steps-input.ensures.cause
    _ c.in-Ok.run' c.in-Ok.ensures.led c.in_default.not-NoMemory refl c.in-Ok.ensures.ends (door_ok c.dial_behind.ensures.door c.in-Ok.is) c.tell.ensures.says

pub returns-in-Ok-clause-link_cause : goal.returns-in-Ok-clause-link_cause
returns-in-Ok-clause-link_cause g c =
    told_cause c.in-Ok.run' (door_ok c.dial_behind.ensures.door c.in-Ok.is) c.in-Ok.run'.history.site c.read_steps-input.result.end _ _ _ c.tell.ensures.says
