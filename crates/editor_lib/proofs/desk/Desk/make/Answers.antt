use Rattle.editor_lib.proofs.MadeLemmas.{made_and_told}
use Rattle.editor_lib.proofs.desk.Desk.make.Goals as goal

pub returns-in-Ok-told : goal.returns-in-Ok-told
returns-in-Ok-told c =
    let made = c.in-Ok.ensures in
    made_and_told c.args.step _ c.args.self.now c.step_told.new.peer c.in-Ok.made.answer c.in-Ok.made.rows.items c.deref.result.now c.in-Ok-told.told c.self.view_is made.answer made.after made.text made.one made.few
    c.deref.ensures.value c.in-Ok-told.ensures
