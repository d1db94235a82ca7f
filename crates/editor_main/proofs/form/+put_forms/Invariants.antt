use Rattle.std.proofs.Common.{length}
use Rattle.editor_main.proofs.form.+put_forms.Given as goal

abbrev pub decreases-put_forms : goal.decreases-put_forms
decreases-put_forms l = length l.forms.now
