use Rattle.std.proofs.Common.{ℕ, List, ap, ◌∙◌}
use Rattle.std.specs.declared.option.Option.{Option}
use Rattle.std.specs.declared.result.Result.{Result}
use Rattle.session_core.specs.declared.fault.SessionFault.{SessionFault}
use Rattle.form_link.specs.Faults.{faults_of}
use Rattle.form_link.proofs.Causes.{told_so}
use Rattle.form_link.proofs.telling.tell.Goals as goal

pub returns-in-Ok-clause-says : goal.returns-in-Ok-clause-says
returns-in-Ok-clause-says g c =
    let faults = λ (l : List (Option (Result ℕ SessionFault))). faults_of c.args.run.door_failed c.args.end c.args.run.own l in
    told_so c.args.run.history.site c.args.run.history.run c.deref-in-Ok.result.now (faults c.args.run.links.items) _ _ _
    (c.deref-in-Ok.ensures.value ∙ c.in-Ok.ensures ∙ ap faults c.deref.ensures.value) c.tell_run.ensures.says
