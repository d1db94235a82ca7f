use Rattle.std.proofs.Common.{◌++◌, refl, ap, ◌∙◌}
use Rattle.std.specs.Prelude.{option_to_list}
use Rattle.std.specs.declared.option.Option.{Option}
use Rattle.form_link.specs.declared.faults.Fault.{Fault}
use Rattle.form_link.proofs.Listing.{one_link}
use Rattle.form_link.proofs.faults.push_links.Goals as goal

pub loop-i-preserved : goal.loop-i-preserved
loop-i-preserved c = one_link _ _ c.args.links.now _ _ _ _ _ c.loop-i-test.true refl refl c.loop-i.invariant (c.in_ok-push_fault.ensures ∙ ap (λ (o : Option Fault). c.loop-i.faults.items ++ option_to_list o) c.outcome_fault.ensures)
