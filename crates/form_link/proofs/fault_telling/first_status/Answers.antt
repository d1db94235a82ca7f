use Rattle.std.proofs.Common.{◌∙◌}
use Rattle.form_link.proofs.Listing.{first_is}
use Rattle.form_link.proofs.fault_telling.first_status.Goals as goal

pub returns-in-len1-up : goal.returns-in-len1-up
returns-in-len1-up c = c.status.ensures ∙ first_is c.args.faults.now _ c.in-len1-up.len_at_least
