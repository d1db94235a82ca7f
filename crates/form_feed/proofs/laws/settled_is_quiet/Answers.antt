use Rattle.form_feed.proofs.Settling.{settled_ends}
use Rattle.form_feed.proofs.laws.settled_is_quiet.Goals as goal

pub returns : goal.returns
returns c = settled_ends
