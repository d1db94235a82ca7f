use Rattle.host_core.proofs.Adding.{held, clock, reserve, share}
use Rattle.host_core.proofs.Going.{goes_on}
use Rattle.host_core.proofs.Samples.{share_sample}
use Rattle.host_core.proofs.laws.nobody_stops_the_others.Goals as goal

pub returns : goal.returns
returns c = record { held = held; clock = clock; reserve = reserve; share = share; sample = share_sample; goes_on = goes_on }
