use Rattle.follow_core.proofs.PassedInOrder.{in_order, all_passed}
use Rattle.follow_core.proofs.Samples.{in_order_sample}
use Rattle.follow_core.proofs.laws.in_order.Goals as goal

pub returns : goal.returns
returns c = record { order = in_order; whole = all_passed; sample = in_order_sample }
