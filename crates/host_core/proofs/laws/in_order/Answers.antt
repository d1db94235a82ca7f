use Rattle.host_core.proofs.InOrder.{in_order, all_given}
use Rattle.host_core.proofs.Samples.{in_order_sample}
use Rattle.host_core.proofs.laws.in_order.Goals as goal

pub returns : goal.returns
returns c = record { order = in_order; whole = all_given; sample = in_order_sample }
