use Rattle.std.proofs.Common.{List}
use Rattle.edit_message.specs.declared.message.Message.{Message}
use Rattle.host_renewal.proofs.making.make_items.Given as goal

abbrev pub invariant-loop-place : goal.invariant-loop-place
invariant-loop-place g l = (J : List Message) → g.K.Keeper.keeps l.fn.keeper J → g.K.Keeper.keeps l.keeper J
