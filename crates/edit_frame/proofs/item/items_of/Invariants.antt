use Rattle.std.proofs.Common.{◌≡◌, ◌-◌}
use Rattle.edit_frame.specs.Fields.{items_at}
use Rattle.edit_frame.proofs.Loop.{with_prefix}
use Rattle.edit_frame.proofs.item.items_of.Given as goal

abbrev pub invariant-loop : goal.invariant-loop
invariant-loop g l = with_prefix l.items.items (items_at g.T.Item.item_at (l.count - l.counter) l.rest.now) ≡ items_at g.T.Item.item_at l.count l.fn.rest.now
