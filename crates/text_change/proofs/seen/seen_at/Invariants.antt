use Rattle.std.proofs.Common.{◌≡◌, take}
use Rattle.std.specs.BTreeMap.{IsOrdered}
use Rattle.std.specs.Ordering.{nat_cmp}
use Rattle.text_change.specs.Seen.{seen_at}
use Rattle.text_change.proofs.seen.seen_at.Given as goal

abbrev pub invariant-loop-element : goal.invariant-loop-element
invariant-loop-element l = record {
  entries : l.seen.entries ≡ seen_at l.peer (take l.element-index l.elements);
  ordered : IsOrdered nat_cmp l.seen;
}
