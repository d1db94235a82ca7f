use Rattle.std.proofs.Common.{◌≡◌, ◌++◌, take}
use Rattle.form_link.specs.Faults.{link_faults}
use Rattle.form_link.proofs.faults.push_links.Given as goal

abbrev pub invariant-loop-i : goal.invariant-loop-i
invariant-loop-i l = l.faults.items ≡ l.fn.faults.items ++ link_faults 1 (take l.i l.links)
