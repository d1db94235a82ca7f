use Rattle.std.proofs.Common.{◌-◌, length}
use Rattle.element_name.specs.Tree.{order}
use Rattle.audit_cert.specs.Anchors.{name_under, placed_from}
use Rattle.audit_cert.proofs.Followings.{IsFollowed}
use Rattle.audit_cert.proofs.order.follow.Given as goal

abbrev pub invariant-loop-name : goal.invariant-loop-name
invariant-loop-name l = IsFollowed (order (placed_from l.anchors)) l.names.items (name_under l.next) l.last

abbrev pub decreases-loop-name : goal.decreases-loop-name
decreases-loop-name l = length (order (placed_from l.anchors)) - length l.names.items
