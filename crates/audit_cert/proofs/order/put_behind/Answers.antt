use Rattle.std.proofs.Common.{sym, ◌∙◌}
use Rattle.audit_cert.specs.Anchors.{name_under}
use Rattle.audit_cert.proofs.Followings.{put_last}
use Rattle.audit_cert.proofs.order.put_behind.Goals as goal

pub returns-in_default : goal.returns-in_default
returns-in_default c =
    let e = c.in_ok-follower.ensures in
    put_last (name_under c.args.next.now) (name_under c.insert.new.self) c.args.anchor c.args.n (sym e.old ∙ c.in_default.is) c.requires e.updates
