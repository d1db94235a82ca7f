use Rattle.form_keep.proofs.Openings.{opened_old}
use Rattle.form_keep.proofs.opening.open_store.Goals as goal

pub returns-clause-opened : goal.returns-clause-opened
returns-clause-opened g c =
    opened_old c.args.site (g.D.Disk.seen c.args.disk.now) (g.D.Disk.seen c.len.new.self) (g.D.Disk.seen c.open.new.disk) (g.D.Disk.may_leave c.open.new.disk) c.in_ok-open.field-0 c.in-Ok.len
    c.in-Ok.ensures.len c.if-len-eq0.false c.in-Ok.ensures.untouched.same c.in_ok-open.ensures.seen c.in_ok-open.ensures.saved c.in_ok-open.ensures.unspent
