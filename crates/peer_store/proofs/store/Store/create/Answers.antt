use Rattle.peer_store.proofs.Putting.{none_made, file_made}
use Rattle.peer_store.proofs.store.Store.create.Goals as goal

pub returns-in_err-peer-clause-any_moment : goal.returns-in_err-peer-clause-any_moment
returns-in_err-peer-clause-any_moment g c only = none_made g.D.Disk.moment g.D.Disk.left_since g.D.Disk.may_leave g.D.Disk.seen g.met.D.Disk.only_now c.args.disk.now c.args.site only

pub returns-in_err-unsaved-clause-any_moment : goal.returns-in_err-unsaved-clause-any_moment
returns-in_err-unsaved-clause-any_moment g c only = none_made g.D.Disk.moment g.D.Disk.left_since g.D.Disk.may_leave g.D.Disk.seen g.met.D.Disk.only_now c.args.disk.now c.args.site only

pub returns-in-Err-clause-any_moment : goal.returns-in-Err-clause-any_moment
returns-in-Err-clause-any_moment g c only = file_made g.D.Disk.moment g.D.Disk.left_since g.D.Disk.may_leave g.D.Disk.seen c.args.disk.now c.create.new.disk c.args.site (c.create.ensures.any_moment only)

pub returns-in-Ok-clause-any_moment : goal.returns-in-Ok-clause-any_moment
returns-in-Ok-clause-any_moment g c only = file_made g.D.Disk.moment g.D.Disk.left_since g.D.Disk.may_leave g.D.Disk.seen c.args.disk.now c.create.new.disk c.args.site (c.create.ensures.any_moment only)
