use Rattle.std.proofs.Common.{length}
use Rattle.peer_disk.proofs.Crashes.{during_first, during_both, both_keep}
use Rattle.peer_disk.proofs.Gates.{within_till, stays_till, stays_within, next_there}
use Rattle.peer_disk.proofs.gate.put_behind.Goals as goal

pub returns-in_err-write_synced-clause-any_moment : goal.returns-in_err-write_synced-clause-any_moment
returns-in_err-write_synced-clause-any_moment g c site bodies more are kept =
    during_first g.D.Disk.moment g.D.Disk.left_since g.D.Disk.may_leave g.D.Disk.seen site bodies c.args.place c.args.disk.now c.write_synced.new.disk kept more
    (length c.args.behind.now) c.write_synced.ensures.any_moment

pub returns-in_err-write_synced-2-clause-any_moment : goal.returns-in_err-write_synced-2-clause-any_moment
returns-in_err-write_synced-2-clause-any_moment g c site bodies more are kept =
    during_both g.D.Disk.moment g.D.Disk.left_since g.D.Disk.may_leave g.D.Disk.seen site bodies c.args.place c.args.disk.now c.write_synced.new.disk kept more
    c.args.behind.now are c.in_ok-write_synced.ensures.written c.in_ok-write_synced.ensures.durable
    (length c.args.behind.now) c.write_synced-2.new.disk c.write_synced.ensures.any_moment c.write_synced-2.ensures.any_moment

pub returns-clause-any_moment : goal.returns-clause-any_moment
returns-clause-any_moment g c site bodies more are kept =
    during_both g.D.Disk.moment g.D.Disk.left_since g.D.Disk.may_leave g.D.Disk.seen site bodies c.args.place c.args.disk.now c.write_synced.new.disk kept more
    c.args.behind.now are c.in_ok-write_synced.ensures.written c.in_ok-write_synced.ensures.durable
    (length c.args.behind.now) c.write_synced-2.new.disk c.write_synced.ensures.any_moment c.write_synced-2.ensures.any_moment

pub returns-clause-kept : goal.returns-clause-kept
returns-clause-kept g c site bodies more are kept =
    both_keep g.D.Disk.moment g.D.Disk.left_since g.D.Disk.may_leave g.D.Disk.seen site bodies c.args.place c.args.disk.now c.write_synced.new.disk kept more
    c.args.behind.now are c.in_ok-write_synced.ensures.written c.in_ok-write_synced.ensures.durable
    c.write_synced-2.new.disk c.in_ok-write_synced-2.ensures.written c.in_ok-write_synced-2.ensures.durable

pub write_synced-requires : goal.write_synced-requires
write_synced-requires g c = within_till c.args.place (g.D.Disk.seen c.args.disk.now) c.requires.gate

pub write_synced-requires-2 : goal.write_synced-requires-2
write_synced-requires-2 g c = stays_till c.args.place (g.D.Disk.seen c.args.disk.now) (g.D.Disk.seen c.write_synced.new.disk) c.requires.gate c.write_synced.ensures.no_shorter

pub returns-in_err-write_synced-clause-gate : goal.returns-in_err-write_synced-clause-gate
returns-in_err-write_synced-clause-gate g c = stays_within c.args.place (g.D.Disk.seen c.args.disk.now) (g.D.Disk.seen c.write_synced.new.disk) c.requires.gate c.write_synced.ensures.no_shorter

pub returns-in_err-write_synced-2-clause-gate : goal.returns-in_err-write_synced-2-clause-gate
returns-in_err-write_synced-2-clause-gate g c =
    stays_within c.args.place (g.D.Disk.seen c.write_synced.new.disk) (g.D.Disk.seen c.write_synced-2.new.disk)
    (stays_within c.args.place (g.D.Disk.seen c.args.disk.now) (g.D.Disk.seen c.write_synced.new.disk) c.requires.gate c.write_synced.ensures.no_shorter) c.write_synced-2.ensures.no_shorter

pub returns-clause-gate : goal.returns-clause-gate
returns-clause-gate g c =
    stays_within c.args.place (g.D.Disk.seen c.write_synced.new.disk) (g.D.Disk.seen c.write_synced-2.new.disk)
    (stays_within c.args.place (g.D.Disk.seen c.args.disk.now) (g.D.Disk.seen c.write_synced.new.disk) c.requires.gate c.write_synced.ensures.no_shorter) c.write_synced-2.ensures.no_shorter

pub returns-clause-next_gate : goal.returns-clause-next_gate
returns-clause-next_gate g c =
    next_there c.args.place c.args.behind.now (g.D.Disk.seen c.args.disk.now) (g.D.Disk.seen c.write_synced.new.disk) (g.D.Disk.seen c.write_synced-2.new.disk)
    c.requires.gate c.in_ok-write_synced.ensures.written c.write_synced-2.ensures.no_shorter
