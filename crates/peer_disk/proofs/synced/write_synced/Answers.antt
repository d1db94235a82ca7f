use Rattle.std.proofs.Common.{ℕ, List, length, sym, ◌∙◌, subst, Option, IfSome}
use Rattle.peer_disk.specs.Disk.{Only}
use Rattle.peer_disk.specs.Records.{IsNoShorter}
use Rattle.peer_disk.proofs.Crashes.{while_written, while_synced}
use Rattle.peer_disk.proofs.Torn.{written_ok}
use Rattle.peer_disk.proofs.Gates.{no_shorter}
use Rattle.peer_disk.proofs.synced.write_synced.Goals as goal

pub returns-in_err-write_at-clause-any_moment : goal.returns-in_err-write_at-clause-any_moment
returns-in_err-write_at-clause-any_moment g c =
    while_written g.D.Disk.moment g.D.Disk.left_since g.D.Disk.may_leave c.args.disk.now c.write_at.new.self c.args.from (length c.args.bytes.now) (g.met.D.Disk.only_now c.args.disk.now)
    c.write_at.ensures.time c.write_at.ensures.crash

pub returns-in_err-sync-clause-any_moment : goal.returns-in_err-sync-clause-any_moment
returns-in_err-sync-clause-any_moment g c =
    while_synced g.D.Disk.moment g.D.Disk.left_since g.D.Disk.may_leave c.args.disk.now c.write_at.new.self c.args.from (length c.args.bytes.now) (g.met.D.Disk.only_now c.args.disk.now)
    c.write_at.ensures.time c.write_at.ensures.crash c.sync.new.self c.sync.ensures.time c.sync.ensures.crash

pub returns-clause-any_moment : goal.returns-clause-any_moment
returns-clause-any_moment g c =
    while_synced g.D.Disk.moment g.D.Disk.left_since g.D.Disk.may_leave c.args.disk.now c.write_at.new.self c.args.from (length c.args.bytes.now) (g.met.D.Disk.only_now c.args.disk.now)
    c.write_at.ensures.time c.write_at.ensures.crash c.sync.new.self c.sync.ensures.time c.sync.ensures.crash

pub returns-in_err-write_at-clause-no_shorter : goal.returns-in_err-write_at-clause-no_shorter
returns-in_err-write_at-clause-no_shorter g c =
    no_shorter _ c.args.from c.args.bytes.now (g.D.Disk.seen c.args.disk.now) (g.D.Disk.seen c.write_at.new.self) c.requires c.write_at.ensures.written

pub returns-in_err-sync-clause-no_shorter : goal.returns-in_err-sync-clause-no_shorter
returns-in_err-sync-clause-no_shorter g c =
    subst (λ (s : Option (List ℕ)). IsNoShorter (g.D.Disk.seen c.args.disk.now) s) (sym c.sync.ensures.seen)
    (no_shorter _ c.args.from c.args.bytes.now (g.D.Disk.seen c.args.disk.now) (g.D.Disk.seen c.write_at.new.self) c.requires c.write_at.ensures.written)

pub returns-clause-no_shorter : goal.returns-clause-no_shorter
returns-clause-no_shorter g c =
    subst (λ (s : Option (List ℕ)). IsNoShorter (g.D.Disk.seen c.args.disk.now) s) (sym c.sync.ensures.seen)
    (no_shorter _ c.args.from c.args.bytes.now (g.D.Disk.seen c.args.disk.now) (g.D.Disk.seen c.write_at.new.self) c.requires c.write_at.ensures.written)

pub returns-clause-written : goal.returns-clause-written
returns-clause-written g c = c.sync.ensures.seen ∙ written_ok _ c.args.from c.args.bytes.now (g.D.Disk.seen c.args.disk.now) (g.D.Disk.seen c.write_at.new.self) c.in_ok-write_at.ensures.written

pub returns-clause-durable : goal.returns-clause-durable
returns-clause-durable g c = subst (λ (s : Option (List ℕ)). IfSome s (λ file. Only file (g.D.Disk.may_leave c.sync.new.self))) (sym c.sync.ensures.seen) c.in_ok-sync.ensures.durable
