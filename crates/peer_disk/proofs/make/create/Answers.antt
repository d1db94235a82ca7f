use Rattle.std.proofs.Common.{List, ℕ, length, ◌∙◌, ap, subst, option_map}
use Rattle.peer_disk.specs.Disk.{overwritten}
use Rattle.peer_disk.proofs.Moments.{weakened}
use Rattle.peer_disk.specs.Records.{HasNoneIfAny, TornSince}
use Rattle.peer_disk.proofs.Bodies.{new_leaves, new_kept, at_start}
use Rattle.peer_disk.proofs.Gates.{first_there}
use Rattle.peer_disk.proofs.make.create.Goals as goal

pub write_synced-requires : goal.write_synced-requires
write_synced-requires g c = at_start (g.D.Disk.seen c.args.disk.now) c.requires

pub returns-in_err-write_synced-clause-any_moment : goal.returns-in_err-write_synced-clause-any_moment
returns-in_err-write_synced-clause-any_moment g c only =
    weakened g.D.Disk.moment g.D.Disk.left_since c.args.disk.now c.write_synced.new.disk _ (HasNoneIfAny c.args.site) c.write_synced.ensures.any_moment (λ left since. new_leaves c.args.site (g.D.Disk.may_leave c.args.disk.now) left only (subst (λ (n : ℕ). TornSince (g.D.Disk.may_leave c.args.disk.now) 0 n left) (ap length c.new_file.ensures) since))

pub returns-clause-any_moment : goal.returns-clause-any_moment
returns-clause-any_moment g c only =
    weakened g.D.Disk.moment g.D.Disk.left_since c.args.disk.now c.write_synced.new.disk _ (HasNoneIfAny c.args.site) c.write_synced.ensures.any_moment (λ left since. new_leaves c.args.site (g.D.Disk.may_leave c.args.disk.now) left only (subst (λ (n : ℕ). TornSince (g.D.Disk.may_leave c.args.disk.now) 0 n left) (ap length c.new_file.ensures) since))

pub returns-clause-kept : goal.returns-clause-kept
returns-clause-kept g c told =
    new_kept c.args.site (g.D.Disk.seen c.args.disk.now) (g.D.Disk.seen c.write_synced.new.disk) (g.D.Disk.may_leave c.write_synced.new.disk) told c.requires (c.in_ok-write_synced.ensures.written ∙ ap (λ (b : List ℕ). option_map (λ file. overwritten file 0 b) (g.D.Disk.seen c.args.disk.now)) c.new_file.ensures) c.in_ok-write_synced.ensures.durable

pub returns-clause-gate : goal.returns-clause-gate
returns-clause-gate g c =
    first_there _ (g.D.Disk.seen c.args.disk.now) (g.D.Disk.seen c.write_synced.new.disk) (ap length c.new_file.ensures) c.requires c.in_ok-write_synced.ensures.written
