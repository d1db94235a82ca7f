use Rattle.std.proofs.Common.{refl, sym, subst, arith}
use Rattle.peer_disk.proofs.Moments.{started, goes_on}
use Rattle.peer_disk.proofs.Chunks.{BeginsSo, begins}
use Rattle.peer_disk.proofs.whole.read_whole.Goals as goal

pub chunks-init : goal.chunks-init
chunks-init g c = record {
  begun = subst (BeginsSo (g.D.Disk.seen c.args.disk.now)) (sym c.new-bytes.ensures.items) (begins (g.D.Disk.seen c.args.disk.now));
  room = omega (arith, c.in_ok-chunk.ensures);
  same = refl;
  crash = λ left may. may;
  moments = started g.D.Disk.moment g.D.Disk.left_since c.args.disk.now (g.D.Disk.may_leave c.args.disk.now) (g.met.D.Disk.only_now c.args.disk.now);
  faults = omega arith;
}

pub returns-in_err-count-clause-crash : goal.returns-in_err-count-clause-crash
returns-in_err-count-clause-crash g c left now = c.chunks.invariant.crash left (c.read.ensures.untouched.no_more left now)

pub returns-in_err-count-clause-any_moment : goal.returns-in_err-count-clause-any_moment
returns-in_err-count-clause-any_moment g c =
    goes_on g.D.Disk.moment g.D.Disk.left_since c.args.disk.now c.chunks.disk c.read.new.self (g.D.Disk.may_leave c.args.disk.now) _ c.chunks.invariant.moments c.read.ensures.time (returns-in_err-count-clause-crash g c)

pub returns-then-count-eq0-clause-crash : goal.returns-then-count-eq0-clause-crash
returns-then-count-eq0-clause-crash g c left now = c.chunks.invariant.crash left (c.read.ensures.untouched.no_more left now)

pub returns-then-count-eq0-clause-any_moment : goal.returns-then-count-eq0-clause-any_moment
returns-then-count-eq0-clause-any_moment g c =
    goes_on g.D.Disk.moment g.D.Disk.left_since c.args.disk.now c.chunks.disk c.read.new.self (g.D.Disk.may_leave c.args.disk.now) _ c.chunks.invariant.moments c.read.ensures.time (returns-then-count-eq0-clause-crash g c)

pub returns-in_err-extend_from_slice-clause-crash : goal.returns-in_err-extend_from_slice-clause-crash
returns-in_err-extend_from_slice-clause-crash g c left now = c.chunks.invariant.crash left (c.read.ensures.untouched.no_more left now)

pub returns-in_err-extend_from_slice-clause-any_moment : goal.returns-in_err-extend_from_slice-clause-any_moment
returns-in_err-extend_from_slice-clause-any_moment g c =
    goes_on g.D.Disk.moment g.D.Disk.left_since c.args.disk.now c.chunks.disk c.read.new.self (g.D.Disk.may_leave c.args.disk.now) _ c.chunks.invariant.moments c.read.ensures.time (returns-in_err-extend_from_slice-clause-crash g c)
