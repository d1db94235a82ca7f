use Rattle.std.proofs.Common.{ℕ, List}
use Rattle.peer_disk.proofs.Moments.{started, goes_on, weakened, chained}
use Rattle.peer_disk.proofs.whole.load.Goals as goal

pub returns-in_err-sync-clause-any_moment : goal.returns-in_err-sync-clause-any_moment
returns-in_err-sync-clause-any_moment g c =
    let old = c.args.disk.now in
    let P : List ℕ → Type 0 = g.D.Disk.may_leave old in
    let at_start = started g.D.Disk.moment g.D.Disk.left_since old P (g.met.D.Disk.only_now old) in
    goes_on g.D.Disk.moment g.D.Disk.left_since old old c.sync.new.self P _ at_start c.sync.ensures.time c.sync.ensures.crash

pub returns-in_err-bytes-clause-any_moment : goal.returns-in_err-bytes-clause-any_moment
returns-in_err-bytes-clause-any_moment g c =
    let old = c.args.disk.now in
    let P : List ℕ → Type 0 = g.D.Disk.may_leave old in
    let at_start = started g.D.Disk.moment g.D.Disk.left_since old P (g.met.D.Disk.only_now old) in
    let synced = goes_on g.D.Disk.moment g.D.Disk.left_since old old c.sync.new.self P _ at_start c.sync.ensures.time c.sync.ensures.crash in
    let read = weakened g.D.Disk.moment g.D.Disk.left_since c.sync.new.self c.read_whole.new.disk _ P c.read_whole.ensures.any_moment c.sync.ensures.crash in
    chained g.D.Disk.moment g.D.Disk.left_since old c.sync.new.self c.read_whole.new.disk P synced read
