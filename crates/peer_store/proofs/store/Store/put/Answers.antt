use Rattle.std.proofs.Common.{[], Err}
use Rattle.peer_store.specs.Steps.{if_changing}
use Rattle.peer_store.proofs.Ahead.{none_ahead, is_on_disk}
use Rattle.peer_store.proofs.Putting.{not_refused, none_refused, save_failed}
use Rattle.peer_store.proofs.store.Store.put.Goals as goal

pub returns-in-Err-clause-any_moment : goal.returns-in-Err-clause-any_moment
returns-in-Err-clause-any_moment g c site steps kept =
    c.save.ensures.any_moment site steps (if_changing c.args.self.now.peer c.args.step)
    (c.in_ok-answer.ensures.ahead site steps [] (none_ahead site steps c.args.self.now (g.D.Disk.seen c.args.disk.now) (g.D.Disk.may_leave c.args.disk.now) kept))
    (is_on_disk site steps c.args.self.now (g.D.Disk.seen c.args.disk.now) (g.D.Disk.may_leave c.args.disk.now) kept)

pub returns-in-Ok-clause-any_moment : goal.returns-in-Ok-clause-any_moment
returns-in-Ok-clause-any_moment g c site steps kept =
    c.save.ensures.any_moment site steps (if_changing c.args.self.now.peer c.args.step)
    (c.in_ok-answer.ensures.ahead site steps [] (none_ahead site steps c.args.self.now (g.D.Disk.seen c.args.disk.now) (g.D.Disk.may_leave c.args.disk.now) kept))
    (is_on_disk site steps c.args.self.now (g.D.Disk.seen c.args.disk.now) (g.D.Disk.may_leave c.args.disk.now) kept)

pub returns-in-Ok-clause-saved : goal.returns-in-Ok-clause-saved
returns-in-Ok-clause-saved g c site steps kept =
    c.in-Ok.ensures.saved site steps (if_changing c.args.self.now.peer c.args.step)
    (c.in_ok-answer.ensures.ahead site steps [] (none_ahead site steps c.args.self.now (g.D.Disk.seen c.args.disk.now) (g.D.Disk.may_leave c.args.disk.now) kept))
    (is_on_disk site steps c.args.self.now (g.D.Disk.seen c.args.disk.now) (g.D.Disk.may_leave c.args.disk.now) kept)

pub returns-in-Err-clause-left : goal.returns-in-Err-clause-left
returns-in-Err-clause-left g c =
    save_failed c.args.self.now c.step.new.self c.save.new.self c.args.step c.in-Err.fault c.args.disk.now c.save.new.disk
    (not_refused c.args.self.now c.args.step c.in_ok-answer.answer c.in_ok-answer.ensures.refused) c.in_ok-answer.ensures.after c.in_ok-answer.ensures.unspent c.in_ok-answer.ensures.safe c.in-Err.ensures.left

pub returns-in-Err-clause-refused : goal.returns-in-Err-clause-refused
returns-in-Err-clause-refused g c = none_refused c.args.self.now c.args.step (Err c.in-Err.fault) (not_refused c.args.self.now c.args.step c.in_ok-answer.answer c.in_ok-answer.ensures.refused)
