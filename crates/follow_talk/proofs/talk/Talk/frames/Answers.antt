use Rattle.std.proofs.Common.{◌≡◌, true, arith, rules}
use Rattle.follow_talk.proofs.Passing.{none_passed, one_passed}
use Rattle.follow_talk.proofs.talk.Talk.frames.Goals as goal

pub passes-init : goal.passes-init
passes-init g c = none_passed c.args.self.now.follower.outbox c.new-frames.result.items (search rules)

pub passes-preserved : goal.passes-preserved
passes-preserved g c =
    let is_put : c.in_ok-put_frame.field-0 ≡ true = grind (arith, c.if-not-branch.false) in
    let put = c.in_ok-put_frame.ensures.put is_put in
    one_passed put.0 c.args.self.now.follower.outbox c.passes.self.follower.outbox c.put_frame.new.self.follower.outbox c.passes.frames.items c.put_frame.new.frames.items
    c.passes.invariant put.1 put.2
