use Rattle.std.proofs.Common.{◌≡◌, true, arith}
use Rattle.follow_talk.proofs.Editing.{next_put}
use Rattle.follow_talk.proofs.talk.Talk.put_in.Goals as goal

pub loop-number-preserved : goal.loop-number-preserved
loop-number-preserved g c =
    let made : c.in_ok-edit.field-0 ≡ true = grind (arith, c.if-not-branch.false) in
    next_put c.args.self.now.mirror.shown c.loop-number.self.mirror.shown c.edit.new.self.mirror.shown c.args.put.now c.args.at c.loop-number.number c.index-put-number.result
    (omega arith) c.index-put-number.is c.loop-number.invariant (c.in_ok-edit.ensures made)
