use Rattle.std.proofs.Common.{◌≡◌, true, arith}
use Rattle.follow_talk.proofs.Editing.{one_gone}
use Rattle.follow_talk.proofs.talk.Talk.take_out.Goals as goal

pub loop-gone-preserved : goal.loop-gone-preserved
loop-gone-preserved g c =
    let made : c.in_ok-edit.field-0 ≡ true = grind (arith, c.if-not-branch.false) in
    one_gone c.args.self.now.mirror.shown c.loop-gone.self.mirror.shown c.edit.new.self.mirror.shown c.args.at c.loop-gone.gone c.loop-gone.invariant (c.in_ok-edit.ensures made)
