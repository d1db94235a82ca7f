use Rattle.follow_talk.proofs.Talking.{rows_from}
use Rattle.follow_talk.proofs.talk.Talk.make.Goals as goal

pub returns-clause-rows : goal.returns-clause-rows
returns-clause-rows g c =
    rows_from c.args.self.now.mirror.shown c.args.self.now.follower.outbox c.make.new.self.outbox c.in_ok-told.told.rows.items (c.args.self.now.shows c.if-self.false) c.in_ok-told.ensures.rows
