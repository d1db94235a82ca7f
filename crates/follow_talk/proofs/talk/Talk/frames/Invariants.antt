use Rattle.follow_talk.specs.Sending.{PassesFrames}
use Rattle.follow_talk.proofs.talk.Talk.frames.Given as goal

abbrev pub invariant-passes : goal.invariant-passes
invariant-passes g l = PassesFrames l.fn.self.follower.outbox l.self.follower.outbox l.frames.items
