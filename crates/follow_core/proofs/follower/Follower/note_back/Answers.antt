use Rattle.std.proofs.Common.{arith}
use Rattle.follow_core.proofs.Kept.{own_there}
use Rattle.follow_core.proofs.follower.Follower.note_back.Goals as goal

pub came_back-requires : goal.came_back-requires
came_back-requires g c =
    let saved = c.in-Some.ensures.saved in
    record {
      behind = c.in-Some.ensures.behind;
      saved = omega (arith, saved);
      own = own_there c.args.self.now.outbox c.in-Some.place c.args.id c.in-Some.ensures.stands c.requires;
    }
