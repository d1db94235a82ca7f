use Rattle.std.proofs.Common.{◌≡◌, true, take}
use Rattle.text_change.specs.Rows.{text_told}
use Rattle.follow_talk.proofs.talk.Talk.show.Given as goal

abbrev pub invariant-loop-edit : goal.invariant-loop-edit
invariant-loop-edit g l = record {
  behind : l.self.is_behind ≡ true;
  shown : l.self.mirror.shown ≡ text_told l.fn.self.mirror.shown (take l.edit-index l.rows);
  outbox : l.self.follower.outbox ≡ l.fn.self.follower.outbox;
}
