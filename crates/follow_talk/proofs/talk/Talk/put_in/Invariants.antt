use Rattle.std.proofs.Common.{◌≡◌, take}
use Rattle.text_change.specs.Rows.{text_told}
use Rattle.follow_text.specs.Edits.{inserts}
use Rattle.follow_talk.proofs.talk.Talk.put_in.Given as goal

abbrev pub invariant-loop-number : goal.invariant-loop-number
invariant-loop-number g l = l.self.mirror.shown ≡ text_told l.fn.self.mirror.shown (inserts l.at (take l.number l.put))
