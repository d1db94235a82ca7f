use Rattle.std.proofs.Common.{◌≡◌}
use Rattle.text_change.specs.Rows.{text_told}
use Rattle.follow_text.specs.Edits.{deletions}
use Rattle.follow_talk.proofs.talk.Talk.take_out.Given as goal

abbrev pub invariant-loop-gone : goal.invariant-loop-gone
invariant-loop-gone g l = l.self.mirror.shown ≡ text_told l.fn.self.mirror.shown (deletions l.at l.gone)
