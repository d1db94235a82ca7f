-- The laws of feeding.
use Rattle.std.specs.Prelude.{◌≡◌}
use Rattle.peer_step.specs.declared.answer.Answer.TheVariants.{Quiet}
use Rattle.peer_core.specs.Peer.{Peer}
use Rattle.peer_core.specs.Answers.{answer_settle}
use Rattle.form_feed.specs.Turn.{all_settle_steps}

-- after the settle steps nothing that is held is due
abbrev pub QuietLaw : Type 0
QuietLaw = (p : Peer) → answer_settle (all_settle_steps p).peer ≡ Quiet
