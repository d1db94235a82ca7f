use Rattle.std.specs.Prelude.{⊤}
use Rattle.line_engine.proofs.Pumping.{ran_nothing}
use Rattle.form_feed.specs.Feed.{feed_output, feed_part}
use Rattle.form_feed.proofs.peer_intake.feed.Goals as goal

pub returns-in_default-clause-ran : goal.returns-in_default-clause-ran
returns-in_default-clause-ran g c = ran_nothing (feed_output c.args.site) (feed_part c.args.site) (λ cut bytes. ⊤) _ _
