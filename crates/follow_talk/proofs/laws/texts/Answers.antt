use Rattle.follow_talk.proofs.Spelled.{text_law}
use Rattle.follow_talk.proofs.laws.texts.Goals as goal

pub returns : goal.returns
returns c = text_law
