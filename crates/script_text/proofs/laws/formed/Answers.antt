use Rattle.script_text.proofs.TakenLines.{formed_law}
use Rattle.script_text.proofs.laws.formed.Goals as goal

pub returns : goal.returns
returns c = formed_law
