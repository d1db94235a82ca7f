use Rattle.script_text.proofs.TakenLines.{opening_law, taken_law}
use Rattle.script_text.proofs.laws.taken.Goals as goal

pub returns : goal.returns
returns c = record { opening = opening_law; later = taken_law }
