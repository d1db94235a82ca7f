use Rattle.peer_core.proofs.RestoreLemmas.{restored_sound, own_step_law, fresh_name_law}
use Rattle.peer_core.proofs.laws.restored.Goals as goal

pub returns : goal.returns
returns c = record { sound = restored_sound; own = own_step_law; fresh = fresh_name_law }
