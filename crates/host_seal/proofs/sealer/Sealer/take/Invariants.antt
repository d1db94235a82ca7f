use Rattle.std.proofs.Common.{[], ◌∷◌, ◌++◌}
use Rattle.host_seal.proofs.sealer.Sealer.take.Given as goal

abbrev pub ghost-changed : goal.ghost-changed
ghost-changed a = a.self.now.items ++ a._by.now ∷ []
