use Rattle.std.proofs.Common.{[], ◌∷◌}
use Rattle.std.specs.Prelude.{is_some}
use Rattle.host_store.proofs.kept.StoreKeeper.open_at.Given as goal

abbrev pub ghost-changed : goal.ghost-changed
ghost-changed g a = is_some (g.D.Disk.seen a._by.now) ∷ []
