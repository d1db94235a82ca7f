use Rattle.std.proofs.Common.{ℕ, take, sym, ap, subst}
use Rattle.peer_store.specs.Store.{Saved, HasMessages}
use Rattle.peer_store.proofs.Ahead.{has_either}
use Rattle.peer_store.proofs.store.Store.saved.Goals as goal

pub returns-clause-safe : goal.returns-clause-safe
returns-clause-safe c site steps more is file stands =
    subst (λ (n : ℕ). HasMessages site (take n c.args.self.now.peer.journal) file) (sym (ap (λ (s : Saved). s.safe) c.self.view_is)) (has_either site steps more c.args.self.now is file stands)
