-- A run that is one step longer.
use Rattle.std.proofs.Common.{◌≡◌, List, [], ◌∷◌, ◌++◌, refl}
use Rattle.peer_core.specs.Peer.{Peer}
use Rattle.peer_core.specs.After.{peer_after}
use Rattle.peer_lock.specs.Run.{peer_after_run}
use Rattle.peer_lock.specs.declared.call.Call.{Call}

-- the last step is made on the peer after the others
pub peer_after_run-push : (p : Peer) (run : List Call) (e : Call) → peer_after_run p (run ++ e ∷ []) ≡ peer_after (peer_after_run p run) e.step
peer_after_run-push p [] e = refl
peer_after_run-push p (x ∷ xs) e = peer_after_run-push (peer_after p x.step) xs e
