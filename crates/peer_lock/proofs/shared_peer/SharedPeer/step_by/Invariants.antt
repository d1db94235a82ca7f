use Rattle.std.proofs.Common.{◌≡◌, false}
use Rattle.peer_lock.specs.Answers.{IsSame}
use Rattle.peer_lock.specs.Moves.{IsRetry}
use Rattle.peer_lock.proofs.shared_peer.SharedPeer.step_by.Given as goal

abbrev pub invariant-loop : goal.invariant-loop
invariant-loop g l = (l.left ≡ l.fn.step) × IsSame l.initial.pass l.pass × (l.initial.pass.view.hand ≡ false) × IsRetry l.initial.pass.view l.pass.view
