use Rattle.std.proofs.Common.{◌≡◌, ℕ, ◌<◌, ◌≤◌, false}
use Rattle.follow_core.specs.Past.{is_own_at, back_of}
use Rattle.follow_core.proofs.follower.Follower.owes.Given as goal

abbrev pub invariant-loop-place : goal.invariant-loop-place
invariant-loop-place g l = (k : ℕ) → back_of l.self.outbox ≤ k → k < l.place → is_own_at l.self.outbox k ≡ false
