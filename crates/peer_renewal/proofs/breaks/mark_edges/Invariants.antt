use Rattle.std.proofs.Common.{◌≡◌, ℕ, ◌<◌, ◌-◌, true, false}
use Rattle.std.specs.Prelude.{slice_index_or}
use Rattle.peer_renewal.specs.Cutting.{breaks_at, differ}
use Rattle.peer_renewal.proofs.breaks.mark_edges.Given as goal

abbrev pub invariant-loop-place : goal.invariant-loop-place
invariant-loop-place l = record {
  edges : (k : ℕ) → 0 < k → k < l.place → differ (slice_index_or l.bits (k - 1) false) (slice_index_or l.bits k false) ≡ true → breaks_at l.breaks k ≡ true;
  stay : (k : ℕ) → breaks_at l.initial.breaks k ≡ true → breaks_at l.breaks k ≡ true;
}
