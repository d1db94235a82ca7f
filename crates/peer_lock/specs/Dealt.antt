-- The passes of a new shared peer.
use Rattle.std.specs.Prelude.{◌≡◌, ℕ, zero, suc, ◌+◌, ◌<◌, List, length, slice_get, Some}
use Rattle.atomic_table.specs.Seated.{TableId}
use Rattle.peer_lock.specs.Rule.{newcomer}
use Rattle.peer_lock.specs.KnownPass.{KnownPass}

-- the first pass alone tells how many there are
abbrev pub passes_told : ℕ → ℕ → ℕ
passes_told zero passes = passes
passes_told (suc i) passes = 0

-- the pass i of so many, the first of which tells how many there are
abbrev pub IsDealt : TableId → ℕ → ℕ → ℕ → KnownPass → Type 0
IsDealt table site passes i k = (k.table ≡ table) × (k.view ≡ newcomer i (passes_told i passes) site)

pub record Dealt (table : TableId) (site passes : ℕ) (ks : List KnownPass) : Type 0 where
  pub all : length ks ≡ passes
  pub each : (i : ℕ) → i < passes → (k : KnownPass) × (slice_get ks i ≡ Some k) × IsDealt table site passes i k

-- all but the first
pub record Others (table : TableId) (site passes : ℕ) (ks : List KnownPass) : Type 0 where
  pub rest : length ks + 1 ≡ passes
  pub each : (i : ℕ) → i < length ks → (k : KnownPass) × (slice_get ks i ≡ Some k) × (k.table ≡ table) × (k.view ≡ newcomer (i + 1) 0 site)
