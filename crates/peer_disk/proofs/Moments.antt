-- How what crashes leave adds up over several calls.
use Rattle.std.proofs.Common.{inl, inr, ⊎_elim, ℕ, List, arith}
use Rattle.peer_disk.specs.Disk.{Elapses, LeavesOnly}

module _ {D : Type 0} (moment : D → ℕ) (left_since : D → ℕ → List ℕ → Type 0) where
  -- before the first call
  pub started : (old : D) (P : List ℕ → Type 0) → ((left : List ℕ) → left_since old (moment old) left → P left) → LeavesOnly moment left_since old old P
  started old P here = record { later = omega arith; each = here; before = λ time left le since. inl since }

  -- one call of the disk more, after which a crash leaves what has P
  pub goes_on : (old mid new : D) (P may_leave : List ℕ → Type 0) → LeavesOnly moment left_since old mid P → Elapses (moment mid) (moment new) (left_since mid) (left_since new) may_leave
      → ((left : List ℕ) → may_leave left → P left) → LeavesOnly moment left_since old new P
  goes_on old mid new P may_leave so_far time here = record {
    later = omega (arith, so_far.later, time.later);
    each = λ left since. ⊎_elim (so_far.each left) (here left) (time.nothing_else (moment old) left so_far.later since);
    before = λ t left le since. ⊎_elim (so_far.before t left le) (λ now. inr (here left now)) (time.nothing_else t left (omega (arith, le, so_far.later)) since);
  }

  -- what has P has Q
  pub weakened : (old new : D) (P Q : List ℕ → Type 0) → LeavesOnly moment left_since old new P → ((left : List ℕ) → P left → Q left) → LeavesOnly moment left_since old new Q
  weakened old new P Q leaves so = record {
    later = leaves.later;
    each = λ left since. so left (leaves.each left since);
    before = λ t left le since. ⊎_elim (λ past. inl past) (λ has. inr (so left has)) (leaves.before t left le since);
  }

  -- one run after another
  pub chained : (old mid new : D) (P : List ℕ → Type 0) → LeavesOnly moment left_since old mid P → LeavesOnly moment left_since mid new P → LeavesOnly moment left_since old new P
  chained old mid new P first second = record {
    later = omega (arith, first.later, second.later);
    each = λ left since. ⊎_elim (first.each left) (λ has. has) (second.before (moment old) left first.later since);
    before = λ t left le since. ⊎_elim (first.before t left le) (λ has. inr has) (second.before t left (omega (arith, le, first.later)) since);
  }
