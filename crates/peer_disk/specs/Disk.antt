-- What the calls of a disk do to its bytes, and what a crash may do between two syncs.
use Rattle.std.specs.Prelude.{◌≡◌, ◌⊎◌, ◌↔◌, ℕ, ◌+◌, ◌≤◌, max, List, [], ◌++◌, length, take, drop, Option, None, Some, Result, Ok, Err}
use Rattle.edit_io.specs.declared.fail.Failed.{Failed}

-- the bytes of a file after these were written from a place on
abbrev pub overwritten : List ℕ → ℕ → List ℕ → List ℕ
overwritten file from bytes = take from file ++ bytes ++ drop (from + length bytes) file

-- after a write of n bytes from a place on that failed, or that a crash cut short: any bytes in that range and past the old end, and
-- the others stay
pub record Torn (from n : ℕ) (old new : List ℕ) : Type 0 where
  pub no_shorter : length old ≤ length new
  pub no_longer : length new ≤ max (length old) (from + n)
  pub before : take from (take (length old) new) ≡ take from old
  pub after : drop (from + n) (take (length old) new) ≡ drop (from + n) old

-- n bytes at the start of a buffer are those that stand in a file from a place on; n is 0 only where there are none, or no room
pub record GivesFrom (file : List ℕ) (from n : ℕ) (buf : List ℕ) : Type 0 where
  pub bytes : drop from file ≡ take n buf ++ drop (from + n) file
  pub none : (n ≡ 0) ↔ ((buf ≡ []) ⊎ (length file ≤ from))

-- what a read gives after a write that answered so: the bytes were written, or are any from their place on
abbrev pub IsWrittenOrTorn : Result (Unit {0}) Failed → ℕ → List ℕ → List ℕ → List ℕ → Type 0
IsWrittenOrTorn (Ok done) from bytes old new = new ≡ overwritten old from bytes
IsWrittenOrTorn (Err fail) from bytes old new = Torn from (length bytes) old new

-- the same of a disk that may tell what a read gives, and tells it then as before
abbrev pub Writes : Result (Unit {0}) Failed → ℕ → List ℕ → Option (List ℕ) → Option (List ℕ) → Type 0
Writes result from bytes None new = new ≡ None
Writes result from bytes (Some old) None = ⊥
Writes result from bytes (Some old) (Some new) = IsWrittenOrTorn result from bytes old new

-- nothing has changed of what a read gives and a crash may leave
pub record IsUntouched (seen_before seen_now : Option (List ℕ)) (before now : List ℕ → Type 0) : Type 0 where
  pub same : seen_now ≡ seen_before
  pub no_more : (left : List ℕ) → now left → before left
  pub no_fewer : (left : List ℕ) → before left → now left

-- what a crash may leave now is what it might have left before, after a step
abbrev pub LeavesAfter : (List ℕ → List ℕ → Type 0) → (List ℕ → Type 0) → (List ℕ → Type 0) → Type 0
LeavesAfter step before now = (left : List ℕ) → now left → (old : List ℕ) × before old × step old left

-- a crash leaves this and nothing else
abbrev pub Only : List ℕ → (List ℕ → Type 0) → Type 0
Only file outcomes = (left : List ℕ) → outcomes left → left ≡ file

-- time goes on: a crash since some time might have left what it might have left before, or what it may leave now
pub record Elapses (before now : ℕ) (past since : ℕ → List ℕ → Type 0) (may_leave : List ℕ → Type 0) : Type 0 where
  pub later : before ≤ now
  pub nothing_else : (time : ℕ) (left : List ℕ) → time ≤ before → since time left → past time left ⊎ may_leave left
  pub keeps : (time : ℕ) (left : List ℕ) → time ≤ before → past time left → since time left

-- a crash at any moment since `old` leaves what has P; a crash since before that leaves this, or what it might have left before
pub record LeavesOnly {D : Type 0} (moment : D → ℕ) (left_since : D → ℕ → List ℕ → Type 0) (old new : D) (P : List ℕ → Type 0) : Type 0 where
  pub later : moment old ≤ moment new
  pub each : (left : List ℕ) → left_since new (moment old) left → P left
  pub before : (time : ℕ) (left : List ℕ) → time ≤ moment old → left_since new time left → left_since old time left ⊎ P left
