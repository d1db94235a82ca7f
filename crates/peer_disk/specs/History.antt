-- What a disk in memory is seen as: what it held at first, and its writes and syncs since.
use Rattle.std.specs.Prelude.{◌≡◌, ◌⊎◌, ℕ, ◌<◌, ◌≤◌, List, [], ◌∷◌, length, take, Option, None, Some, Contains, Bool, true, false, Vec}
use Rattle.edit_io.specs.Causes.{next_count}
use Rattle.peer_disk.specs.declared.mem_disk.DiskCall.{DiskCall}
use Rattle.peer_disk.specs.declared.mem_disk.DiskCall.TheVariants.{Wrote, Synced}
use Rattle.peer_disk.specs.Disk.{overwritten, Torn}

-- what the disk held at first, its writes and syncs since, the calls that fail, after how many all fail, and the counts of calls and faults
pub record Medium : Type 0 where
  pub first : List ℕ
  pub history : List DiskCall
  pub fails : List ℕ
  pub stop : Option ℕ
  pub calls : ℕ
  pub faults : ℕ

-- what a read gives after a call
abbrev pub bytes_after : List ℕ → DiskCall → List ℕ
bytes_after file (Wrote w) = overwritten file w.from w.bytes.items
bytes_after file Synced = file

-- what a read gives after these calls
abbrev pub bytes_after_all : List ℕ → List DiskCall → List ℕ
bytes_after_all file [] = file
bytes_after_all file (call ∷ calls) = bytes_after_all (bytes_after file call) calls

-- what a crash may leave after a call on this file, from what it might before
abbrev pub leaves_after : List ℕ → (List ℕ → Type 0) → DiskCall → List ℕ → Type 0
leaves_after file before (Wrote w) left = (old : List ℕ) × before old × Torn w.from (length w.bytes.items) old left
leaves_after file before Synced left = left ≡ file

-- what a crash may leave after these calls
abbrev pub leaves_after_all : List ℕ → (List ℕ → Type 0) → List DiskCall → List ℕ → Type 0
leaves_after_all file before [] left = before left
leaves_after_all file before (call ∷ calls) left = leaves_after_all (bytes_after file call) (leaves_after file before call) calls left

-- what a crash may leave of a disk that held this, all of it on the disk, and then had these calls
abbrev pub may_leave_of : List ℕ → List DiskCall → List ℕ → Type 0
may_leave_of first calls left = leaves_after_all first (λ old. old ≡ first) calls left

-- what a crash might have left behind some number of these calls, which is at least this
abbrev pub left_since_of : List ℕ → List DiskCall → ℕ → List ℕ → Type 0
left_since_of first calls time left = (k : ℕ) × (time ≤ k) × (k ≤ length calls) × may_leave_of first (take k calls) left

-- this many calls are more than those after which all fail
abbrev pub IsBehind : ℕ → Option ℕ → Type 0
IsBehind call None = ⊥
IsBehind call (Some stop) = stop < call

-- the next call is one of those that fail
abbrev pub NextFails : Medium → Type 0
NextFails m = Contains m.fails (next_count m.calls) ⊎ IsBehind (next_count m.calls) m.stop

-- the disk after a call that fails or not: both are counted
abbrev pub called : Medium → Bool → Medium
called m true = record m { calls = next_count m.calls; faults = next_count m.faults }
called m false = record m { calls = next_count m.calls }

-- the bytes that a disk in memory has now: those that it held at first, until something was written
abbrev pub bytes_held : {A : Type 0} → List ℕ → Option (Vec ℕ A) → List ℕ
bytes_held first None = first
bytes_held first (Some changed) = changed.items
