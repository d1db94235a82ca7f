-- What a disk in memory owes as a disk, whatever its history.
use Rattle.std.proofs.Common.{◌≡◌, ◌⊎◌, inl, inr, ℕ, min, ◌+◌, ◌-◌, ◌≤◌, ◌<◌, List, [], ◌∷◌, ◌++◌, length, take, drop, refl, sym, ◌∙◌, ap, subst, arith, append_assoc, length-append, length-drop}
use Rattle.std.proofs.lemmas.Bool.{cases_lt}
use Rattle.std.proofs.lemmas.List.{take_at, take_all, drop_at, drop_all, length-take, take-take}
use Rattle.peer_disk.specs.declared.mem_disk.DiskCall.{DiskCall}
use Rattle.peer_disk.specs.declared.mem_disk.DiskCall.TheVariants.{Wrote, Synced}
use Rattle.peer_disk.specs.Disk.{overwritten, Torn}
use Rattle.peer_disk.specs.History.{bytes_after, bytes_after_all, leaves_after, leaves_after_all, may_leave_of, left_since_of}

-- a list with n bytes in the place of those from a place on is torn there
pub torn_overwritten : (file : List ℕ) (from : ℕ) (bytes : List ℕ) → Torn from (length bytes) file (overwritten file from bytes)
torn_overwritten file from bytes = record {
  no_shorter = omega (arith, long);
  no_longer = omega (arith, long);
  before = before (cases_lt (length file) from);
  after = after (cases_lt (length file) (from + length bytes));
}
  where
    head_size : length (take from file) ≡ min from (length file)
    head_size = length-take from file

    prefix_size : length (take from file ++ bytes) ≡ min from (length file) + length bytes
    prefix_size = length-append (take from file) bytes ∙ ap (λ n. n + length bytes) head_size

    long : length (take from file ++ bytes ++ drop (from + length bytes) file) ≡ min from (length file) + length bytes + (length file - (from + length bytes))
    long = omega (arith, length-append (take from file ++ bytes) (drop (from + length bytes) file), prefix_size, length-drop (from + length bytes) file)

    regrouped : take from file ++ bytes ++ drop (from + length bytes) file ≡ take from file ++ (bytes ++ drop (from + length bytes) file)
    regrouped = append_assoc (take from file) bytes (drop (from + length bytes) file)

    before : (length file < from) ⊎ (from ≤ length file) → take from (take (length file) (take from file ++ bytes ++ drop (from + length bytes) file)) ≡ take from file
    before (inl short) =
        let all : take from file ≡ file = take_all from file (omega arith) in
        let kept : take (length file) (take from file ++ bytes ++ drop (from + length bytes) file) ≡ file =
        ap (take (length file)) regrouped ∙ take_at (take from file) (bytes ++ drop (from + length bytes) file) (length file) (ap length all) ∙ all in
        ap (take from) kept
    before (inr within) =
        take-take from (length file) (take from file ++ bytes ++ drop (from + length bytes) file) within
        ∙ ap (take from) regrouped
        ∙ take_at (take from file) (bytes ++ drop (from + length bytes) file) from (omega (arith, head_size))

    after : (length file < from + length bytes) ⊎ (from + length bytes ≤ length file) → drop (from + length bytes) (take (length file) (take from file ++ bytes ++ drop (from + length bytes) file)) ≡ drop (from + length bytes) file
    after (inl short) =
        drop_all (from + length bytes) (take (length file) (take from file ++ bytes ++ drop (from + length bytes) file)) (omega (arith, length-take (length file) (take from file ++ bytes ++ drop (from + length bytes) file)))
        ∙ sym (drop_all (from + length bytes) file (omega arith))
    after (inr within) =
        ap (drop (from + length bytes)) (take_all (length file) (take from file ++ bytes ++ drop (from + length bytes) file) (omega (arith, long)))
        ∙ drop_at (take from file ++ bytes) (drop (from + length bytes) file) (from + length bytes) (omega (arith, prefix_size))

-- what a read gives after a call is among what a crash may leave after it
stays_after : (file : List ℕ) (before : List ℕ → Type 0) (call : DiskCall) → before file → leaves_after file before call (bytes_after file call)
stays_after file before (Wrote w) stays = (file, stays, torn_overwritten file w.from w.bytes.items)
stays_after file before Synced stays = refl

stays_after_all : (file : List ℕ) (before : List ℕ → Type 0) (calls : List DiskCall) → before file → leaves_after_all file before calls (bytes_after_all file calls)
stays_after_all file before [] stays = stays
stays_after_all file before (call ∷ calls) stays = stays_after_all (bytes_after file call) (leaves_after file before call) calls (stays_after file before call stays)

-- what a read gives may stay
pub bytes_stay : (first : List ℕ) (calls : List DiskCall) → may_leave_of first calls (bytes_after_all first calls)
bytes_stay first calls = stays_after_all first (λ old. old ≡ first) calls refl

-- what a crash may leave now counts as left since each earlier time
pub left_now : (first : List ℕ) (calls : List DiskCall) (time : ℕ) (left : List ℕ) → time ≤ length calls → may_leave_of first calls left → left_since_of first calls time left
left_now first calls time left before now = (length calls, before, omega arith, subst (λ (l : List DiskCall). may_leave_of first l left) (sym (take_all (length calls) calls (omega arith))) now)

-- since this moment there is no other
pub left_only : (first : List ℕ) (calls : List DiskCall) (left : List ℕ) → left_since_of first calls (length calls) left → may_leave_of first calls left
left_only first calls left since = subst (λ (l : List DiskCall). may_leave_of first l left) (take_all since.0 calls since.1) since.3
