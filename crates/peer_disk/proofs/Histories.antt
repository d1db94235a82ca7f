-- One more call joins a history.
use Rattle.std.proofs.Common.{◌≡◌, ◌⊎◌, inl, inr, ℕ, ◌+◌, ◌<◌, ◌≤◌, List, [], ◌∷◌, ◌++◌, length, refl, sym, ap, ◌∙◌, true, false, subst, arith, length-append, Err, Bool}
use Rattle.std.proofs.lemmas.Bool.{cases_lt}
use Rattle.std.proofs.lemmas.List.{take_all, take-append-le}
use Rattle.peer_disk.specs.declared.mem_disk.DiskCall.{DiskCall}
use Rattle.edit_io.specs.declared.fail.Failed.{Failed}
use Rattle.edit_io.specs.Causes.{HasCause}
use Rattle.peer_disk.specs.declared.mem_disk.DiskWrite.{DiskWrite}
use Rattle.peer_disk.specs.declared.mem_disk.DiskCall.TheVariants.{Wrote, Synced}
use Rattle.peer_disk.specs.Disk.{Torn, LeavesAfter, Elapses}
use Rattle.peer_disk.specs.History.{bytes_after, bytes_after_all, leaves_after, leaves_after_all, may_leave_of, left_since_of, Medium, called}
use Rattle.peer_disk.specs.HistoryLaws.{bytes_stay}

pub bytes_after_all-push : (file : List ℕ) (calls : List DiskCall) (call : DiskCall) → bytes_after_all file (calls ++ call ∷ []) ≡ bytes_after (bytes_after_all file calls) call
bytes_after_all-push file [] call = refl
bytes_after_all-push file (c ∷ calls) call = bytes_after_all-push (bytes_after file c) calls call

leaves-push : (file : List ℕ) (before : List ℕ → Type 0) (calls : List DiskCall) (call : DiskCall) (left : List ℕ) → leaves_after_all file before (calls ++ call ∷ []) left
    → leaves_after (bytes_after_all file calls) (leaves_after_all file before calls) call left
leaves-push file before [] call left now = now
leaves-push file before (c ∷ calls) call left now = leaves-push (bytes_after file c) (leaves_after file before c) calls call left now

-- what a crash may leave after one call more
pub may_leave-push : (first : List ℕ) (calls : List DiskCall) (call : DiskCall) (left : List ℕ) → may_leave_of first (calls ++ call ∷ []) left
    → leaves_after (bytes_after_all first calls) (may_leave_of first calls) call left
may_leave-push first calls call left now = leaves-push first (λ old. old ≡ first) calls call left now

abbrev Time : List ℕ → List DiskCall → List DiskCall → Type 0
Time first calls now = Elapses (length calls) (length now) (left_since_of first calls) (left_since_of first now) (may_leave_of first now)

pub elapses_push : (first : List ℕ) (calls : List DiskCall) (call : DiskCall) → Time first calls (calls ++ call ∷ [])
elapses_push first calls call = record {
  later = omega (arith, more);
  nothing_else = λ time left le since. split time left since (cases_lt (length calls) since.0);
  keeps = λ time left le past. (past.0, past.1, omega (arith, past.2, more), subst (λ (l : List DiskCall). may_leave_of first l left) (sym (take-append-le past.0 calls (call ∷ []) past.2)) past.3);
}
  where
    more : length (calls ++ call ∷ []) ≡ length calls + 1
    more = length-append calls (call ∷ [])

    split : (time : ℕ) (left : List ℕ) (since : left_since_of first (calls ++ call ∷ []) time left) → (length calls < since.0) ⊎ (since.0 ≤ length calls)
        → left_since_of first calls time left ⊎ may_leave_of first (calls ++ call ∷ []) left
    split time left since (inl new) = inr (subst (λ (l : List DiskCall). may_leave_of first l left) (take_all since.0 (calls ++ call ∷ []) (omega (arith, new, more))) since.3)
    split time left since (inr old) = inl (since.0, since.1, old, subst (λ (l : List DiskCall). may_leave_of first l left) (take-append-le since.0 calls (call ∷ []) old) since.3)

-- the disk after a call that failed at once
pub counted : {T : Type 0} (m n : Medium) (fails : Bool) → m.faults ≤ n.faults → n ≡ called m fails → fails ≡ true → HasCause {T = T} {E = Failed} m.faults n.faults (Err record {})
counted m n fails later after is = record { later = later; counted = ap (λ (d : Medium). d.faults) (after ∙ ap (called m) is) }

abbrev IsLater : Medium → Medium → DiskCall → Type 0
IsLater m n call = (n.first ≡ m.first) × (n.history ≡ m.history ++ call ∷ [])

-- what a disk has after one call more
pub has_after : (m n : Medium) (call : DiskCall) → IsLater m n call → bytes_after_all n.first n.history ≡ bytes_after (bytes_after_all m.first m.history) call
has_after m n call later = (λ i. bytes_after_all (later.0 i) (later.1 i)) ∙ bytes_after_all-push m.first m.history call

pub leaves_then : (m n : Medium) (call : DiskCall) (left : List ℕ) → IsLater m n call → may_leave_of n.first n.history left → leaves_after (bytes_after_all m.first m.history) (may_leave_of m.first m.history) call left
leaves_then m n call left later now =
    may_leave-push m.first m.history call left (subst (λ (l : List DiskCall). may_leave_of m.first l left) later.1 (subst (λ (f : List ℕ). may_leave_of f n.history left) later.0 now))

-- time goes on by one call
pub time_then : (m n : Medium) (call : DiskCall) → IsLater m n call → Elapses (length m.history) (length n.history) (left_since_of m.first m.history) (left_since_of n.first n.history) (may_leave_of n.first n.history)
time_then m n call later =
    let along : (f : List ℕ) → f ≡ m.first → Elapses (length m.history) (length n.history) (left_since_of m.first m.history) (left_since_of f n.history) (may_leave_of f n.history)
    = λ f is. subst (λ (x : List ℕ). Elapses (length m.history) (length n.history) (left_since_of m.first m.history) (left_since_of x n.history) (may_leave_of x n.history)) (sym is)
    (subst (λ (l : List DiskCall). Elapses (length m.history) (length l) (left_since_of m.first m.history) (left_since_of m.first l) (may_leave_of m.first l)) (sym later.1) (elapses_push m.first m.history call)) in
    along n.first later.0

pub wrote_follows : (m n : Medium) (w : DiskWrite) (from : ℕ) (bytes : List ℕ) → IsLater m n (Wrote w) → w.from ≡ from → w.bytes.items ≡ bytes → LeavesAfter (Torn from (length bytes)) (may_leave_of m.first m.history) (may_leave_of n.first n.history)
wrote_follows m n w from bytes later from_is bytes_is left now =
    let since = leaves_then m n (Wrote w) left later now in
    (since.0, since.1, subst (λ (k : ℕ). Torn k (length bytes) since.0 left) from_is (subst (λ (b : List ℕ). Torn w.from (length b) since.0 left) bytes_is since.2))

pub sync_keeps : (m n : Medium) (left : List ℕ) → IsLater m n Synced → may_leave_of n.first n.history left → may_leave_of m.first m.history left
sync_keeps m n left later now = subst (may_leave_of m.first m.history) (sym (leaves_then m n Synced left later now)) (bytes_stay m.first m.history)

-- a call that failed changed the counts alone
pub later_than : (m middle n : Medium) (call : DiskCall) (fails : Bool) → middle ≡ called m fails → fails ≡ false → n ≡ record middle { history = middle.history ++ call ∷ [] } → IsLater m n call
later_than m middle n call fails first is second =
    let middle_is : middle ≡ called m false = first ∙ ap (called m) is in (
      ap (λ (d : Medium). d.first) second ∙ ap (λ (d : Medium). d.first) middle_is,
      ap (λ (d : Medium). d.history) second ∙ ap (λ (d : Medium). d.history ++ call ∷ []) middle_is,
    )
