-- A change that is kept, by the record that was put.
use Rattle.std.proofs.Common.{◌≡◌, ℕ, List, sym, subst}
use Rattle.std.specs.declared.option.Option.{Option}
use Rattle.peer_disk.specs.Disk.{LeavesOnly}
use Rattle.peer_disk.specs.Records.{Keeps, IsBeforeOrAfter}
use Rattle.host_people.specs.declared.change.Change.{Change}
use Rattle.host_people.specs.Bodies.{change_body, change_bodies}
use Rattle.host_people.specs.Kept.{Kept, KeepsChanges, HasChangesOrOneMore}

module _ {D : Type 0} (moment : D → ℕ) (left_since : D → ℕ → List ℕ → Type 0) (may_leave : D → List ℕ → Type 0) (seen : D → Option (List ℕ)) (book : Kept) (change : Change) where
  module _ (old new : D) (place : ℕ) (body : List ℕ) (place_is : place ≡ book.place) (body_is : body ≡ change_body change) (keeps : KeepsChanges book (seen old) (may_leave old)) where
    there : Keeps 0 (change_bodies book.changes) place (seen old) (may_leave old)
    there = subst (λ (n : ℕ). Keeps 0 (change_bodies book.changes) n (seen old) (may_leave old)) (sym place_is) keeps

    -- where the record was put, it leaves them with this one or without
    pub one_put : ((site : ℕ) (bodies : List (List ℕ)) → Keeps site bodies place (seen old) (may_leave old) → LeavesOnly moment left_since old new (IsBeforeOrAfter site bodies body))
        → LeavesOnly moment left_since old new (HasChangesOrOneMore book.changes change)
    one_put leaves =
        subst (λ (b : List ℕ). LeavesOnly moment left_since old new (IsBeforeOrAfter 0 (change_bodies book.changes) b)) body_is (leaves 0 (change_bodies book.changes) there)
