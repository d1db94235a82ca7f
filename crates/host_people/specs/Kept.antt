-- What a book is, and what it keeps.
use Rattle.std.specs.Prelude.{◌≡◌, ℕ, ◌<◌, Bool, true, List, Option, IfSome, length}
use Rattle.peer_disk.specs.Records.{Keeps, IsBeforeOrAfter}
use Rattle.host_people.specs.declared.change.Change.{Change}
use Rattle.host_people.specs.declared.fault.BookFault.{BookFault}
use Rattle.host_people.specs.declared.fault.BookFault.TheVariants.{DiskFault, NotABook, Spent, Full, NoMemory}
use Rattle.host_people.specs.Bodies.{change_body, change_bodies}

-- the changes of a book, the newest first, where its file's last gate stands, and whether the disk failed
pub record Kept : Type 0 where
  pub changes : List Change
  pub place : ℕ
  pub spent : Bool

-- each crash leaves a file with the bodies of the book's changes, and the disk tells it
abbrev pub KeepsChanges : Kept → Option (List ℕ) → (List ℕ → Type 0) → Type 0
KeepsChanges book seen may_leave = Keeps 0 (change_bodies book.changes) book.place seen may_leave

-- a crash leaves the changes with one more, or without it
abbrev pub HasChangesOrOneMore : List Change → Change → List ℕ → Type 0
HasChangesOrOneMore changes change file = IsBeforeOrAfter 0 (change_bodies changes) (change_body change) file

-- the file's last gate stands in it
abbrev pub HasLastGate : Kept → Option (List ℕ) → Type 0
HasLastGate book seen = IfSome seen (λ file. book.place < length file)

-- a change isn't kept: the disk failed and the book is spent, or book and disk are as before
abbrev pub IsNotKeptFor : {D : Type 0} → BookFault → Kept → Kept → D → D → Type 0
IsNotKeptFor DiskFault old new before now = new.spent ≡ true
IsNotKeptFor NotABook old new before now = ⊥
IsNotKeptFor Spent old new before now = (old.spent ≡ true) × (new ≡ old) × (now ≡ before)
IsNotKeptFor Full old new before now = (new ≡ old) × (now ≡ before)
IsNotKeptFor NoMemory old new before now = (new ≡ old) × (now ≡ before)
