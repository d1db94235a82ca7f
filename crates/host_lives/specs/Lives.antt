-- The lives of a host, one after another, with what each leaves in the people's file and in a document's.
use Rattle.std.specs.Prelude.{◌≡◌, ⊤, ℕ, true, false, List, [], ◌∷◌, Option, None, IsSomeAnd}
use Rattle.sha2.specs.Sha256.{sha256}
use Rattle.edit_message.specs.declared.message.Message.{Message}
use Rattle.peer_core.specs.Peer.{Peer}
use Rattle.host_core.specs.declared.event.HostEvent.{HostEvent}
use Rattle.host_core.specs.declared.event.HostEvent.TheVariants.{Began, LinkOpened}
use Rattle.host_core.specs.Past.{host_peer, saved_journal, device_of}
use Rattle.host_core.specs.Happens.{MayHappen}
use Rattle.host_store.specs.Kept.{IsWithinMade}
use Rattle.host_people.specs.declared.change.Change.{Change}
use Rattle.host_people.specs.declared.change.Change.TheVariants.{Joined}
use Rattle.host_people.specs.declared.people.Holder.{Holder}
use Rattle.host_people.specs.Holders.{device_holder}

-- ---- what happens, and what it leaves

-- what happens in the lives of a host, in the order in which it writes
pub data LifeEvent : Type 0 where
  -- a change of people is on the disk
  PeopleChanged : Change → LifeEvent
  -- this happened at the host of the document
  AtDocument : HostEvent → LifeEvent
  -- an owner is told that the device of this site is closed
  CloseTold : ℕ → LifeEvent
  -- by a crash or not, the document's host ended, and its file has this journal
  LifeEnded : List Message → LifeEvent

-- the changes that the people's file has, the newest first
abbrev pub changes_saved : List LifeEvent → List Change
changes_saved [] = []
changes_saved (PeopleChanged change ∷ ls) = change ∷ changes_saved ls
changes_saved (l ∷ ls) = changes_saved ls

-- what has happened at the document's host in this life, the newest first
abbrev pub this_life : List LifeEvent → List HostEvent
this_life [] = []
this_life (AtDocument e ∷ ls) = e ∷ this_life ls
this_life (LifeEnded journal ∷ ls) = []
this_life (l ∷ ls) = this_life ls

-- the journal that the last life left in the document's file; at first it has these messages
abbrev pub journal_left : List Message → List LifeEvent → List Message
journal_left first [] = first
journal_left first (LifeEnded journal ∷ ls) = journal
journal_left first (l ∷ ls) = journal_left first ls

-- a crash leaves this journal: the one that was left, as long as no host has begun, and then all that is saved and nothing but what
-- was made
abbrev pub LeavesJournal : List Message → List HostEvent → List Message → Type 0
LeavesJournal left [] journal = journal ≡ left
LeavesJournal left (e ∷ es) journal = IsWithinMade (saved_journal (e ∷ es)) journal (host_peer (e ∷ es)).journal

-- a crash may leave the document's file with this journal
abbrev pub MayLeave : List Message → List LifeEvent → List Message → Type 0
MayLeave first ls journal = LeavesJournal (journal_left first ls) (this_life ls) journal

-- ---- devices in the people's file

-- who holds a device is this person by this digest, be it closed or not
abbrev pub IsHeldBy : Holder → Option Holder → Type 0
IsHeldBy holder known = IsSomeAnd known (λ h. (h.person ≡ holder.person) × (h.digest ≡ holder.digest))

-- a device is open, and this is its secret
abbrev pub IsOpenBy : List ℕ → Option Holder → Type 0
IsOpenBy secret known = IsSomeAnd known (λ h. (h.digest ≡ sha256 secret) × (h.is_open ≡ true))

-- a device is there, and closed
abbrev pub IsClosedHolder : Option Holder → Type 0
IsClosedHolder known = IsSomeAnd known (λ h. h.is_open ≡ false)

-- that of a site is
abbrev pub IsClosedIn : List Change → ℕ → Type 0
IsClosedIn changes u = IsClosedHolder (device_holder u changes)

-- ---- what may be next

-- a change makes no device with a site that was given before
abbrev pub GivesNewSite : List Change → Change → Type 0
GivesNewSite changes (Joined u person digest) = device_holder u changes ≡ None
GivesNewSite changes change = ⊤

-- the administrator's peer that a file with this journal has: a host holds nothing, so its file has nothing that is held
pub record IsPeerOf (left : List Message) (p : Peer) : Type 0 where
  pub administrator : p.site ≡ 0
  pub journal : p.journal ≡ left
  pub none_held : p.held ≡ []

-- a host begins with the peer of the file
abbrev pub BeginsFrom : List Message → HostEvent → Type 0
BeginsFrom left (Began p document) = IsPeerOf left p
BeginsFrom left e = ⊥

-- what happens at a host is by the files: it begins with what was left, and opens a link to who shows the secret of an open device
abbrev pub IsByFiles : List Message → List Change → List HostEvent → HostEvent → Type 0
IsByFiles left changes [] e = BeginsFrom left e
IsByFiles left changes (d ∷ es) (LinkOpened hello) = IsOpenBy hello.secret (device_holder hello.site changes)
IsByFiles left changes (d ∷ es) e = ⊤

-- what may be next. That a device is closed is told once that is on the disk and at the document's host
abbrev pub MayBeNext : List Message → List LifeEvent → LifeEvent → Type 0
MayBeNext first ls (PeopleChanged change) = GivesNewSite (changes_saved ls) change
MayBeNext first ls (AtDocument e) = MayHappen (this_life ls) e × IsByFiles (journal_left first ls) (changes_saved ls) (this_life ls) e
MayBeNext first ls (CloseTold u) = IsClosedIn (changes_saved ls) u × (device_of u (this_life ls) ≡ None)
MayBeNext first ls (LifeEnded journal) = MayLeave first ls journal

-- lives of a host whose document's file had these messages at first, each event after those before it
abbrev pub AreLives : List Message → List LifeEvent → Type 0
AreLives first [] = ⊤
AreLives first (l ∷ ls) = MayBeNext first ls l × AreLives first ls
