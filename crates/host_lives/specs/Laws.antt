-- The laws of the lives of a host, over both of its files.
use Rattle.std.specs.Prelude.{◌≡◌, ◌⊎◌, ℕ, true, List, ◌∷◌, ◌++◌, Some, Contains, IsSome}
use Rattle.std.specs.List.{AllByRecursion}
use Rattle.sha2.specs.Sha256.{sha256}
use Rattle.coop_request.specs.Request.{Request}
use Rattle.edit_message.specs.declared.message.Message.{Message}
use Rattle.edit_message.specs.declared.message.Message.TheVariants.{Coop}
use Rattle.peer_step.specs.declared.step.Step.{Step}
use Rattle.peer_step.specs.declared.step.Step.TheVariants.{Receive}
use Rattle.peer_store.specs.Steps.{replay_of}
use Rattle.peer_store.specs.Store.{StandsFor}
use Rattle.host_core.specs.declared.event.Hello.{Hello}
use Rattle.host_core.specs.declared.event.LinkId.{LinkId}
use Rattle.host_core.specs.declared.event.HostEvent.{HostEvent}
use Rattle.host_core.specs.declared.event.HostEvent.TheVariants.{LinkOpened, Made, Gave, Told}
use Rattle.host_core.specs.Past.{links_opened, open_link}
use Rattle.host_people.specs.declared.change.Change.{Change}
use Rattle.host_people.specs.declared.change.Change.TheVariants.{Joined, Left}
use Rattle.host_people.specs.declared.people.Holder.{Holder}
use Rattle.host_people.specs.Holders.{device_holder}
use Rattle.host_lives.specs.Lives.{LifeEvent, AtDocument, CloseTold, changes_saved, this_life, MayLeave, IsHeldBy, IsClosedIn, AreLives}
use Rattle.host_lives.specs.Files.{IsPeopleFile, IsDocumentFile, RecordsChange}

-- ---- authentic over both files

-- a request came on a link of its site, open then, that was opened by the secret of a device which was open in the people's file
pub record CameByDevice (ls : List LifeEvent) (q : Request) (holder : Holder) : Type 0 where
  pub link : LinkId
  pub hello : Hello
  pub after : List LifeEvent
  pub between : List LifeEvent
  pub before : List LifeEvent
  pub came : ls ≡ after ++ AtDocument (Made (Some link) (Receive (Coop q))) ∷ (between ++ AtDocument (LinkOpened hello) ∷ before)
  pub of_site : link.site ≡ q.id.site
  pub still_open : IsSome (open_link (this_life (between ++ AtDocument (LinkOpened hello) ∷ before)) link)
  pub number : link.number ≡ links_opened (this_life before)
  pub by_site : hello.site ≡ q.id.site
  pub known : device_holder q.id.site (changes_saved before) ≡ Some holder
  pub is_key : holder.digest ≡ sha256 hello.secret
  pub was_open : holder.is_open ≡ true

-- and these changes have that device under the request's site
pub record IsOfDevice (ls : List LifeEvent) (changes : List Change) (q : Request) : Type 0 where
  pub holder : Holder
  pub came : CameByDevice ls q holder
  pub still : IsHeldBy holder (device_holder q.id.site changes)

-- each request that a crash leaves in the document's file was there at first, or is of the host's own site, or is of the device that
-- the people's file has under its site, then and at any time later
abbrev pub KnownDeviceLaw : Type 0
KnownDeviceLaw = (first : List Message) (later ls : List LifeEvent) (journal : List Message) (q : Request) → AreLives first (later ++ ls)
    → MayLeave first ls journal → Contains journal (Coop q)
    → Contains first (Coop q) ⊎ ((q.id.site ≡ 0) ⊎ IsOfDevice ls (changes_saved (later ++ ls)) q)

-- a site stays that of the person and the digest to which it was given
abbrev pub OneDeviceLaw : Type 0
OneDeviceLaw = (first : List Message) (later ls : List LifeEvent) (u : ℕ) (holder : Holder) → AreLives first (later ++ ls)
    → device_holder u (changes_saved ls) ≡ Some holder → IsHeldBy holder (device_holder u (changes_saved (later ++ ls)))

-- the same of the bytes: for each such request of the document's file the people's file has a record that a device of its site was made
abbrev pub RecordedDeviceLaw : Type 0
RecordedDeviceLaw = (first : List Message) (later ls : List LifeEvent) (people document : List ℕ) (steps : List Step) (q : Request)
    → AreLives first (later ++ ls) → IsPeopleFile (later ++ ls) people → IsDocumentFile first ls document
    → StandsFor 0 steps document → Contains (replay_of 0 steps).journal (Coop q)
    → Contains first (Coop q) ⊎ ((q.id.site ≡ 0) ⊎ ((person : ℕ) × (digest : List ℕ) × RecordsChange (Joined q.id.site person digest) people))

-- ---- closed is closed over both files

-- the event opens a link of a site, takes something from one, or gives or tells it something
abbrev pub IsOnLinkOf : ℕ → HostEvent → Type 0
IsOnLinkOf u (LinkOpened hello) = hello.site ≡ u
IsOnLinkOf u (Made (Some l) step) = l.site ≡ u
IsOnLinkOf u (Gave l m) = l.site ≡ u
IsOnLinkOf u (Told l) = l.site ≡ u
IsOnLinkOf u e = ⊥

-- the same in the lives of a host
abbrev pub UsesSite : ℕ → LifeEvent → Type 0
UsesSite u (AtDocument e) = IsOnLinkOf u e
UsesSite u l = ⊥

-- once it was told that a device is closed, no link of its site opens in this life or a later one, and nothing comes of one or goes to
-- one; and the people's file has it closed
abbrev pub ClosedForGoodLaw : Type 0
ClosedForGoodLaw = (first : List Message) (later earlier : List LifeEvent) (u : ℕ) → AreLives first (later ++ CloseTold u ∷ earlier)
    → AllByRecursion (λ l. ¬ UsesSite u l) later × IsClosedIn (changes_saved (later ++ CloseTold u ∷ earlier)) u

-- what the document's file has of its site afterwards, and hadn't at first, came before
abbrev pub NothingMoreLaw : Type 0
NothingMoreLaw = (first : List Message) (later earlier : List LifeEvent) (u : ℕ) (journal : List Message) (q : Request)
    → AreLives first (later ++ CloseTold u ∷ earlier) → MayLeave first (later ++ CloseTold u ∷ earlier) journal → Contains journal (Coop q)
    → q.id.site ≡ u → Contains first (Coop q) ⊎ ((u ≡ 0) ⊎ ((holder : Holder) × CameByDevice earlier q holder))

-- the same of the bytes: the people's file has a record that the device was closed
abbrev pub RecordedCloseLaw : Type 0
RecordedCloseLaw = (first : List Message) (later earlier : List LifeEvent) (u : ℕ) (people : List ℕ) → AreLives first (later ++ CloseTold u ∷ earlier)
    → IsPeopleFile (later ++ CloseTold u ∷ earlier) people → RecordsChange (Left u) people
