-- The laws of what happens at hosts.
use Rattle.std.specs.Prelude.{◌≡◌, ◌⊎◌, ⊤, ℕ, true, ◌+◌, ◌≤◌, ◌<◌, List, [], ◌∷◌, ◌++◌, Option, Some, None, length, take, fold, Contains, IsSome, IsSomeAnd}
use Rattle.std.specs.List.{AllByRecursion}
use Rattle.sha2.specs.Sha256.{sha256}
use Rattle.element_name.specs.declared.limits.TheConstants.{MAX_STAMP}
use Rattle.coop_request.specs.Request.{Request}
use Rattle.policy_book.specs.Entry.{Entry}
use Rattle.edit_message.specs.declared.message.Message.{Message}
use Rattle.edit_message.specs.declared.message.Message.TheVariants.{Coop, Admin}
use Rattle.edit_message.specs.Message.{key_of, requests_of, entries_of}
use Rattle.request_state.specs.declared.state.Undone.{Undone}
use Rattle.peer_step.specs.declared.step.Step.{Step}
use Rattle.peer_step.specs.declared.step.Step.TheVariants.{Receive}
use Rattle.peer_step.specs.declared.answer.Answer.{Answer}
use Rattle.peer_step.specs.declared.answer.Answer.TheVariants.{ClockEnd, HistoryFull, LogFull, Issued, HoldFull}
use Rattle.peer_tables.specs.Derived.{greatest_stamp}
use Rattle.peer_tables.specs.Journal.{IsJournal}
use Rattle.peer_core.specs.Peer.{Peer, history, log, text}
use Rattle.peer_core.specs.Answers.{is_full_log, answer_of}
use Rattle.peer_core.specs.After.{peer_after}
use Rattle.peer_core.specs.Sound.{IsSound}
use Rattle.host_core.specs.declared.limits.TheConstants.{LINK_REQUESTS, MAX_DENIED}
use Rattle.host_core.specs.declared.event.Role.TheVariants.{Owner}
use Rattle.host_core.specs.declared.event.Device.{Device}
use Rattle.host_core.specs.declared.event.Hello.{Hello}
use Rattle.host_core.specs.declared.event.LinkId.{LinkId}
use Rattle.host_core.specs.declared.event.OpenLink.{OpenLink}
use Rattle.host_core.specs.declared.event.HostEvent.{HostEvent}
use Rattle.host_core.specs.declared.event.HostEvent.TheVariants.{DeviceMade, SecretChanged, DeviceClosed, LinkOpened, LinkClosed, Made, Gave, Told}
use Rattle.host_core.specs.Past.{first_peer, host_peer, saved_journal, device_of, links_opened, link_of, open_link, given_to, denied_of}
use Rattle.host_core.specs.Happens.{IsPast}

-- all that a peer has, integrated or held
abbrev pub messages_had : Peer → List Message
messages_had p = p.journal ++ p.held

-- ---- authentic: what came on a link came by its key, and entries by an owner's order

-- a link was opened by a hello with the secret that the device of its site had then
pub record OpenedByKey (es : List HostEvent) (l : LinkId) : Type 0 where
  pub hello : Hello
  pub device : Device
  pub between : List HostEvent
  pub earlier : List HostEvent
  pub opened : es ≡ between ++ LinkOpened hello ∷ earlier
  pub by_site : hello.site ≡ l.site
  pub number : l.number ≡ links_opened earlier
  pub device_is : device_of l.site earlier ≡ Some device
  pub is_key : device.digest ≡ sha256 hello.secret

-- a request came on a link of its site, open then, that was opened by its key
pub record CameByKey (es : List HostEvent) (q : Request) : Type 0 where
  pub link : LinkId
  pub later : List HostEvent
  pub before : List HostEvent
  pub came : es ≡ later ++ Made (Some link) (Receive (Coop q)) ∷ before
  pub of_site : link.site ≡ q.id.site
  pub still_open : IsSome (open_link before link)
  pub by_key : OpenedByKey before link

-- each request that the host has was there at the start, or is of the host's own site, or came by its site's key
abbrev pub AuthenticLaw : Type 0
AuthenticLaw = (es : List HostEvent) (q : Request) → IsPast es → Contains (messages_had (host_peer es)) (Coop q)
    → Contains (messages_had (first_peer es)) (Coop q) ⊎ ((q.id.site ≡ (first_peer es).site) ⊎ CameByKey es q)

-- the host itself, or an owner's open link
abbrev pub IsByOwner : List HostEvent → Option LinkId → Type 0
IsByOwner es None = ⊤
IsByOwner es (Some l) = IsSomeAnd (open_link es l) (λ x. x.role ≡ Owner)

-- an entry was issued by a step that an owner asked for
pub record WasOrdered (es : List HostEvent) (e : Entry) : Type 0 where
  pub by : Option LinkId
  pub step : Step
  pub undone : Undone
  pub later : List HostEvent
  pub before : List HostEvent
  pub came : es ≡ later ++ Made by step ∷ before
  pub owner : IsByOwner before by
  pub issued : answer_of (host_peer before) step ≡ Issued e undone

-- each entry that the host has was there at the start, or was ordered
abbrev pub OrderedLaw : Type 0
OrderedLaw = (es : List HostEvent) (e : Entry) → IsPast es → Contains (messages_had (host_peer es)) (Admin e)
    → Contains (messages_had (first_peer es)) (Admin e) ⊎ WasOrdered es e

-- ---- saved before told

-- each message that a link was given was saved by then
abbrev pub SavedLaw : Type 0
SavedLaw = (later earlier : List HostEvent) (l : LinkId) (m : Message) → IsPast (later ++ Gave l m ∷ earlier) → Contains (saved_journal earlier) m

-- what is saved is a beginning of the journal
abbrev pub BeginningLaw : Type 0
BeginningLaw = (es : List HostEvent) → IsPast es → (more : List Message) × ((host_peer es).journal ≡ saved_journal es ++ more)

-- what the journal had at a time is saved once as many of its messages are
abbrev pub WholeSavedLaw : Type 0
WholeSavedLaw = (later es : List HostEvent) → IsPast (later ++ es) → length (host_peer es).journal ≤ length (saved_journal (later ++ es))
    → (more : List Message) × (saved_journal (later ++ es) ≡ (host_peer es).journal ++ more)

-- when a link was told its answers, all that the journal had at any time before was saved
abbrev pub ToldLaw : Type 0
ToldLaw = (later between es : List HostEvent) (l : LinkId) → IsPast (later ++ Told l ∷ (between ++ es))
    → (more : List Message) × (saved_journal (between ++ es) ≡ (host_peer es).journal ++ more)

-- ---- no fork

-- a host begins with a peer whose journal begins with what an earlier one had saved, as each crash leaves it
pub record Continues (es fs : List HostEvent) : Type 0 where
  pub more : List Message
  pub journal : (first_peer fs).journal ≡ saved_journal es ++ more

-- a message was given to some link
pub record WasGiven (es : List HostEvent) (m : Message) : Type 0 where
  pub link : LinkId
  pub later : List HostEvent
  pub earlier : List HostEvent
  pub gave : es ≡ later ++ Gave link m ∷ earlier

-- what a host and one that continues it gave under one key is one message
abbrev pub NoForkLaw : Type 0
NoForkLaw = (es fs : List HostEvent) (m n : Message) → IsPast es → IsPast fs → IsSound (host_peer fs) → Continues es fs
    → WasGiven es m → WasGiven fs n → key_of m ≡ key_of n → m ≡ n

-- ---- in order, nothing skipped, nothing twice

-- what a link had, and what it was given behind it up to its mark, are a beginning of the journal, all of which is saved
pub record InOrder (journal saved given : List Message) (from mark : ℕ) : Type 0 where
  pub behind : from ≤ mark
  pub within : mark ≤ length saved
  pub order : take from journal ++ given ≡ take mark journal

abbrev pub InOrderLaw : Type 0
InOrderLaw = (es : List HostEvent) (u : ℕ) (x : OpenLink) → IsPast es → link_of u es ≡ Some x
    → InOrder (host_peer es).journal (saved_journal es) (given_to u es) x.from x.mark

-- where its mark has come to the end of what is saved it has all of that
abbrev pub AllGivenLaw : Type 0
AllGivenLaw = (es : List HostEvent) (u : ℕ) (x : OpenLink) → IsPast es → link_of u es ≡ Some x → length (saved_journal es) ≤ x.mark
    → take x.from (host_peer es).journal ++ given_to u es ≡ saved_journal es

-- ---- closed is closed

-- the event gives or tells a link something, or takes something from it
abbrev pub IsOfLink : LinkId → HostEvent → Type 0
IsOfLink l (Made (Some k) step) = k ≡ l
IsOfLink l (Gave k m) = k ≡ l
IsOfLink l (Told k) = k ≡ l
IsOfLink l e = ⊥

-- the event closes a link that was opened before it: by itself, with its device or secret, or by a newer link of its site
abbrev pub ClosesLink : LinkId → HostEvent → Type 0
ClosesLink l (LinkClosed k) = k ≡ l
ClosesLink l (LinkOpened hello) = hello.site ≡ l.site
ClosesLink l (SecretChanged u digest) = u ≡ l.site
ClosesLink l (DeviceClosed u) = u ≡ l.site
ClosesLink l e = ⊥

-- a link that was closed is given and told nothing more, and nothing of it is taken
abbrev pub ClosedLaw : Type 0
ClosedLaw = (later earlier : List HostEvent) (e : HostEvent) (l : LinkId) → IsPast (later ++ e ∷ earlier) → l.number < links_opened earlier → ClosesLink l e
    → AllByRecursion (λ f. ¬ IsOfLink l f) later

-- the event is of a site: of a link of it, or opens one, or makes it a device
abbrev pub IsOfSite : ℕ → HostEvent → Type 0
IsOfSite u (DeviceMade v d) = v ≡ u
IsOfSite u (LinkOpened hello) = hello.site ≡ u
IsOfSite u (Made (Some l) step) = l.site ≡ u
IsOfSite u (Gave l m) = l.site ≡ u
IsOfSite u (Told l) = l.site ≡ u
IsOfSite u e = ⊥

-- after a device was closed nothing of its site happens any more
abbrev pub DeviceClosedLaw : Type 0
DeviceClosedLaw = (later earlier : List HostEvent) (u : ℕ) → IsPast (later ++ DeviceClosed u ∷ earlier) → AllByRecursion (λ f. ¬ IsOfSite u f) later

-- ---- nobody stops the others

-- a host that began with nothing held holds nothing
abbrev pub HeldLaw : Type 0
HeldLaw = (es : List HostEvent) → IsPast es → (first_peer es).held ≡ [] → (host_peer es).held ≡ []

-- its clock then runs by one for each request at most
abbrev pub ClockLaw : Type 0
ClockLaw = (es : List HostEvent) → IsPast es → (first_peer es).held ≡ []
    → greatest_stamp (history (host_peer es)) + length (history (first_peer es)) ≤ greatest_stamp (history (first_peer es)) + length (history (host_peer es))

-- what a link offers takes no version, and none of the requests that are left to the owners
abbrev pub ReserveLaw : Type 0
ReserveLaw = (es : List HostEvent) (l : LinkId) (m : Message) → IsPast (Made (Some l) (Receive m) ∷ es)
    → (log (host_peer (Made (Some l) (Receive m) ∷ es)) ≡ log (host_peer es)) × (length (history (host_peer (Made (Some l) (Receive m) ∷ es))) ≤ LINK_REQUESTS)

-- no more requests of a site are denied as they come than may be
abbrev pub ShareLaw : Type 0
ShareLaw = (es : List HostEvent) (u : ℕ) → IsPast es → denied_of u es ≤ MAX_DENIED

-- an answer for want of stamps, of requests, of room in the hold, or of versions
abbrev pub IsStop : Answer → Type 0
IsStop ClockEnd = ⊤
IsStop HistoryFull = ⊤
IsStop HoldFull = ⊤
IsStop LogFull = ⊤
IsStop answer = ⊥

-- behind what a link offered no step is stopped, at the host or at a page that has its journal and holds nothing, but by a log that was full before
abbrev pub GoesOnLaw : Type 0
GoesOnLaw = (es : List HostEvent) (l : LinkId) (m : Message) (p : Peer) (step : Step) → IsPast (Made (Some l) (Receive m) ∷ es)
    → (first_peer es).held ≡ [] → greatest_stamp (history (first_peer es)) + LINK_REQUESTS < MAX_STAMP
    → p.journal ≡ (host_peer (Made (Some l) (Receive m) ∷ es)).journal → p.held ≡ []
    → IsStop (answer_of p step) → is_full_log (host_peer es) ≡ true

-- ---- the headline

-- the steps that were made, in order
abbrev pub steps_made : List HostEvent → List Step
steps_made [] = []
steps_made (Made by step ∷ es) = steps_made es ++ step ∷ []
steps_made (e ∷ es) = steps_made es

-- the peer is the one that the host began with, after these steps
abbrev pub ReplayLaw : Type 0
ReplayLaw = (es : List HostEvent) → IsPast es → host_peer es ≡ fold peer_after (first_peer es) (steps_made es)

-- a page has integrated what the host's peer has, in whatever order, and nothing else
pub record HasJournal (page host : Peer) : Type 0 where
  pub journal : IsJournal page.journal
  pub forth : (q : Request) → Contains (requests_of page.journal) q → Contains (requests_of host.journal) q
  pub back : (q : Request) → Contains (requests_of host.journal) q → Contains (requests_of page.journal) q
  pub log : entries_of page.journal ≡ entries_of host.journal

-- it shows the same text
abbrev pub PageLaw : Type 0
PageLaw = (es : List HostEvent) (page : Peer) → IsPast es → IsSound (host_peer es) → HasJournal page (host_peer es) → text page ≡ text (host_peer es)
