-- Small pasts of a host, for any document and secret: on each the premises of a law hold, so that it speaks of something.
use Rattle.std.specs.Prelude.{◌≡◌, ◌+◌, ◌<◌, ℕ, List, [], ◌∷◌, ◌++◌, Some, None, length, Contains}
use Rattle.sha2.specs.Sha256.{sha256}
use Rattle.element_name.specs.declared.limits.TheConstants.{MAX_STAMP}
use Rattle.element_name.specs.Name.{start}
use Rattle.coop_request.specs.declared.edit.Edit.TheVariants as edits
use Rattle.coop_request.specs.Request.{Request}
use Rattle.policy_book.specs.declared.op.AdminOp.TheVariants.{AddUser}
use Rattle.policy_book.specs.Entry.{Entry}
use Rattle.edit_message.specs.declared.message.Message.{Message}
use Rattle.edit_message.specs.declared.message.Message.TheVariants.{Coop, Admin}
use Rattle.peer_step.specs.declared.step.LocalEdit.TheVariants.{Insert}
use Rattle.peer_step.specs.declared.step.Step.{Step}
use Rattle.peer_step.specs.declared.step.Step.TheVariants.{Edit, Administer, Receive}
use Rattle.peer_tables.specs.Derived.{greatest_stamp}
use Rattle.peer_core.specs.Peer.{Peer, fresh_peer, history, text}
use Rattle.peer_core.specs.Restore.{peer_of_journal}
use Rattle.peer_core.specs.Sound.{IsSound}
use Rattle.host_core.specs.declared.limits.TheConstants.{LINK_REQUESTS}
use Rattle.host_core.specs.declared.event.Role.{Role}
use Rattle.host_core.specs.declared.event.Role.TheVariants.{Owner, Writer}
use Rattle.host_core.specs.declared.event.Device.{Device}
use Rattle.host_core.specs.declared.event.Hello.{Hello}
use Rattle.host_core.specs.declared.event.LinkId.{LinkId}
use Rattle.host_core.specs.declared.event.HostEvent.{HostEvent}
use Rattle.host_core.specs.declared.event.HostEvent.TheVariants.{Began, PersonMade, DeviceMade, DeviceClosed, LinkOpened, LinkClosed, Made, Saved, Gave, Told}
use Rattle.host_core.specs.declared.refusal.Refusal.TheVariants.{NoLink, ForgedSite, StampAhead}
use Rattle.host_core.specs.Past.{first_peer, host_peer, saved_journal, links_opened, link_of, given_to, denied_of}
use Rattle.host_core.specs.Refusals.{ask_refusal}
use Rattle.host_core.specs.Happens.{IsPast}
use Rattle.host_core.specs.Laws.{messages_had, Continues, WasGiven, ClosesLink, HasJournal}

-- ---- what the pasts are made of

-- a device of this role with this secret
abbrev pub sample_device : Role → List ℕ → Device
sample_device role secret = record { person = 0; role = role; digest = sha256 secret }

-- the hello of a site, with nothing of the journal
abbrev pub sample_hello : List ℕ → List ℕ → ℕ → Hello
sample_hello document secret site = record { document = document; site = site; secret = secret; from = 0 }

-- a link of a site, by how many were opened before it
abbrev pub link_at : ℕ → ℕ → LinkId
link_at site number = record { site = site; number = number }

abbrev pub sample_link : LinkId
sample_link = link_at 1 0

-- an insert of `a` at the start, with this stamp and site
abbrev pub sample_request : ℕ → ℕ → Request
sample_request stamp site = record { id = record { stamp = stamp; site = site }; version = 0; edit = edits.Insert start (97 ∷ []) }

-- the first request of the device's site
abbrev pub sample_message : Message
sample_message = Coop (sample_request 1 1)

-- a host that began with this peer has one device, and its link is open
abbrev pub linked : Peer → Role → List ℕ → List ℕ → List HostEvent
linked p role document secret =
    LinkOpened (sample_hello document secret 1)
    ∷ DeviceMade 1 (sample_device role secret)
    ∷ PersonMade 0
    ∷ Began p document
    ∷ []

-- a writer offers a request
abbrev pub offered : List ℕ → List ℕ → List HostEvent
offered document secret = Made (Some sample_link) (Receive sample_message) ∷ linked (fresh_peer 0) Writer document secret

-- it is saved, and given to him
abbrev pub sample_past : List ℕ → List ℕ → List HostEvent
sample_past document secret = Gave sample_link sample_message ∷ Saved ∷ offered document secret

-- ---- the sample itself

-- it may all happen
abbrev pub SampleHappens : Type 0
SampleHappens = (document secret : List ℕ) → IsPast (sample_past document secret)

-- what the link was given
abbrev pub SampleGiven : Type 0
SampleGiven = (document secret : List ℕ) → given_to 1 (sample_past document secret) ≡ sample_message ∷ []

-- the next stamp is taken, a later one and another site's aren't
abbrev pub SampleDoor : Type 0
SampleDoor = (document secret : List ℕ)
    → (ask_refusal (sample_past document secret) sample_link (Receive (Coop (sample_request 2 1))) ≡ None)
    × (ask_refusal (sample_past document secret) sample_link (Receive (Coop (sample_request 3 1))) ≡ Some StampAhead)
    × (ask_refusal (sample_past document secret) sample_link (Receive (Coop (sample_request 2 2))) ≡ Some ForgedSite)

-- nothing is taken from it once its device is closed
abbrev pub SampleClosed : Type 0
SampleClosed = (document secret : List ℕ) (step : Step) → ask_refusal (DeviceClosed 1 ∷ sample_past document secret) sample_link step ≡ Some NoLink

-- ---- authentic

-- the host has the writer's request, and began without it
abbrev pub AuthenticSample : Type 0
AuthenticSample = (document secret : List ℕ)
    → IsPast (sample_past document secret)
    × Contains (messages_had (host_peer (sample_past document secret))) sample_message
    × (messages_had (first_peer (sample_past document secret)) ≡ [])

-- an owner orders a user
abbrev pub ordering : List ℕ → List ℕ → List HostEvent
ordering document secret = Made (Some sample_link) (Administer (AddUser 1)) ∷ linked (fresh_peer 0) Owner document secret

abbrev pub sample_entry : Entry
sample_entry = record { version = 1; op = AddUser 1 }

-- the host has the entry, and began without it
abbrev pub OrderedSample : Type 0
OrderedSample = (document secret : List ℕ)
    → IsPast (ordering document secret)
    × Contains (messages_had (host_peer (ordering document secret))) (Admin sample_entry)
    × (messages_had (first_peer (ordering document secret)) ≡ [])

-- ---- saved before told

-- the journal has the request before it is saved, and the link is given it and told of it behind that
abbrev pub SavedSample : Type 0
SavedSample = (document secret : List ℕ)
    → IsPast (Told sample_link ∷ sample_past document secret)
    × ((host_peer (offered document secret)).journal ≡ sample_message ∷ [])
    × (saved_journal (offered document secret) ≡ [])
    × (saved_journal (sample_past document secret) ≡ sample_message ∷ [])

-- ---- no fork

-- the host that goes on from what was saved gives the same
abbrev pub restarted : List ℕ → List ℕ → List HostEvent
restarted document secret = Gave sample_link sample_message ∷ linked (peer_of_journal 0 (sample_message ∷ [])) Writer document secret

abbrev pub NoForkSample : Type 0
NoForkSample = (document secret : List ℕ)
    → IsPast (sample_past document secret)
    × IsPast (restarted document secret)
    × IsSound (host_peer (restarted document secret))
    × Continues (sample_past document secret) (restarted document secret)
    × WasGiven (sample_past document secret) sample_message
    × WasGiven (restarted document secret) sample_message

-- ---- in order

-- the link had nothing, and has all that is saved
abbrev pub InOrderSample : Type 0
InOrderSample = (document secret : List ℕ)
    → IsPast (sample_past document secret)
    × (link_of 1 (sample_past document secret) ≡ Some (record { number = 0; role = Writer; from = 0; mark = 1 }))
    × (length (saved_journal (sample_past document secret)) ≡ 1)

-- ---- closed is closed

-- the link is closed, and another of its site is given the request again
abbrev pub ClosedSample : Type 0
ClosedSample = (document secret : List ℕ)
    → IsPast ((Gave (link_at 1 1) sample_message ∷ LinkOpened (sample_hello document secret 1) ∷ []) ++ LinkClosed sample_link ∷ sample_past document secret)
    × (sample_link.number < links_opened (sample_past document secret))
    × ClosesLink sample_link (LinkClosed sample_link)

-- the device is closed, and another one's link is given the request
abbrev pub DeviceClosedSample : Type 0
DeviceClosedSample = (document secret : List ℕ)
    → IsPast ((
    Gave (link_at 2 1) sample_message
    ∷ LinkOpened (sample_hello document secret 2)
    ∷ DeviceMade 2 (sample_device Writer secret)
    ∷ []) ++ DeviceClosed 1 ∷ sample_past document secret)

-- ---- nobody stops the others

-- nothing was held and the clock not late, it has run by one for one request, and that was denied
abbrev pub ShareSample : Type 0
ShareSample = (document secret : List ℕ)
    → IsPast (offered document secret)
    × ((first_peer (offered document secret)).held ≡ [])
    × (greatest_stamp (history (first_peer (offered document secret))) + LINK_REQUESTS < MAX_STAMP)
    × (greatest_stamp (history (host_peer (offered document secret))) ≡ 1)
    × (length (history (host_peer (offered document secret))) ≡ 1)
    × (denied_of 1 (offered document secret) ≡ 1)

-- ---- the same text

-- an owner writes `a`
abbrev pub written : List ℕ → List ℕ → List HostEvent
written document secret = Made (Some sample_link) (Edit (Insert 0 (97 ∷ []))) ∷ linked (fresh_peer 0) Owner document secret

-- a page that has it
abbrev pub sample_page : Peer
sample_page = peer_of_journal 1 (Coop (sample_request 1 0) ∷ [])

-- it has the host's journal, and shows the letter
abbrev pub PageSample : Type 0
PageSample = (document secret : List ℕ)
    → IsPast (written document secret)
    × IsSound (host_peer (written document secret))
    × HasJournal sample_page (host_peer (written document secret))
    × (text sample_page ≡ (97 ∷ []) ∷ [])
