-- What follows from what has happened at a host, the newest first.
use Rattle.std.specs.Prelude.{ℕ, ◌+◌, Bool, true, false, ◌&&◌, ◌==◌, List, [], ◌∷◌, ◌++◌, Option, Some, None, option_map, option_and_then, if◌then◌else◌}
use Rattle.element_name.specs.Cases.{when}
use Rattle.edit_message.specs.declared.message.Message.{Message}
use Rattle.request_state.specs.State.{is_invalid}
use Rattle.peer_step.specs.declared.step.Step.{Step}
use Rattle.peer_step.specs.declared.step.Step.TheVariants.{Receive}
use Rattle.peer_step.specs.declared.answer.Answer.{Answer}
use Rattle.peer_step.specs.declared.answer.Answer.TheVariants.{Taken}
use Rattle.peer_core.specs.Peer.{Peer, fresh_peer}
use Rattle.peer_core.specs.Answers.{answer_of}
use Rattle.peer_core.specs.After.{peer_after}
use Rattle.host_core.specs.declared.event.Device.{Device}
use Rattle.host_core.specs.declared.event.Hello.{Hello}
use Rattle.host_core.specs.declared.event.LinkId.{LinkId}
use Rattle.host_core.specs.declared.event.OpenLink.{OpenLink}
use Rattle.host_core.specs.declared.event.HostEvent.{HostEvent}
use Rattle.host_core.specs.declared.event.HostEvent.TheVariants.{Began, PersonMade, DeviceMade, SecretChanged, DeviceClosed, LinkOpened, LinkClosed, Made, Saved, Gave}

-- ---- the document

-- the peer that the host began with
abbrev pub first_peer : List HostEvent → Peer
first_peer [] = fresh_peer 0
first_peer (Began p document ∷ es) = p
first_peer (e ∷ es) = first_peer es

-- the document that it began with
abbrev pub document_of : List HostEvent → List ℕ
document_of [] = []
document_of (Began p document ∷ es) = document
document_of (e ∷ es) = document_of es

-- its peer now: the first one, after all steps that were made
abbrev pub host_peer : List HostEvent → Peer
host_peer [] = fresh_peer 0
host_peer (Began p document ∷ es) = p
host_peer (Made by step ∷ es) = peer_after (host_peer es) step
host_peer (e ∷ es) = host_peer es

-- the journal when all was saved the last time
abbrev pub saved_journal : List HostEvent → List Message
saved_journal [] = []
saved_journal (Began p document ∷ es) = p.journal
saved_journal (Saved ∷ es) = (host_peer es).journal
saved_journal (e ∷ es) = saved_journal es

-- ---- people and devices

-- how many persons were made; each has as its number how many were made before
abbrev pub people_made : List HostEvent → ℕ
people_made [] = 0
people_made (PersonMade g ∷ es) = people_made es + 1
people_made (e ∷ es) = people_made es

-- how many devices were made; the first has site 1, and each the next
abbrev pub devices_made : List HostEvent → ℕ
devices_made [] = 0
devices_made (DeviceMade u d ∷ es) = devices_made es + 1
devices_made (e ∷ es) = devices_made es

-- a device with another secret
abbrev pub with_digest : List ℕ → Device → Device
with_digest new d = record d { digest = new }

-- the device of a site, until it is closed
abbrev pub device_of : ℕ → List HostEvent → Option Device
device_of u [] = None
device_of u (DeviceMade v d ∷ es) = if v == u then Some d else device_of u es
device_of u (SecretChanged v digest ∷ es) = if v == u then option_map (with_digest digest) (device_of u es) else device_of u es
device_of u (DeviceClosed v ∷ es) = if v == u then None else device_of u es
device_of u (e ∷ es) = device_of u es

-- ---- links

-- how many links were opened; each has as its number how many were opened before
abbrev pub links_opened : List HostEvent → ℕ
links_opened [] = 0
links_opened (LinkOpened hello ∷ es) = links_opened es + 1
links_opened (e ∷ es) = links_opened es

-- a link that a device opens by a hello
abbrev pub link_by : ℕ → Hello → Device → OpenLink
link_by number hello d = record { number = number; role = d.role; from = hello.from; mark = hello.from }

-- a link that was given one more message
abbrev pub moved_on : OpenLink → OpenLink
moved_on x = record x { mark = x.mark + 1 }

-- the open link of a site: the newest, until it, its device or its secret is closed
abbrev pub link_of : ℕ → List HostEvent → Option OpenLink
link_of u [] = None
link_of u (SecretChanged v digest ∷ es) = if v == u then None else link_of u es
link_of u (DeviceClosed v ∷ es) = if v == u then None else link_of u es
link_of u (LinkOpened hello ∷ es) = if hello.site == u then option_map (link_by (links_opened es) hello) (device_of u es) else link_of u es
link_of u (LinkClosed l ∷ es) = if l.site == u then None else link_of u es
link_of u (Gave l m ∷ es) = if l.site == u then option_map moved_on (link_of u es) else link_of u es
link_of u (e ∷ es) = link_of u es

-- a link, while it is open
abbrev pub open_link : List HostEvent → LinkId → Option OpenLink
open_link es l = option_and_then (λ x. when (x.number == l.number) x) (link_of l.site es)

-- what the newest link of a site was given, in order
abbrev pub given_to : ℕ → List HostEvent → List Message
given_to u [] = []
given_to u (LinkOpened hello ∷ es) = if hello.site == u then [] else given_to u es
given_to u (Gave l m ∷ es) = if l.site == u then given_to u es ++ m ∷ [] else given_to u es
given_to u (e ∷ es) = given_to u es

-- ---- what was denied

-- a message is offered
abbrev pub is_offer : Step → Bool
is_offer (Receive m) = true
is_offer step = false

-- a request joined the history as Invalid
abbrev pub is_denial : Answer → Bool
is_denial (Taken state) = is_invalid state
is_denial answer = false

-- a site's count after a step, which was denied to a link or not
abbrev pub count_after : Option LinkId → Bool → ℕ → ℕ → ℕ
count_after None denied u count = count
count_after (Some l) denied u count = if l.site == u && denied then count + 1 else count

-- how many requests that a site's links offered were denied as they came
abbrev pub denied_of : ℕ → List HostEvent → ℕ
denied_of u [] = 0
denied_of u (Made by step ∷ es) = count_after by (is_offer step && is_denial (answer_of (host_peer es) step)) u (denied_of u es)
denied_of u (e ∷ es) = denied_of u es
