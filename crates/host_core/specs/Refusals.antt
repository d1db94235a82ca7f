-- When a host refuses, by what has happened.
use Rattle.std.specs.Prelude.{ℕ, ◌+◌, Bool, true, false, not, ◌&&◌, ◌==◌, nat_lt, nat_le, List, [], ◌∷◌, length, is_none, Option, Some, option_map, bytes_eq}
use Rattle.std.specs.Option.{option_map_or}
use Rattle.sha2.specs.Sha256.{sha256}
use Rattle.element_name.specs.Cases.{when, first_of}
use Rattle.coop_request.specs.Request.{Request}
use Rattle.edit_message.specs.declared.message.Message.TheVariants.{Coop, Admin}
use Rattle.peer_step.specs.declared.step.Step.{Step}
use Rattle.peer_step.specs.declared.step.Step.TheVariants.{Edit, Administer, Receive, Settle, ValidateNext}
use Rattle.peer_tables.specs.Derived.{greatest_stamp}
use Rattle.peer_core.specs.Peer.{Peer, history, missing}
use Rattle.host_core.specs.declared.event.Role.{Role}
use Rattle.host_core.specs.declared.event.Role.TheVariants.{Owner, Writer, Reader}
use Rattle.host_core.specs.declared.event.Device.{Device}
use Rattle.host_core.specs.declared.event.Hello.{Hello}
use Rattle.host_core.specs.declared.event.LinkId.{LinkId}
use Rattle.host_core.specs.declared.event.OpenLink.{OpenLink}
use Rattle.host_core.specs.declared.event.HostEvent.{HostEvent}
use Rattle.host_core.specs.declared.refusal.Refusal.{Refusal}
use Rattle.host_core.specs.declared.refusal.Refusal.TheVariants.{OtherDocument, WrongSecret, AheadOfHost, NoLink, ReadsAlone, ForgedSite, EntryOffered, NotAllowed, StampAhead, Misses, DeniedTooOften, OwnersReserve, NoPerson, NumbersUsedUp}
use Rattle.host_core.specs.declared.limits.TheConstants.{MAX_PEOPLE, MAX_SITES, MAX_OPENED, LINK_REQUESTS, MAX_DENIED}
use Rattle.host_core.specs.Past.{document_of, host_peer, saved_journal, people_made, devices_made, device_of, links_opened, open_link, denied_of}

-- ---- roles and steps

abbrev pub is_owner : Role → Bool
is_owner Owner = true
is_owner Writer = false
is_owner Reader = false

abbrev pub reads_alone : Role → Bool
reads_alone Owner = false
reads_alone Writer = false
reads_alone Reader = true

-- what an owner may ask for: an edit of the host's own, a change of its policy, a confirmation
abbrev pub is_order : Step → Bool
is_order (Edit edit) = true
is_order (Administer op) = true
is_order ValidateNext = true
is_order step = false

-- what the host does by itself: an order, or the settling of what was held when it began
abbrev pub is_own : Step → Bool
is_own Settle = true
is_own step = is_order step

-- ---- people

-- why no person is made
abbrev pub person_refusal : List HostEvent → Option Refusal
person_refusal es = when (nat_le MAX_PEOPLE (people_made es)) NumbersUsedUp

-- why no device of a person is made, the first of these
abbrev pub device_refusal : List HostEvent → ℕ → Option Refusal
device_refusal es person = first_of (
    when (nat_le (people_made es) person) NoPerson
    ∷ when (nat_le MAX_SITES (devices_made es)) NumbersUsedUp
    ∷ [])

-- ---- a hello

-- the secret is that of the device, by its digest
abbrev pub has_secret : List ℕ → Device → Bool
has_secret secret d = bytes_eq d.digest (sha256 secret)

-- why no link is opened, the first of these
abbrev pub hello_refusal : List HostEvent → Hello → Option Refusal
hello_refusal es hello = first_of (
    when (not (bytes_eq (document_of es) hello.document)) OtherDocument
    ∷ when (not (option_map_or (has_secret hello.secret) (device_of hello.site es) false)) WrongSecret
    ∷ when (nat_lt (length (saved_journal es)) hello.from) AheadOfHost
    ∷ when (nat_le MAX_OPENED (links_opened es)) NumbersUsedUp
    ∷ [])

-- ---- a step that a link asks for

-- why a peer's host keeps a request out, so many of whose site were denied: it may not stop the others
abbrev pub rows_of_door : Peer → ℕ → Request → List (Option Refusal)
rows_of_door p denied q =
    when (nat_lt (greatest_stamp (history p) + 1) q.id.stamp) StampAhead
    ∷ option_map Misses (missing p (Coop q))
    ∷ when (nat_le MAX_DENIED denied) DeniedTooOften
    ∷ when (nat_le LINK_REQUESTS (length (history p))) OwnersReserve
    ∷ []

-- why a request isn't taken from the open link of a site
abbrev pub rows_of_request : List HostEvent → ℕ → OpenLink → Request → List (Option Refusal)
rows_of_request es u x q =
    when (reads_alone x.role) ReadsAlone
    ∷ when (not (q.id.site == u)) ForgedSite
    ∷ rows_of_door (host_peer es) (denied_of u es) q

-- the first of these
abbrev pub request_refusal : List HostEvent → ℕ → OpenLink → Request → Option Refusal
request_refusal es u x q = first_of (rows_of_request es u x q)

-- why an order isn't made for it
abbrev pub order_refusal : OpenLink → Step → Option Refusal
order_refusal x step = when (not (is_owner x.role && is_order step)) NotAllowed

-- why a step isn't made for it
abbrev pub refusal_by : List HostEvent → ℕ → OpenLink → Step → Option Refusal
refusal_by es u x (Receive (Coop q)) = request_refusal es u x q
refusal_by es u x (Receive (Admin e)) = Some EntryOffered
refusal_by es u x step = order_refusal x step

-- why a step isn't made for a link
abbrev pub ask_refusal : List HostEvent → LinkId → Step → Option Refusal
ask_refusal es l step = option_map_or (λ x. refusal_by es l.site x step) (open_link es l) (Some NoLink)

-- why a link is given nothing
abbrev pub no_link : List HostEvent → LinkId → Option Refusal
no_link es l = when (is_none (open_link es l)) NoLink

-- ---- a step of the host's own

abbrev pub own_refusal : Step → Option Refusal
own_refusal step = when (not (is_own step)) NotAllowed
