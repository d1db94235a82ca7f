-- What may happen at a host, after what has happened.
use Rattle.std.specs.Prelude.{◌≡◌, ⊤, ◌+◌, ◌<◌, ◌≤◌, List, [], ◌∷◌, Some, None, length, slice_get, IsSome, IsTrue}
use Rattle.edit_message.specs.declared.message.Message.{Message}
use Rattle.host_core.specs.declared.event.LinkId.{LinkId}
use Rattle.host_core.specs.declared.event.OpenLink.{OpenLink}
use Rattle.host_core.specs.declared.event.HostEvent.{HostEvent}
use Rattle.host_core.specs.declared.event.HostEvent.TheVariants.{Began, PersonMade, DeviceMade, SecretChanged, DeviceClosed, LinkOpened, LinkClosed, Made, Saved, Gave, Told}
use Rattle.host_core.specs.Past.{host_peer, saved_journal, people_made, devices_made, device_of, open_link}
use Rattle.host_core.specs.Refusals.{is_own, hello_refusal, ask_refusal}

-- a link that is open is given the message at its mark, which is saved
pub record GivesItem (es : List HostEvent) (l : LinkId) (m : Message) : Type 0 where
  pub link : OpenLink
  pub open_is : open_link es l ≡ Some link
  pub next : slice_get (host_peer es).journal link.mark ≡ Some m
  pub saved : link.mark < length (saved_journal es)

-- all that the journal has is saved
abbrev pub IsAllSaved : List HostEvent → Type 0
IsAllSaved es = length (host_peer es).journal ≤ length (saved_journal es)

-- what may happen next
abbrev pub MayHappen : List HostEvent → HostEvent → Type 0
MayHappen es (Began p document) = es ≡ []
MayHappen es (PersonMade g) = g ≡ people_made es
MayHappen es (DeviceMade u d) = (u ≡ devices_made es + 1) × (d.person < people_made es)
MayHappen es (SecretChanged u digest) = IsSome (device_of u es)
MayHappen es (DeviceClosed u) = IsSome (device_of u es)
MayHappen es (LinkOpened hello) = hello_refusal es hello ≡ None
MayHappen es (LinkClosed l) = IsSome (open_link es l)
MayHappen es (Made None step) = IsTrue (is_own step)
MayHappen es (Made (Some l) step) = ask_refusal es l step ≡ None
MayHappen es Saved = ⊤
MayHappen es (Gave l m) = GivesItem es l m
MayHappen es (Told l) = IsSome (open_link es l) × IsAllSaved es

-- what has happened, each event after those before it
abbrev pub IsPast : List HostEvent → Type 0
IsPast [] = ⊤
IsPast (e ∷ es) = MayHappen es e × IsPast es
