-- Small lives of a host, for any document and secret: on them the premises of the laws hold, so that they speak of something.
use Rattle.std.specs.Prelude.{ℕ, List, [], ◌∷◌, ◌++◌}
use Rattle.sha2.specs.Sha256.{sha256}
use Rattle.peer_core.specs.Restore.{peer_of_journal}
use Rattle.host_core.specs.declared.event.Role.TheVariants.{Writer}
use Rattle.host_core.specs.declared.event.HostEvent.{HostEvent}
use Rattle.host_core.specs.declared.event.HostEvent.TheVariants.{Began, PersonMade, DeviceMade, DeviceClosed, LinkOpened, Saved, Gave}
use Rattle.host_core.specs.Samples.{sample_device, sample_hello, link_at, sample_message, offered}
use Rattle.host_people.specs.declared.change.Change.TheVariants.{Joined, Left}
use Rattle.host_lives.specs.Lives.{LifeEvent, PeopleChanged, AtDocument, CloseTold, LifeEnded, MayLeave, AreLives}

-- these events happened at the document's host, behind others
abbrev pub at_document : List HostEvent → List LifeEvent → List LifeEvent
at_document [] ls = ls
at_document (e ∷ es) ls = AtDocument e ∷ at_document es ls

-- a device with this site and this secret was made
abbrev pub device_joined : List ℕ → ℕ → LifeEvent
device_joined secret u = PeopleChanged (Joined u 0 (sha256 secret))

-- ---- authentic

-- a device is made, and a request comes on its link
abbrev pub before_save : List ℕ → List ℕ → List LifeEvent
before_save document secret = at_document (offered document secret) (device_joined secret 1 ∷ [])

-- and is saved
abbrev pub first_life : List ℕ → List ℕ → List LifeEvent
first_life document secret = AtDocument Saved ∷ before_save document secret

-- before it is saved a crash may leave it or not, and afterwards it leaves it
abbrev pub KnownDeviceSample : Type 0
KnownDeviceSample = (document secret : List ℕ)
    → AreLives [] (first_life document secret)
    × MayLeave [] (before_save document secret) []
    × MayLeave [] (before_save document secret) (sample_message ∷ [])
    × MayLeave [] (first_life document secret) (sample_message ∷ [])

-- ---- closed is closed

-- the device is closed
abbrev pub before_told : List ℕ → List ℕ → List LifeEvent
before_told document secret = AtDocument (DeviceClosed 1) ∷ PeopleChanged (Left 1) ∷ first_life document secret

-- the host ends, and in the next life another device's link is given the request
abbrev pub second_life : List ℕ → List ℕ → List LifeEvent
second_life document secret = at_document (
    Gave (link_at 2 0) sample_message
    ∷ LinkOpened (sample_hello document secret 2)
    ∷ DeviceMade 2 (sample_device Writer secret)
    ∷ DeviceClosed 1
    ∷ DeviceMade 1 (sample_device Writer secret)
    ∷ PersonMade 0
    ∷ Began (peer_of_journal 0 (sample_message ∷ [])) document
    ∷ []) (device_joined secret 2 ∷ LifeEnded (sample_message ∷ []) ∷ [])

-- that it is closed is told in between
abbrev pub ClosedForGoodSample : Type 0
ClosedForGoodSample = (document secret : List ℕ) → AreLives [] (second_life document secret ++ CloseTold 1 ∷ before_told document secret)
