-- What closing a link or a device leaves, whether the host refuses or not.
use Rattle.std.proofs.Common.{◌≡◌, ℕ, List, ◌∷◌, Option, None, Ok, Err, refl}
use Rattle.std.specs.Prelude.{OnOk, OnErr, IfErr}
use Rattle.std.specs.declared.result.Result.{Result}
use Rattle.host_core.specs.declared.event.LinkId.{LinkId}
use Rattle.host_core.specs.declared.event.HostEvent.{HostEvent}
use Rattle.host_core.specs.declared.event.HostEvent.TheVariants.{LinkClosed, DeviceClosed}
use Rattle.host_core.specs.declared.refusal.Refusal.{Refusal}
use Rattle.host_core.specs.Past.{host_peer, saved_journal, open_link, device_of}
use Rattle.host_core.proofs.Closing.{same_test}

-- a link that was closed isn't open
pub closed_link : (past : List HostEvent) (link : LinkId) → open_link (LinkClosed link ∷ past) link ≡ None
closed_link past link = rw (same_test link.site)

-- a device that was closed is none
pub closed_device : (past : List HostEvent) (site : ℕ) → device_of site (DeviceClosed site ∷ past) ≡ None
closed_device past site = rw (same_test site)

-- what an event closes is none behind it, and was none before if the host refused it for that; what is saved and the peer stay
pub left_closed : {A : Type 0} (found : List HostEvent → Option A) (result : Result (Unit {0}) Refusal) (why : Refusal) (event : HostEvent) (old new : List HostEvent)
    → found (event ∷ old) ≡ None → saved_journal (event ∷ old) ≡ saved_journal old → host_peer (event ∷ old) ≡ host_peer old → OnOk result (new ≡ event ∷ old)
    → IfErr result (λ refusal. (refusal ≡ why) × (found old ≡ None)) → OnErr result (new ≡ old)
    → (found new ≡ None) × (saved_journal new ≡ saved_journal old) × (host_peer new ≡ host_peer old)
left_closed found (Ok done) why event old new closed saved peer happened refused unchanged = rw happened (closed, saved, peer)
left_closed found (Err refusal) why event old new closed saved peer happened refused unchanged = rw unchanged (refused.1, refl, refl)
