-- What is saved of a document, and what is taken of it for its seals.
use Rattle.std.proofs.Common.{◌≡◌, ◌⊎◌, ℕ, ◌≤◌, List, length, take, Some, sym, ap, subst, ◌∙◌, inl, inr, ⊎_elim, arith}
use Rattle.std.specs.Prelude.{Option, option_map}
use Rattle.std.proofs.Math.Seq.{take-append_seam}
use Rattle.edit_message.specs.declared.message.Message.{Message}
use Rattle.peer_core.specs.Peer.{Peer}
use Rattle.host_core.specs.declared.event.HostEvent.{HostEvent}
use Rattle.host_core.specs.Past.{host_peer, saved_journal}
use Rattle.host_core.specs.Happens.{IsPast}
use Rattle.host_core.proofs.Saving.{beginning, short_saved}
use Rattle.host_seal.specs.declared.seal.Seal.{Seal}
use Rattle.host_seal.specs.declared.seal.SealFault.{SealFault}
use Rattle.host_seal.specs.declared.seal.SealFault.TheVariants as seals
use Rattle.host_seal.specs.Seals.{seal_fault, IsBeginning}
use Rattle.host_seal.proofs.Beginnings.{goes_on}
use Rattle.host_interface.specs.declared.fault.OpenFault.{OpenFault}
use Rattle.host_interface.specs.declared.fault.OpenFault.TheVariants as opens
use Rattle.host_document.specs.Sealing.{open_fault, seal_open_fault}

-- a beginning of what is saved is one of the journal, which is saved next
pub still_begins : (taken : List Message) (past : List HostEvent) → IsPast past → IsBeginning taken (saved_journal past) → IsBeginning taken (host_peer past).journal
still_begins taken past h begins =
    let front = beginning past h in
    subst (λ (J : List Message). IsBeginning taken J) (sym front.1) (goes_on taken (saved_journal past) front.0 begins)

-- so many messages are saved, and no more than the peer has
pub saved_within : (past : List HostEvent) (p : Peer) (saved : ℕ) → IsPast past → saved ≡ length (saved_journal past) → p ≡ host_peer past → saved ≤ length p.journal
saved_within past p saved h count is =
    let short = short_saved past h in
    let size : length p.journal ≡ length (host_peer past).journal = ap (λ (q : Peer). length q.journal) is in
    omega arith

-- and they are the first of its journal
pub saved_first : (past : List HostEvent) (p : Peer) (saved : ℕ) → IsPast past → saved ≡ length (saved_journal past) → p ≡ host_peer past
    → take saved p.journal ≡ saved_journal past
saved_first past p saved h count is =
    let front = beginning past h in
    ap (λ (n : ℕ). take n p.journal) count ∙ ap (λ (q : Peer). take (length (saved_journal past)) q.journal) is
    ∙ ap (λ (J : List Message). take (length (saved_journal past)) J) front.1 ∙ take-append_seam (saved_journal past) front.0

-- why a document isn't opened is why its journal isn't taken for the one that was sealed
pub not_opened : (seal : Seal) (J : List Message) (found : ℕ) (why : SealFault) (told : OpenFault) → found ≡ length J → told ≡ open_fault found seal.items why
    → (why ≡ seals.NoMemory) ⊎ (seal_fault seal J ≡ Some why) → (told ≡ opens.NoMemory) ⊎ (seal_open_fault seal J ≡ Some told)
not_opened seal J found why told count is fault =
    ⊎_elim
    (λ (memory : why ≡ seals.NoMemory). inl (is ∙ ap (λ (w : SealFault). open_fault found seal.items w) memory))
    (λ (faulty : seal_fault seal J ≡ Some why).
    inr (ap (λ (f : Option SealFault). option_map (λ (w : SealFault). open_fault (length J) seal.items w) f) faulty
    ∙ ap (λ (n : ℕ). Some (open_fault n seal.items why)) (sym count) ∙ ap (λ (t : OpenFault). Some t) (sym is)))
    fault
