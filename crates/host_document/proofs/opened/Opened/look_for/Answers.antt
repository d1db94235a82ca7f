use Rattle.std.proofs.Common.{◌≡◌, ◌⊎◌, List, length, Some, sym, ap, subst, ◌∙◌}
use Rattle.edit_message.specs.declared.message.Message.{Message}
use Rattle.host_core.specs.declared.event.HostEvent.{HostEvent}
use Rattle.host_core.specs.Past.{saved_journal}
use Rattle.host_seal.specs.declared.seal.SealFault.TheVariants as seals
use Rattle.host_seal.specs.Seals.{seal_fault, IsBeginning, IsSealed}
use Rattle.host_document.proofs.Sealing.{saved_within, saved_first, not_opened}
use Rattle.host_document.proofs.opened.Opened.look_for.Goals as goal

pub behind-requires : goal.behind-requires
behind-requires c =
    let count = c.saved-saved.ensures.count ∙ ap (λ (es : List HostEvent). length (saved_journal es)) c.register.ensures.same in
    saved_within c.self.inside.host.register c.peer.result.now c.saved-saved.result c.register.ensures.past count c.peer.ensures.peer

pub invariant_of-self : goal.invariant_of-self
invariant_of-self c =
    let count = c.saved-saved.ensures.count ∙ ap (λ (es : List HostEvent). length (saved_journal es)) c.register.ensures.same in
    let first = saved_first c.self.inside.host.register c.peer.result.now c.saved-saved.result c.register.ensures.past count c.peer.ensures.peer in
    let put : c.replace.new.dest ≡ c.in-Ok.sealer = cc (c.replace.ensures.after) in
    record {
      settled = c.self.invariant.settled;
      sealed = subst (λ (taken : List Message). IsBeginning taken (saved_journal c.self.inside.host.register)) (sym put)
          (subst (λ (J : List Message). IsBeginning c.in-Ok.sealer J) first c.in-Ok.ensures.taken);
    }

pub returns-in-Ok-clause-sealed : goal.returns-in-Ok-clause-sealed
returns-in-Ok-clause-sealed c =
    let count = c.saved-saved.ensures.count ∙ ap (λ (es : List HostEvent). length (saved_journal es)) c.register.ensures.same in
    let first = saved_first c.self.inside.host.register c.peer.result.now c.saved-saved.result c.register.ensures.past count c.peer.ensures.peer in
    let same : c.self.inside.host.register ≡ c.args.self.now = cc (c.self.view_is) in
    subst (λ (J : List Message). IsSealed c.args.seal.now J) (first ∙ ap (λ (es : List HostEvent). saved_journal es) same) c.in-Ok.ensures.sealed

pub returns-in-Err-clause-fault : goal.returns-in-Err-clause-fault
returns-in-Err-clause-fault c =
    let count = c.saved-saved.ensures.count ∙ ap (λ (es : List HostEvent). length (saved_journal es)) c.register.ensures.same in
    let first = saved_first c.self.inside.host.register c.peer.result.now c.saved-saved.result c.register.ensures.past count c.peer.ensures.peer in
    let same : c.self.inside.host.register ≡ c.args.self.now = cc (c.self.view_is) in
    not_opened c.args.seal.now (saved_journal c.args.self.now) c.saved-saved.result c.in-Err.fault c.open_fault.result
    (count ∙ ap (λ (es : List HostEvent). length (saved_journal es)) same) c.open_fault.ensures
    (subst (λ (J : List Message). (c.in-Err.fault ≡ seals.NoMemory) ⊎ (seal_fault c.args.seal.now J ≡ Some c.in-Err.fault))
    (first ∙ ap (λ (es : List HostEvent). saved_journal es) same) c.in-Err.ensures.fault)
