use Rattle.std.proofs.Common.{◌≡◌, List, length, sym, ap, subst, ◌∙◌}
use Rattle.edit_message.specs.declared.message.Message.{Message}
use Rattle.host_core.specs.declared.event.HostEvent.{HostEvent}
use Rattle.host_core.specs.Past.{saved_journal}
use Rattle.host_seal.specs.Seals.{seal_of, IsBeginning}
use Rattle.host_document.proofs.Sealing.{saved_within, saved_first}
use Rattle.host_document.proofs.opened.Opened.seal.Goals as goal

pub follow-requires-clause-within : goal.follow-requires-clause-within
follow-requires-clause-within c =
    let count = c.saved-saved.ensures.count ∙ ap (λ (es : List HostEvent). length (saved_journal es)) c.register.ensures.same in
    saved_within c.self.inside.host.register c.peer.result.now c.saved-saved.result c.register.ensures.past count c.peer.ensures.peer

pub follow-requires-clause-first : goal.follow-requires-clause-first
follow-requires-clause-first c =
    let count = c.saved-saved.ensures.count ∙ ap (λ (es : List HostEvent). length (saved_journal es)) c.register.ensures.same in
    let first = saved_first c.self.inside.host.register c.peer.result.now c.saved-saved.result c.register.ensures.past count c.peer.ensures.peer in
    subst (λ (J : List Message). IsBeginning c.self.inside.sealer J) (sym first) c.self.invariant.sealed

pub invariant_of-self : goal.invariant_of-self
invariant_of-self c =
    let count = c.saved-saved.ensures.count ∙ ap (λ (es : List HostEvent). length (saved_journal es)) c.register.ensures.same in
    let first = saved_first c.self.inside.host.register c.peer.result.now c.saved-saved.result c.register.ensures.past count c.peer.ensures.peer in
    record {
      settled = c.self.invariant.settled;
      sealed = subst (λ (J : List Message). IsBeginning c.follow.new.self J) first c.follow.ensures.part;
    }

pub invariant_of-self-2 : goal.invariant_of-self-2
invariant_of-self-2 c =
    let count = c.saved-saved.ensures.count ∙ ap (λ (es : List HostEvent). length (saved_journal es)) c.register.ensures.same in
    let first = saved_first c.self.inside.host.register c.peer.result.now c.saved-saved.result c.register.ensures.past count c.peer.ensures.peer in
    record {
      settled = c.self.invariant.settled;
      sealed = subst (λ (J : List Message). IsBeginning c.follow.new.self J) first c.follow.ensures.part;
    }

pub returns-clause-seal : goal.returns-clause-seal
returns-clause-seal c =
    let count = c.saved-saved.ensures.count ∙ ap (λ (es : List HostEvent). length (saved_journal es)) c.register.ensures.same in
    let first = saved_first c.self.inside.host.register c.peer.result.now c.saved-saved.result c.register.ensures.past count c.peer.ensures.peer in
    let same : c.self.inside.host.register ≡ c.args.self.now = cc (c.self.view_is) in
    c.seal.ensures ∙ ap (λ (J : List Message). seal_of J) (c.in_ok-follow.ensures.all ∙ first ∙ ap (λ (es : List HostEvent). saved_journal es) same)
