use Rattle.std.proofs.Common.{List, refl, sym, subst}
use Rattle.host_core.specs.declared.event.HostEvent.{HostEvent}
use Rattle.host_core.specs.Past.{saved_journal}
use Rattle.host_seal.specs.Seals.{IsBeginning}
use Rattle.host_interface.specs.Settled.{IsSettled}
use Rattle.host_document.proofs.Sealing.{still_begins}
use Rattle.host_document.proofs.opened.Opened.commit.Goals as goal

pub invariant_of-self : goal.invariant_of-self
invariant_of-self c = record {
  settled = λ unchanged. subst (λ (es : List HostEvent). IsSettled es) (sym c.in-Ok.ensures.saved) refl;
  sealed = subst (λ (es : List HostEvent). IsBeginning c.self.inside.sealer (saved_journal es)) (sym c.in-Ok.ensures.saved)
      (still_begins c.self.inside.sealer c.self.inside.host.register c.register.ensures.past c.self.invariant.sealed);
}
