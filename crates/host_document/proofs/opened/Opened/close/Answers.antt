use Rattle.std.proofs.Common.{List, refl}
use Rattle.host_core.specs.declared.event.HostEvent.{HostEvent}
use Rattle.host_core.specs.declared.event.HostEvent.TheVariants.{LinkClosed}
use Rattle.host_core.specs.declared.refusal.Refusal.TheVariants.{NoLink}
use Rattle.host_core.specs.Past.{open_link}
use Rattle.host_document.proofs.Closing.{closed_link, left_closed}
use Rattle.host_document.proofs.opened.Opened.close.Goals as goal

pub returns : goal.returns
returns c =
    let old = c.self.inside.host.register in
    let left = left_closed (λ (es : List HostEvent). open_link es c.args.link) c.close.result NoLink (LinkClosed c.args.link) old c.close.new.self.register
    (closed_link old c.args.link) refl refl c.close.ensures.closed c.close.ensures.refused c.close.ensures.unchanged in
    record { closed = left.0; saved = cc (left.1, c.self.view_is); peer = cc (left.2, c.self.view_is) }
