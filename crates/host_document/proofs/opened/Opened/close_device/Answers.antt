use Rattle.std.proofs.Common.{refl}
use Rattle.host_core.specs.declared.event.HostEvent.TheVariants.{DeviceClosed}
use Rattle.host_core.specs.declared.refusal.Refusal.TheVariants.{NoDevice}
use Rattle.host_core.specs.Past.{device_of}
use Rattle.host_document.proofs.Closing.{closed_device, left_closed}
use Rattle.host_document.proofs.opened.Opened.close_device.Goals as goal

pub returns : goal.returns
returns c =
    let old = c.self.inside.host.register in
    let left = left_closed (device_of c.args.site) c.close_device.result NoDevice (DeviceClosed c.args.site) old c.close_device.new.self.register
    (closed_device old c.args.site) refl refl c.close_device.ensures.closed c.close_device.ensures.refused c.close_device.ensures.unchanged in
    record { closed = left.0; saved = cc (left.1, c.self.view_is); peer = cc (left.2, c.self.view_is) }
