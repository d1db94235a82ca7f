use Rattle.std.proofs.Common.{sym, ◌∙◌, ap}
use Rattle.peer_disk.specs.declared.mem_disk.DiskCall.TheVariants.{Synced}
use Rattle.peer_disk.specs.History.{bytes_after_all}
use Rattle.peer_disk.proofs.Histories.{bytes_after_all-push}
use Rattle.peer_disk.proofs.mem_disk.MemDisk.settle.Goals as goal

pub invariant_of-self-2 : goal.invariant_of-self-2
invariant_of-self-2 c =
    let w = c.self.inside in
    c.self.invariant ∙ sym (bytes_after_all-push w.first.items w.history.items Synced) ∙ ap (bytes_after_all w.first.items) (sym c.in_ok-push.ensures.items)
