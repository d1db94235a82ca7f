use Rattle.std.proofs.Common.{◌≡◌, [], ◌∷◌, ◌++◌, refl, sym, ◌∙◌, ap, rules}
use Rattle.peer_disk.specs.declared.mem_disk.DiskWrite.{DiskWrite}
use Rattle.peer_disk.specs.declared.mem_disk.DiskCall.TheVariants.{Wrote}
use Rattle.peer_disk.specs.Disk.{overwritten}
use Rattle.peer_disk.specs.History.{bytes_after_all, bytes_held}
use Rattle.peer_disk.proofs.Histories.{bytes_after_all-push}
use Rattle.peer_disk.proofs.mem_disk.MemDisk.put.Goals as goal

pub invariant_of-self-2 : goal.invariant_of-self-2
invariant_of-self-2 c =
    let w = c.self.inside in
    let write : DiskWrite = record { from = c.args.from; bytes = c.in_ok-to_vec.field-0 } in
    let first_is : c.deref.result.now ≡ w.first.items = c.deref.ensures.value in
    let changed : bytes_held w.first.items c.change.new.changed ≡ overwritten (bytes_held w.first.items w.changed) write.from write.bytes.items = rw (← first_is) c.in_ok-change.ensures.ok in
    changed
    ∙ ap (λ file. overwritten file write.from write.bytes.items) c.self.invariant
    ∙ sym (bytes_after_all-push w.first.items w.history.items (Wrote write))
    ∙ ap (bytes_after_all w.first.items) (sym (c.push_reserved.ensures.items ∙ ap (λ calls. calls ++ Wrote write ∷ []) c.reserve.ensures.items))

pub returns-clause-ok : goal.returns-clause-ok
returns-clause-ok c =
    let write : DiskWrite = record { from = c.args.from; bytes = c.in_ok-to_vec.field-0 } in
    (write, refl, search rules, search rules)
