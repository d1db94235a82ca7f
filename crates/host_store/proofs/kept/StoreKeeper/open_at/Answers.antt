use Rattle.std.proofs.Common.{Bool, List, sym, subst}
use Rattle.std.proofs.lemmas.Grind.{merely}
use Rattle.host_store.specs.Kept.{KeepsJournal, IsHeldIfTold}
use Rattle.host_store.proofs.Journals.{new_held, new_keeps}
use Rattle.host_store.proofs.kept.StoreKeeper.open_at.Goals as goal

pub invariant_of-result : goal.invariant_of-result
invariant_of-result g c = record {
  spent = c.in_ok-store.ensures.unspent;
  gate = merely c.in_ok-store.ensures.gate;
  held = merely
      (subst (λ (told : List Bool). IsHeldIfTold c.args.site told c.in_ok-store.store (g.D.Disk.seen c.open_store.new.disk) (g.D.Disk.may_leave c.open_store.new.disk)) (sym c.changed-told.ensures)
      (new_held c.args.site (g.D.Disk.seen c.args.disk) c.in_ok-store.store (g.D.Disk.seen c.open_store.new.disk) (g.D.Disk.may_leave c.open_store.new.disk) c.in_ok-store.ensures.saved));
}

pub returns-clause-kept : goal.returns-clause-kept
returns-clause-kept g c =
    subst (λ (told : List Bool). KeepsJournal c.args.site told (g.D.Disk.may_leave c.open_store.new.disk) c.in_ok-store.store.peer.journal c.in_ok-store.store.peer.journal) (sym c.changed-told.ensures)
    (new_keeps c.args.site (g.D.Disk.seen c.args.disk) c.in_ok-store.store (g.D.Disk.seen c.open_store.new.disk) (g.D.Disk.may_leave c.open_store.new.disk) c.in_ok-store.ensures.saved)
