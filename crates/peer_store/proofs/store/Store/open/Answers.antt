use Rattle.std.proofs.Common.{List, [], false, length, refl, sym, subst}
use Rattle.peer_disk.specs.Records.{bytes_of_each}
use Rattle.peer_step.specs.declared.step.Step.{Step}
use Rattle.peer_store.specs.Store.{Saved, IsSaved, HasGate}
use Rattle.peer_store.proofs.Opening.{saved_again, has_gate, closed_loads}
use Rattle.peer_store.proofs.store.Store.open.Goals as goal

pub returns-clause-saved : goal.returns-clause-saved
returns-clause-saved g c told =
    let saved : Saved = record { peer = c.in_ok-peer.field-0.peer; place = c.in_ok-peer.field-0.place; spent = false; unsaved = []; safe = length c.in_ok-peer.field-0.peer.journal } in
    subst (λ (s : Saved). (steps : List Step) × IsSaved c.args.site steps s (g.D.Disk.seen c.load.new.disk) (g.D.Disk.may_leave c.load.new.disk)) (sym c.store_over.ensures)
    (saved_again c.args.site (bytes_of_each c.in_ok-loaded.loaded.bodies.items) (g.D.Disk.seen c.args.disk.now) (g.D.Disk.seen c.load.new.disk) (g.D.Disk.may_leave c.load.new.disk) saved told
    (closed_loads c.args.site c.in_ok-loaded.loaded (g.D.Disk.seen c.args.disk.now) c.in_ok-peer.ensures.closed c.in_ok-loaded.ensures.bodies)
    c.in_ok-loaded.ensures.seen c.in_ok-loaded.ensures.durable c.in_ok-peer.ensures.replay c.in_ok-peer.ensures.place refl refl)

pub returns-clause-gate : goal.returns-clause-gate
returns-clause-gate g c =
    let saved : Saved = record { peer = c.in_ok-peer.field-0.peer; place = c.in_ok-peer.field-0.place; spent = false; unsaved = []; safe = length c.in_ok-peer.field-0.peer.journal } in
    subst (λ (s : Saved). HasGate s (g.D.Disk.seen c.load.new.disk)) (sym c.store_over.ensures)
    (has_gate c.args.site (bytes_of_each c.in_ok-loaded.loaded.bodies.items) (g.D.Disk.seen c.args.disk.now) (g.D.Disk.seen c.load.new.disk) saved
    (closed_loads c.args.site c.in_ok-loaded.loaded (g.D.Disk.seen c.args.disk.now) c.in_ok-peer.ensures.closed c.in_ok-loaded.ensures.bodies)
    c.in_ok-loaded.ensures.seen c.in_ok-peer.ensures.place)
