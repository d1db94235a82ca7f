use Rattle.std.proofs.Common.{◌≡◌, true, take}
use Rattle.host_seal.proofs.Faults.{has_digest, begins_sealed, enough}
use Rattle.host_seal.proofs.sealer.Sealer.behind.Goals as goal

pub returns-then-has_digest-clause-sealed : goal.returns-then-has_digest-clause-sealed
returns-then-has_digest-clause-sealed c =
    let found : has_digest c.args.seal.now (take c.args.seal.now.items c.args.peer.now.journal) ≡ true =
    cc (c.in_ok-follow.ensures.all, c.has_digest.ensures, c.if-has_digest.true) in
    begins_sealed c.args.seal.now (take c.args.items c.args.peer.now.journal)
    (enough c.args.seal.now c.args.peer.now.journal c.args.items true c.requires c.if-items-seal.false found)
