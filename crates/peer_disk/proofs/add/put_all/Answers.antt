use Rattle.peer_disk.proofs.add.put_all.Goals as goal

pub returns-clause-any_moment : goal.returns-clause-any_moment
returns-clause-any_moment g c site bodies = c.put_behind.ensures.any_moment site bodies c.args.more.now c.behind.ensures
