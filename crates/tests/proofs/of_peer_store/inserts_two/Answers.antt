use Rattle.tests.proofs.of_peer_store.inserts_two.Goals as goal

pub returns-then-first : goal.returns-then-first
returns-then-first c = λ seen has. c.inserts-second.ensures seen (c.inserts-first.ensures seen has)

pub returns-else-first : goal.returns-else-first
returns-else-first c = λ seen has. c.inserts-second.ensures seen (c.inserts-first.ensures seen has)
