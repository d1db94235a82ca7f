use Rattle.std.proofs.Common.{sym, ◌∙◌}
use Rattle.peer_core.proofs.RestoreLemmas.{next_follows, next_room, next_refused}
use Rattle.peer_core.proofs.peer.restoring.take_next.Goals as goal

pub returns-then-not-may_be_next-clause-refused : goal.returns-then-not-may_be_next-clause-refused
returns-then-not-may_be_next-clause-refused c = λ _ within.
    next_refused c.args.journal.now c.args.message.now (sym c.may_be_next.ensures.test ∙ c.if-not-may_be_next.true) within

pub push-requires-clause-follows : goal.push-requires-clause-follows
push-requires-clause-follows c =
    next_follows c.args.journal.now c.args.message.now c.may_be_next.ensures.formed (sym c.may_be_next.ensures.test ∙ c.if-not-may_be_next.false)

pub push-requires-clause-room : goal.push-requires-clause-room
push-requires-clause-room c = next_room c.args.journal.now c.args.message.now (sym c.may_be_next.ensures.test ∙ c.if-not-may_be_next.false)
