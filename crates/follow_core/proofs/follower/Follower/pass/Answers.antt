use Rattle.std.proofs.Common.{sym, subst, ◌∙◌, ℕ, ◌<◌}
use Rattle.host_core.proofs.Truncated.{follows}
use Rattle.follow_core.proofs.Kept.{same_peer}
use Rattle.host_core.proofs.Saving.{not_there}
use Rattle.follow_core.specs.Past.{follow_peer, follow_saved}
use Rattle.follow_core.proofs.Saving.{beginning}
use Rattle.follow_core.proofs.follower.Follower.pass.Goals as goal

pub unreachable-requires : goal.unreachable-requires
unreachable-requires g c =
    not_there (follow_saved c.args.self.now.outbox) c.peer.result.now (follow_peer c.args.self.now.outbox) c.in-Some.known.mark
    (beginning c.args.self.now.outbox c.saved.ensures.past)
    (c.peer.ensures ∙ same_peer _ c.args.self.now.outbox c.args.self.now.peer_is)
    (subst (λ (n : ℕ). c.in-Some.known.mark < n) c.saved.ensures.count c.if-known-saved.false) (sym c.journal.ensures ∙ c.in_default-journal.is)

pub returns-clause-kept : goal.returns-clause-kept
returns-clause-kept g c = follows (λ k. (_, k, c.passed.ensures.among)) c.args.self.now.kept
