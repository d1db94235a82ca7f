use Rattle.std.proofs.Common.{sym, subst, ◌∙◌, ℕ, ◌<◌}
use Rattle.host_core.proofs.Truncated.{follows}
use Rattle.host_core.proofs.Kept.{same_peer}
use Rattle.host_core.specs.Past.{host_peer, saved_journal}
use Rattle.host_core.proofs.Saving.{beginning, not_there}
use Rattle.host_core.proofs.host.Host.next_item.Goals as goal

pub unreachable-requires : goal.unreachable-requires
unreachable-requires g c =
    not_there (saved_journal c.args.self.now.register) c.peer.result.now (host_peer c.args.self.now.register) c.in-Some.known.mark
    (beginning c.args.self.now.register c.saved.ensures.past)
    (c.peer.ensures ∙ same_peer _ c.args.self.now.register c.args.self.now.peer_is)
    (subst (λ (n : ℕ). c.in-Some.known.mark < n) c.saved.ensures.count c.if-known-saved.false) (sym c.journal.ensures ∙ c.in_default-journal.is)

pub returns-clause-kept : goal.returns-clause-kept
returns-clause-kept g c = follows (λ k. (_, k, c.gave.ensures.among)) c.args.self.now.kept
