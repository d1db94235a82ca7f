use Rattle.std.proofs.Common.{◌≡◌, List, [], ◌∷◌, ◌++◌, subst}
use Rattle.edit_message.specs.declared.message.Message.{Message}
use Rattle.edit_message.specs.Message.{requests_of, entries_of}
use Rattle.peer_tables.specs.Derived.{undone_between}
use Rattle.peer_tables.proofs.KeptLemmas.Advanced.{is_advancing, kept_of_longer, undone_longer}
use Rattle.peer_tables.proofs.KeptLemmas.Joined.{follows_items}
use Rattle.peer_tables.proofs.journal.Journal.push_entry.Goals as goal

pub advance-requires : goal.advance-requires
advance-requires g c =
    is_advancing c.self.inside.items _ _ _ _ _ c.self.invariant c.args.entry (follows_items _ _ _ c.self.view_is c.requires)

pub invariant_of-self-in-Ok : goal.invariant_of-self-in-Ok
invariant_of-self-in-Ok g c =
    kept_of_longer c.self.inside.items _ _ _ _ _ c.self.invariant c.args.entry (follows_items _ _ _ c.self.view_is c.requires)
    _ _ _ _ c.in_ok-push_entry.ensures.ok c.in-Ok.ensures.log c.in-Ok.ensures.formed c.in-Ok.ensures.kept

pub returns-in-Ok-clause-undone : goal.returns-in-Ok-clause-undone
returns-in-Ok-clause-undone g c =
    subst (λ (J : List Message). c.in-Ok.undone.count ≡ undone_between (requests_of J) (entries_of J) (entries_of J ++ c.args.entry ∷ [])) c.self.view_is
    (undone_longer c.self.inside.items _ _ _ _ _ c.self.invariant c.args.entry (follows_items _ _ _ c.self.view_is c.requires)
    _ _ c.in-Ok.ensures.log c.in-Ok.ensures.undone)
