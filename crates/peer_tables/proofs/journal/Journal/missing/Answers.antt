use Rattle.std.proofs.Common.{List, ap, ◌∙◌}
use Rattle.edit_message.specs.declared.message.Message.{Message}
use Rattle.peer_tables.specs.Derived.{missing_in}
use Rattle.peer_tables.proofs.KeptLemmas.Joined.{missing_kept}
use Rattle.peer_tables.proofs.journal.Journal.missing.Goals as goal

pub returns : goal.returns
returns c =
    c.missing.ensures ∙ missing_kept c.self.inside.items _ _ _ _ _ c.self.invariant c.len.result c.args.message.now c.len.ensures.count
    ∙ ap (λ (J : List Message). missing_in J c.args.message.now) c.self.view_is
