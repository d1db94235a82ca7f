use Rattle.std.proofs.Common.{List, ap, ◌∙◌}
use Rattle.edit_message.specs.declared.message.Message.{Message}
use Rattle.edit_message.specs.declared.message.Message.TheVariants.{Coop}
use Rattle.peer_tables.specs.Derived.{missing_in}
use Rattle.peer_tables.proofs.KeptLemmas.Joined.{missing_kept}
use Rattle.peer_tables.proofs.journal.Journal.missing_request.Goals as goal

pub returns : goal.returns
returns c =
    c.missed_by_request.ensures ∙ missing_kept c.self.inside.items _ _ _ _ _ c.self.invariant c.len.result (Coop c.args.request.now) c.len.ensures.count
    ∙ ap (λ (J : List Message). missing_in J (Coop c.args.request.now)) c.self.view_is
