use Rattle.std.proofs.Common.{List, ap, ◌∙◌}
use Rattle.std.specs.Prelude.{is_some}
use Rattle.edit_message.specs.declared.message.Message.{Message}
use Rattle.edit_message.specs.Message.{key_of, key_eq, find_key}
use Rattle.peer_tables.proofs.JournalLemmas.{found_somewhere}
use Rattle.peer_tables.proofs.journal.Journal.has.Goals as goal

pub returns : goal.returns
returns c =
    c.is_some.ensures ∙ ap is_some c.number.ensures ∙ found_somewhere (λ m. key_eq (key_of m) c.args.key) c.self.inside.items
    ∙ ap (λ (J : List Message). is_some (find_key c.args.key J)) c.self.view_is
