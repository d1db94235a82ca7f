use Rattle.std.proofs.Common.{List, sym, ap, ◌∙◌}
use Rattle.std.specs.Prelude.{slice_get}
use Rattle.edit_message.specs.declared.message.Key.{Key}
use Rattle.edit_message.specs.declared.message.Message.{Message}
use Rattle.peer_tables.proofs.ItemLemmas.{found_again, read_message}
use Rattle.peer_tables.proofs.journal.Journal.item.Goals as goal

pub returns : goal.returns
returns c =
    let key : Key = c.in_ok-key.field-0 in
    c.item_of.ensures ∙ read_message c.self.inside.items _ _ _ _ _ c.self.invariant key
    ∙ found_again c.self.inside.items c.args.i key c.self.invariant.journal (sym c.in_ok-key.ensures)
    ∙ ap (λ (J : List Message). slice_get J c.args.i) c.self.view_is
