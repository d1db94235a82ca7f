use Rattle.std.proofs.Common.{List, sym, ap, ◌∙◌}
use Rattle.std.specs.Prelude.{position}
use Rattle.element_name.proofs.CaseLemmas.{when-Some, when-None}
use Rattle.edit_message.specs.declared.message.Key.{Key}
use Rattle.edit_message.specs.declared.message.Message.{Message}
use Rattle.edit_message.specs.Message.{key_of, key_eq}
use Rattle.peer_tables.specs.Items.{packed_eq}
use Rattle.peer_tables.specs.PackedKey.{is_packable}
use Rattle.peer_tables.proofs.ItemLemmas.{number_keyed, none_numbered}
use Rattle.peer_tables.proofs.items.Items.number.Goals as goal

pub returns-in-Some : goal.returns-in-Some
returns-in-Some c =
    let key : Key = c.args.key in
    let packed = when-Some (is_packable key) key c.in-Some.packed (sym c.of.ensures ∙ c.in-Some.is) in
    c.get_index_of.ensures.index ∙ ap (λ (k : Key). position (packed_eq k) c.self.inside.keys.keys) (sym packed.1)
    ∙ number_keyed c.self.inside.keys.keys c.self.inside.messages.items c.self.invariant key packed.0
    ∙ ap (λ (J : List Message). position (λ m. key_eq (key_of m) key) J) c.self.view_is

pub returns-in-None : goal.returns-in-None
returns-in-None c =
    let key : Key = c.args.key in
    sym (none_numbered key c.self.inside.messages.items (when-None (is_packable key) key (sym c.of.ensures ∙ c.in-None.is)) c.self.invariant.formed)
    ∙ ap (λ (J : List Message). position (λ m. key_eq (key_of m) key) J) c.self.view_is
