use Rattle.std.proofs.Common.{◌≡◌, List, false, sym, ap, subst, ◌∙◌}
use Rattle.edit_message.specs.declared.message.Key.TheVariants as keys
use Rattle.edit_message.specs.declared.message.Message.{Message}
use Rattle.edit_message.specs.declared.message.Message.TheVariants.{Admin}
use Rattle.peer_tables.specs.Journal.{has_key_of}
use Rattle.peer_tables.specs.PackedKey.{is_packable}
use Rattle.peer_tables.proofs.ItemLemmas.{packable_key, new_keyed, keyed_push}
use Rattle.peer_tables.proofs.items.Items.push_entry.Goals as goal

pub put-requires-clause-packable : goal.put-requires-clause-packable
put-requires-clause-packable c = ap (λ v. is_packable (keys.Admin v)) c.version.ensures.value ∙ packable_key (Admin c.args.entry.now) c.version.ensures.entry

pub put-requires-clause-new : goal.put-requires-clause-new
put-requires-clause-new c =
    let m : Message = Admin c.args.entry.now in
    new_keyed c.self.inside.keys.keys c.self.inside.messages.items c.self.invariant (keys.Admin c.version.result) m (ap keys.Admin c.version.ensures.value) c.version.ensures.entry
    (subst (λ (J : List Message). has_key_of J m ≡ false) (sym c.self.view_is) c.requires)

pub invariant_of-self-2 : goal.invariant_of-self-2
invariant_of-self-2 c =
    keyed_push c.self.inside.keys.keys c.self.inside.messages.items c.self.invariant (keys.Admin c.version.result) (Admin c.args.entry.now) _ _
    (ap keys.Admin c.version.ensures.value) c.version.ensures.entry c.in_ok-put.ensures.ok c.changed-self-inside.ensures
