use Rattle.std.proofs.Common.{◌≡◌, List, false, sym, ap, subst, ◌∙◌}
use Rattle.edit_message.specs.declared.message.Message.{Message}
use Rattle.edit_message.specs.declared.message.Message.TheVariants.{Coop}
use Rattle.peer_tables.specs.Journal.{has_key_of}
use Rattle.peer_tables.specs.PackedKey.{is_packable}
use Rattle.peer_tables.proofs.ItemLemmas.{packable_key, new_keyed, keyed_push}
use Rattle.peer_tables.proofs.items.Items.push_request.Goals as goal

pub put-requires-clause-packable : goal.put-requires-clause-packable
put-requires-clause-packable c = ap is_packable c.of_request.ensures.value ∙ packable_key (Coop c.args.request.now) c.of_request.ensures.message

pub put-requires-clause-new : goal.put-requires-clause-new
put-requires-clause-new c =
    let m : Message = Coop c.args.request.now in
    new_keyed c.self.inside.keys.keys c.self.inside.messages.items c.self.invariant c.of_request.result m c.of_request.ensures.value c.of_request.ensures.message
    (subst (λ (J : List Message). has_key_of J m ≡ false) (sym c.self.view_is) c.requires)

pub invariant_of-self-2 : goal.invariant_of-self-2
invariant_of-self-2 c =
    keyed_push c.self.inside.keys.keys c.self.inside.messages.items c.self.invariant c.of_request.result (Coop c.args.request.now) _ _
    c.of_request.ensures.value c.of_request.ensures.message c.in_ok-put.ensures.ok c.changed-self-inside.ensures
