use Rattle.std.proofs.Common.{◌≡◌, true, refl, sym, subst, ap, ◌∙◌, List}
use Rattle.element_name.specs.Name.{Name}
use Rattle.coop_request.specs.declared.edit.Edit.{Edit}
use Rattle.coop_request.specs.Edit.{is_insert}
use Rattle.coop_request.specs.LentEdit.{edit_lent}
use Rattle.tomb_seq.specs.declared.slot.Slot.{Slot}
use Rattle.tomb_seq.specs.Slots.{without_slot}
use Rattle.peer_tables.proofs.KeptLemmas.Places.{taken_back}
use Rattle.peer_tables.proofs.join.take_back.Goals as goal

pub returns-in-Insert : goal.returns-in-Insert
returns-in-Insert c = λ slots placeable is.
    let q = c.args.request.now in
    c.remove.ensures.slots
    ∙ ap (λ (n : Name). without_slot c.args.seq.now n) c.id.ensures.value
    ∙ ap (λ (now : List Slot). without_slot now q.id) is
    ∙ taken_back slots q.id q.edit placeable (subst (λ (edit : Edit). is_insert edit ≡ true) (ap edit_lent (sym c.in-Insert.is) ∙ c.edit.ensures.value) refl)
