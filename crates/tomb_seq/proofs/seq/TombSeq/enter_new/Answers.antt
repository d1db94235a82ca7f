use Rattle.std.proofs.Common.{◌∙◌, ap, sym, subst, List, false}
use Rattle.std.proofs.lemmas.Result.{on_ok_weaker}
use Rattle.element_name.specs.Name.{Name}
use Rattle.tomb_seq.specs.Order.{KeepsOrder}
use Rattle.tomb_seq.specs.declared.slot.Slot.{Slot}
use Rattle.tomb_seq.specs.Runs.{slots_of}
use Rattle.tomb_seq.specs.Slots.{names_in, marked_names, with_new}
use Rattle.tomb_seq.proofs.SlotLemmas.{insert_names}
use Rattle.tomb_seq.proofs.SlotEdits.{shown_insert}
use Rattle.tomb_seq.proofs.Theorems.{fresh_order}
use Rattle.tomb_seq.proofs.seq.TombSeq.enter_new.Goals as goal

pub returns-clause-names : goal.returns-clause-names
returns-clause-names c =
    let same = ap slots_of c.seek.ensures ∙ c.self.view_is in
    on_ok_weaker c.put.result
    (λ slots. ap names_in slots ∙ ap (λ (before : List Slot). names_in (with_new before c.args.name c.args.after)) same
    ∙ insert_names c.args.self.now _ (record { name = c.args.name; shows = false }))
    c.put.ensures.slots

pub returns-clause-shown : goal.returns-clause-shown
returns-clause-shown c =
    let same = ap slots_of c.seek.ensures ∙ c.self.view_is in
    on_ok_weaker c.put.result
    (λ slots. ap marked_names slots ∙ ap (λ (before : List Slot). marked_names (with_new before c.args.name c.args.after)) same
    ∙ shown_insert c.args.self.now _ c.args.name)
    c.put.ensures.slots

pub returns-clause-order : goal.returns-clause-order
returns-clause-order c =
    on_ok_weaker c.put.result
    (λ names. subst (λ (after : List Name). KeepsOrder (names_in c.args.self.now) after c.args.name c.args.after) (sym names)
    (fresh_order (names_in c.args.self.now) c.args.name c.args.after))
    (returns-clause-names c)
