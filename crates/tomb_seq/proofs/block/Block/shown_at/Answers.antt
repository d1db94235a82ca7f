use Rattle.std.proofs.Common.{◌≡◌, ◌∙◌, sym, ap, List, length, arith}
use Rattle.std.specs.Prelude.{slice_get, count_by}
use Rattle.element_name.specs.Name.{Name}
use Rattle.tomb_seq.specs.declared.slot.Slot.{Slot}
use Rattle.tomb_seq.specs.Slots.{names_in, marked_names}
use Rattle.tomb_seq.specs.Runs.{Run}
use Rattle.tomb_seq.proofs.SlotLemmas.{all_shown}
use Rattle.tomb_seq.proofs.block.Block.shown_at.Goals as goal

pub returns-then-self-len : goal.returns-then-self-len
returns-then-self-len c =
    let slots = c.self.inside.slots.items in
    let all : count_by (λ s. s.shows) slots ≡ length slots = omega (arith, c.self.invariant.count, c.if-self-len.true, c.len.ensures) in
    c.name_at.ensures
    ∙ ap (λ (ss : List Slot). slice_get (names_in ss) c.args.i) c.deref.ensures.value
    ∙ ap (λ (names : List Name). slice_get names c.args.i) (sym (all_shown slots all))
    ∙ ap (λ (b : Run). slice_get (marked_names b.slots) c.args.i) c.self.view_is
