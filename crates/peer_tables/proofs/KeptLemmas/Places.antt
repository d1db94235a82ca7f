-- One more request among what is kept, and taken out again.
use Rattle.std.proofs.Common.{◌≡◌, ℕ, true, false, not, List, ◌∷◌, take, drop, insert, ap, sym, ◌∙◌}
use Rattle.std.proofs.Math.ListN.{take-append-drop}
use Rattle.std.proofs.lemmas.List.Elements.{filter-append}
use Rattle.element_name.specs.Name.{Name, name_eq, has_name}
use Rattle.element_name.specs.Tree.{skip}
use Rattle.element_name.proofs.NameOrder.{name_eq-refl}
use Rattle.coop_request.specs.declared.edit.Edit.{Edit}
use Rattle.coop_request.specs.declared.edit.Edit.TheVariants.{Insert, Delete, Update}
use Rattle.coop_request.specs.Edit.{is_insert, element_by}
use Rattle.auth_match.proofs.OneMore.{has_new}
use Rattle.tomb_seq.specs.declared.slot.Slot.{Slot}
use Rattle.tomb_seq.specs.Slots.{names_in, without_slot}
use Rattle.tomb_seq.proofs.SlotEdits.{IsFree-no_fault, without_none}
use Rattle.peer_tables.specs.Kept.{names_after, slots_after, IsPlaceable}

without_insert : (slots : List Slot) (k : ℕ) (s : Slot) → has_name (names_in slots) s.name ≡ false → without_slot (insert slots k s) s.name ≡ slots
without_insert slots k s h =
    filter-append (λ (x : Slot). not (name_eq s.name x.name)) (take k slots) (s ∷ drop k slots)
    ∙ rw (name_eq-refl s.name) (sym (filter-append (λ (x : Slot). not (name_eq s.name x.name)) (take k slots) (drop k slots)))
    ∙ ap (λ (xs : List Slot). without_slot xs s.name) (take-append-drop k slots)
    ∙ without_none slots s.name h

-- an insert's element is taken out again
pub taken_back : (slots : List Slot) (id : Name) (edit : Edit) → IsPlaceable (names_in slots) id edit → is_insert edit ≡ true
    → without_slot (slots_after slots id edit) id ≡ slots
taken_back slots id (Insert after letter) placeable insert =
    without_insert slots (skip (names_in slots) id after) (record { name = id; shows = false }) (IsFree-no_fault (names_in slots) id after placeable).new
taken_back slots id (Delete target) placeable insert = absurd cc
taken_back slots id (Update target letter) placeable insert = absurd cc

-- the element of a request stands where it was put in
pub placed_element : (names : List Name) (id : Name) (edit : Edit) → IsPlaceable names id edit → has_name (names_after names id edit) (element_by id edit) ≡ true
placed_element names id (Insert after letter) placeable = has_new names (skip names id after) id
placed_element names id (Delete target) placeable = placeable
placed_element names id (Update target letter) placeable = placeable
