-- The pieces that show, place by place, and by what is kept.
use Rattle.std.proofs.Common.{◌≡◌, ℕ, ◌+◌, ◌<◌, ◌≤◌, ⊎_elim, List, [], ◌∷◌, ◌++◌, length, take, get_or, None, Some, sym, ap, ◌∙◌, arith}
use Rattle.std.specs.Prelude.{filter_map, slice_get, option_and_then}
use Rattle.std.specs.declared.option.Option.{Option}
use Rattle.std.specs.List.{cons_option}
use Rattle.std.proofs.lemmas.List.{take_more}
use Rattle.std.proofs.lemmas.List.Elements.{filter_map-append}
use Rattle.std.proofs.lemmas.Option.{slice_get_cases}
use Rattle.element_name.specs.Name.{Name}
use Rattle.coop_request.specs.History.{text_order}
use Rattle.policy_book.specs.Entry.{Entry}
use Rattle.edit_message.specs.declared.message.Message.{Message}
use Rattle.edit_message.specs.Message.{requests_of, entries_of}
use Rattle.request_state.specs.declared.kept.Kept.{Kept}
use Rattle.elem_show.specs.Cell.{shown}
use Rattle.request_state.specs.Table.{kept_piece}
use Rattle.tomb_seq.specs.declared.slot.Slot.{Slot}
use Rattle.tomb_seq.specs.Slots.{names_in}
use Rattle.tomb_seq.proofs.MarkLemmas.{names_by}
use Rattle.peer_tables.specs.Kept.{IsKeptOf, shows_in}
use Rattle.peer_tables.specs.Derived.{text_in}
use Rattle.peer_tables.proofs.JournalLemmas.{history_law}
use Rattle.peer_tables.proofs.KeptLemmas.States.{cells_kept}

-- the items so far, with what one more item gives
pub items_more : {X Y : Type 0} (h : X → Option Y) (xs : List X) (i : ℕ) (found : Option Y) → i < length xs → found ≡ option_and_then h (slice_get xs i)
    → filter_map h (take (i + 1) xs) ≡ filter_map h (take i xs) ++ cons_option found []
items_more {X} {Y} h xs i found lt is =
    ⊎_elim
    (λ (w : (x : X) × (i < length xs) × (slice_get xs i ≡ Some x) × (get_or xs i x ≡ x)).
    ap (filter_map h) (take_more xs i w.0 lt)
    ∙ filter_map-append h (take i xs) (get_or xs i w.0 ∷ [])
    ∙ ap (λ (o : Option Y). filter_map h (take i xs) ++ cons_option o []) (ap h w.3 ∙ sym (is ∙ ap (option_and_then h) w.2)))
    (λ (past : (length xs ≤ i) × (slice_get xs i ≡ None)). let le = past.0 in absurd (omega (arith, le)))
    (slice_get_cases xs i).1

-- the pieces that show, by what is kept
pub text_kept : (J : List Message) (L : List Entry) (slots : List Slot) (table : List Kept) (stamp count : ℕ)
    → IsKeptOf J L slots table stamp count → filter_map (kept_piece table) (names_in slots) ≡ text_in (requests_of J) (entries_of J)
text_kept J L slots table stamp count k =
    ap (λ (names : List Name). filter_map (kept_piece table) names) (ap names_in k.kept.marked ∙ names_by (shows_in (requests_of J) L) (text_order (requests_of J)))
    ∙ ap (λ (f : Name → Option (List ℕ)). filter_map f (text_order (requests_of J))) (λ i e. option_and_then shown (cells_kept (requests_of J) L table (history_law J k.journal) k.kept.in_order k.kept.states e i))
    ∙ ap (text_in (requests_of J)) k.entries
