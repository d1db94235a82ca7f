-- Places and spans of a history, by the tree.
use Rattle.std.proofs.Common.{◌≡◌, Bool, true, false, not, ◌&&◌, List, length, refl, ap, sym, ◌∙◌}
use Rattle.std.specs.Prelude.{nat_lt}
use Rattle.std.proofs.lemmas.Bool.{lt-ltb}
use Rattle.element_name.specs.Name.{Name, has_name}
use Rattle.element_name.specs.Places.{place_in, stands_before}
use Rattle.tomb_seq.specs.Laws.{PlacesLaw}
use Rattle.coop_request.specs.Request.{Request}
use Rattle.coop_request.specs.History.{placed_of, elements_of, text_order, IsHistory}
use Rattle.coop_request.proofs.Histories.{IsTree-placed_of}
use Rattle.auth_match.proofs.OneMore.{place_below}
use Rattle.peer_tables.specs.TreePlaces.{is_before, TextPlaceLaw, SpanCoverLaw}
use Rattle.peer_tables.proofs.HistoryLemmas.{has_order}

and_true : (a b : Bool) → b ≡ true → (a && b) ≡ a
and_true true b h = h
and_true false b h = refl

-- of two elements the one stands first that is before the other
stands : PlacesLaw → (R : List Request) (a b : Name) → IsHistory R → has_name (elements_of R) a ≡ true → has_name (elements_of R) b ≡ true
    → stands_before (text_order R) a b ≡ is_before R a b
stands places R a b history has_a has_b = places (placed_of R) a b (IsTree-placed_of R history) has_a has_b

pub text_place_law : PlacesLaw → TextPlaceLaw
text_place_law places R a b history has_a has_b =
    let names : List Name = text_order R in
    let within : nat_lt (place_in names b) (length names) ≡ true = lt-ltb (place_in names b) (length names) (place_below names b (has_order R b history ∙ has_b)) in
    sym (and_true (nat_lt (place_in names a) (place_in names b)) (nat_lt (place_in names b) (length names)) within) ∙ stands places R a b history has_a has_b

pub span_cover_law : PlacesLaw → SpanCoverLaw
span_cover_law places R first last e history has_e =
    ap (λ (b : Bool). (b && has_name (text_order R) last) && ends) (has_order R first history)
    ∙ ap (λ (b : Bool). (has_name (elements_of R) first && b) && ends) (has_order R last history)
    ∙ by (has_name (elements_of R) first) (has_name (elements_of R) last) refl refl
  where
    ends : Bool
    ends = not (stands_before (text_order R) e first) && not (stands_before (text_order R) last e)

    by : (a b : Bool) → has_name (elements_of R) first ≡ a → has_name (elements_of R) last ≡ b
        → ((a && b) && ends) ≡ ((a && b) && (not (is_before R e first) && not (is_before R last e)))
    by false b h k = refl
    by true false h k = refl
    by true true h k =
        ap (λ (c : Bool). not c && not (stands_before (text_order R) last e)) (stands places R e first history has_e h)
        ∙ ap (λ (c : Bool). not (is_before R e first) && not c) (stands places R last e history k has_e)
