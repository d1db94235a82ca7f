-- What shows at a place, and who wrote it.
use Rattle.std.proofs.Common.{◌≡◌, ℕ, ◌+◌, ◌<◌, ◌≤◌, zero, suc, cond, List, [], ◌∷◌, ◌++◌, length, take, get_or, None, Some, refl, ap, sym, subst, ◌∙◌}
use Rattle.std.specs.Prelude.{option_map, option_and_then, slice_get, filter, filter_map, is_some}
use Rattle.std.specs.declared.option.Option.{Option}
use Rattle.std.specs.List.{flat_map, cons_option}
use Rattle.std.proofs.lemmas.Grind.{flat_map-append}
use Rattle.std.proofs.lemmas.List.{append-nil, take_more, take_all}
use Rattle.std.proofs.lemmas.List.Concat.{flat_map-cons}
use Rattle.std.proofs.lemmas.Option.{slice_get_within, slice_get-get_or, get_or_from_slice_get}
use Rattle.element_name.specs.Name.{Name}
use Rattle.coop_request.specs.History.{text_order}
use Rattle.edit_frame.specs.Spelling.{short_bytes}
use Rattle.elem_show.specs.Text.{shown_of}
use Rattle.peer_tables.specs.Derived.{counted_in}
use Rattle.peer_core.specs.Peer.{Peer, history, log, text, shown_elements}
use Rattle.peer_core.proofs.AnswerLemmas.Edits.{as_many_shown}
use Rattle.text_change.specs.Rows.{piece_at}
use Rattle.editor_lib.specs.Writers.{writer_of, writers_bytes}

-- what shows at a place is what shows of the element there
at_place : (f : Name → Option (List ℕ)) (names : List Name) (i : ℕ) → slice_get (filter_map f names) i ≡ option_and_then f (slice_get (filter (λ e. is_some (f e)) names) i)
at_place f [] i = refl
at_place f (n ∷ names) i = by (f n) refl i (at_place f names)
  where
    by : (o : Option (List ℕ)) → f n ≡ o → (i : ℕ) → ((j : ℕ) → slice_get (filter_map f names) j ≡ option_and_then f (slice_get (filter (λ e. is_some (f e)) names) j))
        → slice_get (cons_option o (filter_map f names)) i ≡ option_and_then f (slice_get (cond (is_some o) (n ∷ filter (λ e. is_some (f e)) names) (filter (λ e. is_some (f e)) names)) i)
    by None is i rest = rest i
    by (Some piece) is zero rest = sym is
    by (Some piece) is (suc i) rest = rest i

piece_there : (p : Peer) (place : ℕ) → slice_get (text p) place ≡ option_and_then (piece_at p) (slice_get (shown_elements p) place)
piece_there p place = at_place (shown_of (history p) (counted_in (history p) (log p))) (text_order (history p)) place

-- where no element shows no piece does
pub no_piece : (p : Peer) (place : ℕ) → None ≡ slice_get (shown_elements p) place → None ≡ slice_get (text p) place
no_piece p place none = ap (option_and_then (piece_at p)) none ∙ sym (piece_there p place)

-- where an element shows its piece does
pub its_piece : (p : Peer) (place : ℕ) (e : Name) (piece : Option (List ℕ)) → piece ≡ piece_at p e → Some e ≡ slice_get (shown_elements p) place → piece ≡ slice_get (text p) place
its_piece p place e piece is there = is ∙ ap (option_and_then (piece_at p)) there ∙ sym (piece_there p place)

-- as many elements show as pieces
as_many : (p : Peer) → length (shown_elements p) ≡ length (text p)
as_many p = as_many_shown (history p) (counted_in (history p) (log p)) (text_order (history p))

-- what is there is something
is_some_there : (f : Name → ℕ) (o : Option Name) (n : Name) → o ≡ Some n → None ≡ option_map f o → ⊥
is_some_there f None n there none = absurd cc
is_some_there f (Some e) n there none = absurd cc

-- something shows at each place of the text
pub somebody_wrote : (p : Peer) (place n : ℕ) → n ≡ length (text p) → place < n → None ≡ option_map (writer_of p) (slice_get (shown_elements p) place) → ⊥
somebody_wrote p place n long within =
    let nobody : Name = record { stamp = 0; site = 0 } in
    is_some_there (writer_of p) (slice_get (shown_elements p) place) (get_or (shown_elements p) place nobody)
    (slice_get-get_or (shown_elements p) place nobody (subst (λ m. place < m) (long ∙ sym (as_many p)) within))

-- the sites of so many elements are those of all
pub all_written : (p : Peer) (place n : ℕ) (sites : List ℕ) → sites ≡ flat_map (λ e. short_bytes (writer_of p e)) (take place (shown_elements p)) → n ≡ length (text p) → n ≤ place
    → sites ≡ writers_bytes p
all_written p place n sites is long past =
    is ∙ ap (flat_map (λ e. short_bytes (writer_of p e))) (take_all place (shown_elements p) (subst (λ m. m ≤ place) (long ∙ sym (as_many p)) past))

-- a flat_map, one element further
flat_map_at : (f : Name → List ℕ) (xs : List Name) (i : ℕ) (x : Name) → slice_get xs i ≡ Some x → flat_map f (take (i + 1) xs) ≡ flat_map f (take i xs) ++ f x
flat_map_at f xs i x is =
    ap (flat_map f) (take_more xs i x (slice_get_within xs i x is))
    ∙ flat_map-append f (take i xs) (get_or xs i x ∷ [])
    ∙ ap (λ (ys : List ℕ). flat_map f (take i xs) ++ ys) (flat_map-cons f (get_or xs i x) [] ∙ append-nil (f (get_or xs i x)) ∙ ap f (get_or_from_slice_get xs i x x is))

-- a site is that of somebody who wrote what shows of an element
written : (p : Peer) (element : Option Name) (site : ℕ) → option_map (writer_of p) element ≡ Some site → (e : Name) × (element ≡ Some e) × (writer_of p e ≡ site)
written p None site is = absurd cc
written p (Some e) site is = (e, refl, cc)

-- the sites of the first places, one place further
pub writers_more : (p : Peer) (place site : ℕ) → option_map (writer_of p) (slice_get (shown_elements p) place) ≡ Some site
    → flat_map (λ e. short_bytes (writer_of p e)) (take (place + 1) (shown_elements p)) ≡ flat_map (λ e. short_bytes (writer_of p e)) (take place (shown_elements p)) ++ short_bytes site
writers_more p place site is =
    let w = written p (slice_get (shown_elements p) place) site is in
    flat_map_at (λ e. short_bytes (writer_of p e)) (shown_elements p) place w.0 w.1
    ∙ ap (λ (n : ℕ). flat_map (λ e. short_bytes (writer_of p e)) (take place (shown_elements p)) ++ short_bytes n) w.2
