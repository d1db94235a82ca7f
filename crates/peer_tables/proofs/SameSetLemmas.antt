-- Journals with the same requests and the same log look alike.
use Rattle.std.proofs.Common.{◌≡◌, ℕ, inl, inr, Bool, true, false, not, List, [], ◌∷◌, ◌++◌, None, Some, refl, ap, sym, subst, ◌∙◌, append_assoc, IsPermutation}
use Rattle.std.specs.Prelude.{map, filter, filter_map, option_and_then, if◌then◌else◌}
use Rattle.std.specs.declared.option.Option.{Option}
use Rattle.std.proofs.lemmas.List.Elements.{filter_map-append}
use Rattle.std.proofs.lemmas.List.Sorted.{IsPermutation-refl, IsPermutation-sym, IsPermutation-trans, IsPermutation-append_right, IsPermutation-append_left, IsPermutation-append_comm}
use Rattle.element_name.specs.Cases.{when}
use Rattle.element_name.specs.Name.{Name, name_eq, are_distinct}
use Rattle.element_name.specs.Tree.{Placed}
use Rattle.element_name.proofs.NameOrder.{name_eq-refl, same_name}
use Rattle.element_name.proofs.NamedLemmas.{without_named-absent}
use Rattle.coop_request.specs.Edit.{placed_by}
use Rattle.coop_request.specs.Request.{Request}
use Rattle.coop_request.specs.History.{placed_of, text_order, request_of, IsHistory}
use Rattle.coop_request.proofs.Histories.{IsTree-placed_of}
use Rattle.policy_book.specs.Entry.{Entry}
use Rattle.edit_message.specs.Message.{requests_of, entries_of}
use Rattle.elem_show.specs.Cell.{shown}
use Rattle.elem_show.specs.Counting.{except}
use Rattle.elem_show.specs.Text.{shown_of}
use Rattle.elem_show.proofs.Cells.{first_new, rest_once, once-except, found_id, alike_rest, first_alike, none_alike}
use Rattle.elem_show.proofs.Orders.{filter_absent, filter_once, cell_of-sets}
use Rattle.check_remote.specs.State.{is_granted, state_of}
use Rattle.tomb_seq.proofs.Has.{Has, Has-from_Contains, Contains-from_Has}
use Rattle.tomb_seq.proofs.Theorems.{same_law}
use Rattle.peer_tables.specs.Derived.{state_in, cell_in, counted_in, text_in}
use Rattle.peer_tables.specs.Laws.{SetLaw}
use Rattle.peer_tables.proofs.JournalLemmas.{history_law}
use Rattle.peer_tables.proofs.HistoryLemmas.{once_law}

-- no name is twice among the requests
abbrev pub IsOnce : List Request → Type 0
IsOnce xs = are_distinct (map (λ q. q.id) xs) ≡ true

-- the same is found under each name
abbrev pub AreAlike : List Request → List Request → Type 0
AreAlike xs ys = (n : Name) → request_of xs n ≡ request_of ys n

-- ---- what is found under a name stands there

pub found_has : (xs : List Request) (n : Name) (q : Request) → request_of xs n ≡ Some q → Has xs q
found_has [] n q h = absurd cc
found_has (r ∷ xs) n q h = by (name_eq r.id n) h (found_has xs n q)
  where
    by : (b : Bool) → (if b then Some r else request_of xs n) ≡ Some q → (request_of xs n ≡ Some q → Has xs q) → Has (r ∷ xs) q
    by true e rest = inl cc
    by false e rest = inr (rest e)

pub has_found : (xs : List Request) (q : Request) → IsOnce xs → Has xs q → request_of xs q.id ≡ Some q
has_found [] q once h = absurd h
has_found (r ∷ xs) q once (inl p) = subst (λ (x : Request). request_of (r ∷ xs) x.id ≡ Some x) p (rw (name_eq-refl r.id) refl)
has_found (r ∷ xs) q once (inr h) = by (name_eq r.id q.id) refl (has_found xs q (rest_once r xs once) h)
  where
    by : (b : Bool) → name_eq r.id q.id ≡ b → request_of xs q.id ≡ Some q → (if b then Some r else request_of xs q.id) ≡ Some q
    by false e there = there
    by true e there =
        let none : request_of xs q.id ≡ None = subst (λ (m : Name). request_of xs m ≡ None) (same_name r.id q.id e) (first_new r xs once) in
        absurd (cc)

alike_at : (xs ys : List Request) (n : Name) (o p : Option Request) → request_of xs n ≡ o → request_of ys n ≡ p
    → ((q : Request) → o ≡ Some q → request_of ys n ≡ Some q) → ((q : Request) → p ≡ Some q → request_of xs n ≡ Some q) → request_of xs n ≡ request_of ys n
alike_at xs ys n None None e f forth back = e ∙ sym f
alike_at xs ys n None (Some q) e f forth back = absurd (let g = back q refl in cc)
alike_at xs ys n (Some q) p e f forth back = e ∙ sym (forth q refl)

pub alike_from : (xs ys : List Request) → IsOnce xs → IsOnce ys → ((q : Request) → Has xs q → Has ys q) → ((q : Request) → Has ys q → Has xs q) → AreAlike xs ys
alike_from xs ys once_x once_y forth back n =
    alike_at xs ys n (request_of xs n) (request_of ys n) refl refl
    (λ q h. move xs ys once_y forth q h)
    (λ q h. move ys xs once_x back q h)
  where
    move : (us vs : List Request) → IsOnce vs → ((q : Request) → Has us q → Has vs q) → (q : Request) → request_of us n ≡ Some q → request_of vs n ≡ Some q
    move us vs once go q h =
        subst (λ (m : Name). request_of vs m ≡ Some q) (found_id us n q h) (has_found vs q once (go q (found_has us n q h)))

-- ---- the elements, in whatever order

placed_out : (xs : List Request) (q : Request) → IsOnce xs → request_of xs q.id ≡ Some q → IsPermutation (placed_of xs) (placed_of (q ∷ []) ++ placed_of (except xs q.id))
placed_out [] q once member = absurd cc
placed_out (r ∷ xs) q once member = by (name_eq r.id q.id) refl member (placed_out xs q (rest_once r xs once))
  where
    by : (b : Bool) → name_eq r.id q.id ≡ b → (if b then Some r else request_of xs q.id) ≡ Some q
        → (request_of xs q.id ≡ Some q → IsPermutation (placed_of xs) (placed_of (q ∷ []) ++ placed_of (except xs q.id)))
        → IsPermutation (placed_of (r ∷ xs)) (placed_of (q ∷ []) ++ placed_of (if not b then r ∷ except xs q.id else except xs q.id))
    by true h m rest =
        let here : r ≡ q = cc in
        let new : request_of xs q.id ≡ None = subst (λ (x : Request). request_of xs x.id ≡ None) here (first_new r xs once) in
        let same : placed_of (r ∷ xs) ≡ placed_of (q ∷ []) ++ placed_of (except xs q.id) =
        ap (λ (x : Request). placed_of (x ∷ xs)) here ∙ filter_map-append (λ x. placed_by x.id x.edit) (q ∷ []) xs
        ∙ ap (λ (ys : List Request). placed_of (q ∷ []) ++ placed_of ys) (sym (without_named-absent (λ x. x.id) q.id xs new)) in
        subst (λ (ps : List Placed). IsPermutation (placed_of (r ∷ xs)) ps) same (IsPermutation-refl (placed_of (r ∷ xs)))
    by false h m rest =
        let front = placed_of (r ∷ []) in
        let own = placed_of (q ∷ []) in
        let others = placed_of (except xs q.id) in
        let moved : IsPermutation (front ++ placed_of xs) (front ++ (own ++ others)) = IsPermutation-append_right front (placed_of xs) (own ++ others) (rest m) in
        let swapped : IsPermutation ((front ++ own) ++ others) ((own ++ front) ++ others) = IsPermutation-append_left others (front ++ own) (own ++ front) (IsPermutation-append_comm front own) in
        let one : placed_of (r ∷ xs) ≡ front ++ placed_of xs = filter_map-append (λ x. placed_by x.id x.edit) (r ∷ []) xs in
        let two : own ++ placed_of (r ∷ except xs q.id) ≡ (own ++ front) ++ others =
        ap (λ (ps : List Placed). own ++ ps) (filter_map-append (λ x. placed_by x.id x.edit) (r ∷ []) (except xs q.id)) ∙ sym (append_assoc own front others) in
        let joined : IsPermutation (front ++ placed_of xs) ((own ++ front) ++ others) =
        IsPermutation-trans (front ++ placed_of xs) ((front ++ own) ++ others) ((own ++ front) ++ others)
        (subst (λ (ps : List Placed). IsPermutation (front ++ placed_of xs) ps) (sym (append_assoc front own others)) moved) swapped in
        subst (λ (ps : List Placed). IsPermutation ps (own ++ placed_of (r ∷ except xs q.id))) (sym one)
        (subst (λ (ps : List Placed). IsPermutation (front ++ placed_of xs) ps) (sym two) joined)

pub placed_alike : (xs ys : List Request) → IsOnce xs → IsOnce ys → AreAlike xs ys → IsPermutation (placed_of xs) (placed_of ys)
placed_alike [] ys once_x once_y alike = subst (λ (zs : List Request). IsPermutation (placed_of []) (placed_of zs)) (sym (none_alike ys alike)) (IsPermutation-refl [])
placed_alike (x ∷ xs) ys once_x once_y alike =
    let own = placed_of (x ∷ []) in
    let rest = placed_alike xs (except ys x.id) (rest_once x xs once_x) (once-except x.id ys once_y) (alike_rest x xs ys once_x alike) in
    let out = placed_out ys x once_y (first_alike x xs ys alike) in
    let one : placed_of (x ∷ xs) ≡ own ++ placed_of xs = filter_map-append (λ q. placed_by q.id q.edit) (x ∷ []) xs in
    subst (λ (ps : List Placed). IsPermutation ps (placed_of ys)) (sym one)
    (IsPermutation-trans (own ++ placed_of xs) (own ++ placed_of (except ys x.id)) (placed_of ys)
    (IsPermutation-append_right own (placed_of xs) (placed_of (except ys x.id)) rest)
    (IsPermutation-sym (placed_of ys) (own ++ placed_of (except ys x.id)) out))

-- ---- the requests that count

pub filter_found : (test : Request → Bool) (xs : List Request) (n : Name) → IsOnce xs
    → request_of (filter test xs) n ≡ option_and_then (λ q. when (test q) q) (request_of xs n)
filter_found test [] n once = refl
filter_found test (r ∷ xs) n once = by (name_eq r.id n) refl (test r) refl (filter_found test xs n (rest_once r xs once))
  where
    by : (b : Bool) → name_eq r.id n ≡ b → (t : Bool) → test r ≡ t
        → request_of (filter test xs) n ≡ option_and_then (λ q. when (test q) q) (request_of xs n)
        → request_of (if t then r ∷ filter test xs else filter test xs) n ≡ option_and_then (λ q. when (test q) q) (if b then Some r else request_of xs n)
    by true e true s rest = rw (e, s) refl
    by true e false s rest =
        let none : request_of xs n ≡ None = subst (λ (m : Name). request_of xs m ≡ None) (same_name r.id n e) (first_new r xs once) in
        rw s (filter_absent test xs n none)
    by false e true s rest = rw e rest
    by false e false s rest = rest

pub filter_alike : (test : Request → Bool) (xs ys : List Request) → IsOnce xs → IsOnce ys → AreAlike xs ys → AreAlike (filter test xs) (filter test ys)
filter_alike test xs ys once_x once_y alike n =
    filter_found test xs n once_x ∙ ap (option_and_then (λ q. when (test q) q)) (alike n) ∙ sym (filter_found test ys n once_y)

-- ---- what follows for two journals

module _ (R S : List Request) (L : List Entry) (first : IsHistory R) (second : IsHistory S) (alike : AreAlike R S) where
  once_R : IsOnce R
  once_R = once_law R first

  once_S : IsOnce S
  once_S = once_law S second

  pub same_orders : text_order R ≡ text_order S
  same_orders = same_law (placed_of R) (placed_of S) (IsTree-placed_of R first) (IsTree-placed_of S second) (placed_alike R S once_R once_S alike)

  pub same_states : (q : Request) → state_in R L q ≡ state_in S L q
  same_states q = ap (λ (names : List Name). state_of names L q) same_orders

  counted_alike : AreAlike (counted_in R L) (counted_in S L)
  counted_alike n =
      ap (λ (names : List Name). request_of (filter (is_granted names L) R) n) same_orders
      ∙ filter_alike (is_granted (text_order S) L) R S once_R once_S alike n

  pub same_cells : (e : Name) → cell_in R L e ≡ cell_in S L e
  same_cells e =
      cell_of-sets R S (counted_in R L) (counted_in S L) e once_R once_S alike
      (filter_once (is_granted (text_order R) L) R once_R) (filter_once (is_granted (text_order S) L) S once_S) counted_alike

  pub same_texts : text_in R L ≡ text_in S L
  same_texts =
      ap (λ (f : Name → Option (List ℕ)). filter_map f (text_order R)) (λ i e. option_and_then shown (same_cells e i))
      ∙ ap (λ (names : List Name). filter_map (shown_of S (counted_in S L)) names) same_orders

pub set_law : SetLaw
set_law J K same =
    let R = requests_of J in
    let S = requests_of K in
    let first = history_law J same.first in
    let second = history_law K same.second in
    let alike : AreAlike R S = alike_from R S (once_law R first) (once_law S second)
    (λ q h. Has-from_Contains S q (same.forth q (Contains-from_Has R q h)))
    (λ q h. Has-from_Contains R q (same.back q (Contains-from_Has S q h))) in
    record {
      orders = same_orders R S (entries_of J) first second alike;
      states = λ q. same_states R S (entries_of J) first second alike q ∙ ap (λ (L : List Entry). state_in S L q) same.logs;
      cells = λ e. same_cells R S (entries_of J) first second alike e ∙ ap (λ (L : List Entry). cell_in S L e) same.logs;
      texts = same_texts R S (entries_of J) first second alike ∙ ap (text_in S) same.logs;
    }
