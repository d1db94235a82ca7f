-- How the cells of a table change.
use Rattle.std.proofs.Common.{◌≡◌, ℕ, ◌-◌, ◌<◌, ◌≤◌, Bool, true, false, not, ◌&&◌, ◌||◌, List, [], ◌∷◌, ◌^◌, length, Some, None, Ok, Err, Result, OnOk, OnErr, refl, sym, subst, ◌∙◌, ap, arith, if◌then◌else◌}
use Rattle.std.specs.Prelude.{is_some}
use Rattle.std.specs.Option.{option_map, option_or}
use Rattle.std.specs.List.{list_all}
use Rattle.std.specs.declared.option.Option.{Option}
use Rattle.element_name.specs.Cases.{given}
use Rattle.element_name.specs.Name.{Name, name_eq}
use Rattle.element_name.specs.Named.{item_named}
use Rattle.element_name.proofs.NameOrder.{name_eq-refl, same_name}
use Rattle.element_name.proofs.CaseLemmas.{option_or-None, option_map-None}
use Rattle.coop_request.specs.declared.edit.Edit.{Edit}
use Rattle.coop_request.specs.declared.edit.Edit.TheVariants.{Insert, Delete, Update}
use Rattle.coop_request.specs.Edit.{is_insert, piece_in, element_by, right_of}
use Rattle.coop_request.specs.Request.{Request, element_of}
use Rattle.coop_request.specs.History.{request_of}
use Rattle.elem_show.specs.Cell.{Cell, cell_by, is_insert_of, cell_from, own_of, own_piece, cell_of}
use Rattle.elem_show.specs.Counting.{with_one_more, cell_with, cell_less, has_cut, including, except, HasRoomFor}
use Rattle.elem_show.proofs.Cells.{cell_from-cons, less_except, cell_from-except, cell_from-including, has_cut-more, letters_absent, few_letters, few_cuts, letter_name, once-except, with_elsewhere}
use Rattle.elem_show.proofs.Orders.{once-including, all-including, own_piece-absent, own_piece-including, own_piece-other}
use Rattle.request_state.specs.declared.state.State.{State}
use Rattle.request_state.specs.State.{is_invalid}
use Rattle.request_state.specs.Rows.{cell_joined, AreCellsOf}

-- ---- the pieces of inserts

abbrev pub own_in : Name → Request → Option (List ℕ)
own_in e q = given (is_insert_of e q) (piece_in q.edit)

-- an insert makes no other element
own_elsewhere : (q : Request) (e : Name) → name_eq q.id e ≡ false → own_piece (q ∷ []) e ≡ None
own_elsewhere q e apart = rw apart refl

-- ---- where no counted request is of an element

no_cell_of : (cells : Name → Option Cell) (e : Name) (own : List ℕ) (counted : List Request) → list_all (λ q. is_some (cells (element_of q))) counted ≡ true → cells e ≡ None
    → cell_from e own counted ≡ cell_from e own []
no_cell_of cells e own [] all absent = refl
no_cell_of cells e own (q ∷ counted) all absent = by (is_some (cells (element_of q))) refl (name_eq (element_of q) e) refl all (no_cell_of cells e own counted)
  where
    by : (b : Bool) → is_some (cells (element_of q)) ≡ b → (here : Bool) → name_eq (element_of q) e ≡ here → (b && list_all (λ r. is_some (cells (element_of r))) counted) ≡ true
        → (list_all (λ r. is_some (cells (element_of r))) counted ≡ true → cells e ≡ None → cell_from e own counted ≡ cell_from e own []) → cell_from e own (q ∷ counted) ≡ cell_from e own []
    by false h here k a rest = absurd cc
    by true h true k a rest =
        let other : is_some (cells (element_of q)) ≡ false = ap (λ (n : Name). is_some (cells n)) (same_name (element_of q) e k) ∙ ap (λ (o : Option Cell). is_some o) absent in
        absurd (cc)
    by true h false k a rest = cell_from-cons e q own counted ∙ ap (λ (b : Bool). if b then with_one_more q.id q.edit (cell_from e own counted) else cell_from e own counted) k ∙ rest a absent

-- where each cell that there was is there still
pub still_cells : (old new : Name → Option Cell) → ((e : Name) → is_some (old e) ≡ true → is_some (new e) ≡ true) → (counted : List Request)
    → list_all (λ q. is_some (old (element_of q))) counted ≡ true → list_all (λ q. is_some (new (element_of q))) counted ≡ true
still_cells old new still [] all = refl
still_cells old new still (q ∷ counted) all = by (is_some (old (element_of q))) refl all (still_cells old new still counted)
  where
    by : (b : Bool) → is_some (old (element_of q)) ≡ b → (b && list_all (λ r. is_some (old (element_of r))) counted) ≡ true
        → (list_all (λ r. is_some (old (element_of r))) counted ≡ true → list_all (λ r. is_some (new (element_of r))) counted ≡ true)
        → (is_some (new (element_of q)) && list_all (λ r. is_some (new (element_of r))) counted) ≡ true
    by false h a rest = absurd cc
    by true h a rest = rw (still (element_of q) h, rest a) refl

-- ---- add

pub no_cell : (cells : Name → Option Cell) (inserts counted : List Request) (n : Name) → AreCellsOf cells inserts counted → request_of inserts n ≡ None → cells n ≡ None
no_cell cells inserts counted n t unknown = t.cells_of n ∙ ap (option_map (λ own. cell_from n own counted)) (own_piece-absent inserts n unknown)

abbrev pub IsAdded : (Name → Option Cell) → Request → (Name → Option Cell) → Type 0
IsAdded old q new = (e : Name) → new e ≡ (if name_eq q.id e then cell_of (q ∷ []) [] e else old e)

pub table-add : (old new : Name → Option Cell) (q : Request) (requests counted : List Request) → request_of requests q.id ≡ None → IsAdded old q new → AreCellsOf old requests counted → AreCellsOf new (including q requests) counted
table-add old new q requests counted unknown added t = record {
  cells_of = cells;
  once = t.once;
  elements = still_cells old new still counted t.elements;
}
  where
    absent : old q.id ≡ None
    absent = no_cell old requests counted q.id t unknown

    cells : (e : Name) → new e ≡ cell_of (including q requests) counted e
    cells e = added e ∙ by (name_eq q.id e) refl ∙ ap (option_map (λ own. cell_from e own counted)) (sym (own_piece-including q requests e unknown))
      where
        fresh : (o : Option (List ℕ)) → old e ≡ None → option_map (λ own. cell_from e own []) o ≡ option_map (λ own. cell_from e own counted) o
        fresh None h = refl
        fresh (Some own) h = ap (λ x. Some x) (sym (no_cell_of old e own counted t.elements h))

        by : (b : Bool) → name_eq q.id e ≡ b → (if b then cell_of (q ∷ []) [] e else old e) ≡ option_map (λ own. cell_from e own counted) (option_or (own_piece requests e) (own_piece (q ∷ []) e))
        by true h =
            let none : old e ≡ None = ap old (sym (same_name q.id e h)) ∙ absent in
            let first : own_piece requests e ≡ None = option_map-None (λ own. cell_from e own counted) (own_piece requests e) (sym (t.cells_of e) ∙ none) in
            fresh (own_piece (q ∷ []) e) none ∙ ap (λ (o : Option (List ℕ)). option_map (λ own. cell_from e own counted) (option_or o (own_piece (q ∷ []) e))) (sym first)
        by false h = t.cells_of e ∙ ap (option_map (λ own. cell_from e own counted)) (sym (option_or-None (own_piece requests e)) ∙ ap (option_or (own_piece requests e)) (sym (own_elsewhere q e h)))

    still : (e : Name) → is_some (old e) ≡ true → is_some (new e) ≡ true
    still e has = by (name_eq q.id e) refl (added e)
      where
        by : (b : Bool) → name_eq q.id e ≡ b → new e ≡ (if b then cell_of (q ∷ []) [] e else old e) → is_some (new e) ≡ true
        by true h a =
            let none : is_some (old e) ≡ false = ap (λ (n : Name). is_some (old n)) (sym (same_name q.id e h)) ∙ ap (λ (o : Option Cell). is_some o) absent in
            absurd (cc)
        by false h a = ap (λ (o : Option Cell). is_some o) a ∙ has

-- ---- grant and withdraw

map_map : {A B C : Type 0} (f : A → B) (g : B → C) (h : A → C) → ((x : A) → g (f x) ≡ h x) → (o : Option A) → option_map g (option_map f o) ≡ option_map h o
map_map f g h e None = refl
map_map f g h e (Some x) = ap (λ y. Some y) (e x)

some_map : {A B : Type 0} (f : A → B) (o : Option A) → is_some (option_map f o) ≡ is_some o
some_map f None = refl
some_map f (Some x) = refl

all-except : (f : Request → Bool) (counted : List Request) (n : Name) → list_all f counted ≡ true → list_all f (except counted n) ≡ true
all-except f [] n all = refl
all-except f (r ∷ counted) n all = by (f r) refl (name_eq r.id n) all (all-except f counted n)
  where
    by : (b : Bool) → f r ≡ b → (out : Bool) → (b && list_all f counted) ≡ true → (list_all f counted ≡ true → list_all f (except counted n) ≡ true) → list_all f (if not out then r ∷ except counted n else except counted n) ≡ true
    by true h true a rest = rest a
    by true h false a rest = rw h (rest a)
    by false h out a rest = absurd cc

pub table-grant : (old new : Name → Option Cell) (q : Request) (requests counted : List Request) → is_some (old (element_of q)) ≡ true
    → ((e : Name) → new e ≡ option_map (cell_with e q) (old e)) → AreCellsOf old requests counted → request_of counted q.id ≡ None → AreCellsOf new requests (including q counted)
table-grant old new q requests counted element changed t fresh = record {
  cells_of = λ e. changed e ∙ ap (option_map (cell_with e q)) (t.cells_of e) ∙ map_map (λ own. cell_from e own counted) (cell_with e q) (λ own. cell_from e own (including q counted)) (λ own. sym (cell_from-including e q own counted fresh)) (own_piece requests e);
  once = once-including q counted t.once fresh;
  elements = all-including _ q counted (still_cells old new still counted t.elements) (still (element_of q) element);
}
  where
    still : (e : Name) → is_some (old e) ≡ true → is_some (new e) ≡ true
    still e has = ap (λ (o : Option Cell). is_some o) (changed e) ∙ some_map (cell_with e q) (old e) ∙ has

pub table-withdraw : (old new : Name → Option Cell) (q : Request) (requests counted : List Request)
    → ((e : Name) → new e ≡ option_map (cell_less e q) (old e)) → AreCellsOf old requests counted → request_of counted q.id ≡ Some q → AreCellsOf new requests (except counted q.id)
table-withdraw old new q requests counted changed t member = record {
  cells_of = λ e. changed e ∙ ap (option_map (cell_less e q)) (t.cells_of e) ∙ map_map (λ own. cell_from e own counted) (cell_less e q) (λ own. cell_from e own (except counted q.id)) (λ own. less_except e q own counted t.once member) (own_piece requests e);
  once = once-except q.id counted t.once;
  elements = all-except _ counted q.id (still_cells old new still counted t.elements);
}
  where
    still : (e : Name) → is_some (old e) ≡ true → is_some (new e) ≡ true
    still e has = ap (λ (o : Option Cell). is_some o) (changed e) ∙ some_map (cell_less e q) (old e) ∙ has

-- ---- room for one more, and one to take out

counted_cell : (cells : Name → Option Cell) (requests counted : List Request) (e : Name) (c : Cell) → AreCellsOf cells requests counted → cells e ≡ Some c → (own : List ℕ) × (c ≡ cell_from e own counted)
counted_cell cells requests counted e c t has = by (own_piece requests e) (sym (t.cells_of e) ∙ has)
  where
    by : (o : Option (List ℕ)) → option_map (λ own. cell_from e own counted) o ≡ Some c → (own : List ℕ) × (c ≡ cell_from e own counted)
    by None h = absurd cc
    by (Some own) h = (own, cc)

pub grant_room : (cells : Name → Option Cell) (inserts counted : List Request) (q : Request) → AreCellsOf cells inserts counted → request_of counted q.id ≡ None → length counted < 2 ^ 32 - 1
    → (c : Cell) → cells (element_of q) ≡ Some c → HasRoomFor q.id (record { cuts = c.cuts; letters = c.letters })
grant_room cells inserts counted q t new few c has =
    let made = counted_cell cells inserts counted (element_of q) c t has in
    let cuts : c.cuts ≤ length counted = subst (λ (x : Cell). x.cuts ≤ length counted) (sym made.1) (few_cuts (element_of q) made.0 counted) in
    let letters : length c.letters ≤ length counted = subst (λ (x : Cell). length x.letters ≤ length counted) (sym made.1) (few_letters (element_of q) made.0 counted) in
    record {
      new = ap (λ (x : Cell). item_named letter_name q.id x.letters) made.1 ∙ letters_absent (element_of q) q.id made.0 counted new;
      few_cuts = omega (arith, cuts, few);
      few_letters = omega (arith, letters, few);
    }

pub withdraw_cut : (cells : Name → Option Cell) (inserts counted : List Request) (q : Request) → AreCellsOf cells inserts counted → request_of counted q.id ≡ Some q
    → (c : Cell) → cells (element_of q) ≡ Some c → has_cut (right_of q.edit) c.cuts ≡ true
withdraw_cut cells inserts counted q t member c has =
    let made = counted_cell cells inserts counted (element_of q) c t has in
    let less = cell_from (element_of q) made.0 (except counted q.id) in
    ap (λ (x : Cell). has_cut (right_of q.edit) x.cuts) (made.1 ∙ cell_from-except (element_of q) q made.0 counted t.once member ∙ ap (λ (b : Bool). if b then with_one_more q.id q.edit less else less) (name_eq-refl (element_of q)))
    ∙ has_cut-more q.id q.edit less

-- ---- a new request

-- its element is made of it, and nothing counts there yet
abbrev between : (Name → Option Cell) → Request → Name → Option Cell
between old q e = if is_insert q.edit && name_eq q.id e then option_map (λ own. cell_by false own (record { cuts = 0; letters = [] })) (own_of q) else old e

pub own_element : (q : Request) → is_insert q.edit ≡ true → element_of q ≡ q.id
own_element q h = by q.id q.edit h
  where
    by : (id : Name) (edit : Edit) → is_insert edit ≡ true → element_by id edit ≡ id
    by id (Insert after letter) e = refl
    by id (Delete target) e = absurd cc
    by id (Update target letter) e = absurd cc

module _ (old : Name → Option Cell) (q : Request) (requests counted : List Request) (t : AreCellsOf old requests counted) (unknown : request_of requests q.id ≡ None)
    (uncounted : request_of counted q.id ≡ None) (there : is_insert q.edit ≡ false → is_some (old (element_of q)) ≡ true) where
  added : is_insert q.edit ≡ true → IsAdded old q (between old q)
  added is e = by (is_insert q.edit) is (name_eq q.id e)
    where
      by : (b : Bool) → b ≡ true → (same : Bool)
          → (if b && same then option_map (λ own. cell_by false own (record { cuts = 0; letters = [] })) (given b (piece_in q.edit)) else old e)
          ≡ (if same then option_map (λ own. cell_from e own []) (option_or (given (same && b) (piece_in q.edit)) None) else old e)
      by true h true = ap (option_map (λ own. cell_by false own (record { cuts = 0; letters = [] }))) (sym (option_or-None (piece_in q.edit)))
      by true h false = refl
      by false h same = absurd cc

  between_cells : (b : Bool) → is_insert q.edit ≡ b → AreCellsOf (between old q) (including q requests) counted
  between_cells true is = table-add old (between old q) q requests counted unknown (added is) t
  between_cells false is = record {
    cells_of = λ e. same e ∙ t.cells_of e ∙ ap (option_map (λ own. cell_from e own counted)) (sym (own_piece-including q requests e unknown ∙ ap (option_or (own_piece requests e)) (own_piece-other [] q e is) ∙ option_or-None (own_piece requests e)));
    once = t.once;
    elements = still_cells old (between old q) (λ e has. ap (λ (o : Option Cell). is_some o) (same e) ∙ has) counted t.elements;
  }
    where
      same : (e : Name) → between old q e ≡ old e
      same e = ap (λ (b : Bool). if b && name_eq q.id e then option_map (λ own. cell_by false own (record { cuts = 0; letters = [] })) (own_of q) else old e) is

  -- it shows up in the cells as it is, or counts
  pub cells-joined : (new : Name → Option Cell) (state : State) → ((e : Name) → new e ≡ cell_joined old q state e)
      → AreCellsOf new (including q requests) (if is_invalid state then counted else including q counted)
  cells-joined new state is = by (is_invalid state) refl (is_insert q.edit) refl
    where
      mid : AreCellsOf (between old q) (including q requests) counted
      mid = between_cells (is_insert q.edit) refl

      -- the cell of an insert once that counts
      counts : (e : Name) → (if is_insert q.edit && name_eq q.id e then option_map (λ own. cell_by true own (record { cuts = 0; letters = [] })) (own_of q) else (if is_insert q.edit || false then old e else option_map (cell_with e q) (old e)))
          ≡ option_map (cell_with e q) (between old q e)
      counts e = each (is_insert q.edit) refl (name_eq q.id e) refl
        where
          one : (edit : Edit) → is_insert edit ≡ true → (own : List ℕ) → cell_by true own (record { cuts = 0; letters = [] }) ≡ with_one_more q.id edit (cell_by false own (record { cuts = 0; letters = [] }))
          one (Insert after letter) h own = refl
          one (Delete target) h own = absurd cc
          one (Update target letter) h own = absurd cc

          here : (o : Option (List ℕ)) → is_insert q.edit ≡ true → name_eq q.id e ≡ true → option_map (λ own. cell_by true own (record { cuts = 0; letters = [] })) o ≡ option_map (cell_with e q) (option_map (λ own. cell_by false own (record { cuts = 0; letters = [] })) o)
          here None h k = refl
          here (Some own) h k = ap (λ c. Some c) (one q.edit h own
              ∙ ap (λ (b : Bool). if b then with_one_more q.id q.edit (cell_by false own (record { cuts = 0; letters = [] })) else cell_by false own (record { cuts = 0; letters = [] })) (sym (ap (λ (n : Name). name_eq n e) (own_element q h) ∙ k)))

          apart : (o : Option Cell) → name_eq (element_of q) e ≡ false → o ≡ option_map (cell_with e q) o
          apart None k = refl
          apart (Some c) k = ap (λ x. Some x) (sym (with_elsewhere q e c k))

          each : (b : Bool) → is_insert q.edit ≡ b → (k : Bool) → name_eq q.id e ≡ k
              → (if b && k then option_map (λ own. cell_by true own (record { cuts = 0; letters = [] })) (own_of q) else (if b || false then old e else option_map (cell_with e q) (old e)))
              ≡ option_map (cell_with e q) (if b && k then option_map (λ own. cell_by false own (record { cuts = 0; letters = [] })) (own_of q) else old e)
          each true h true k = here (own_of q) h k
          each true h false k = apart (old e) (ap (λ (n : Name). name_eq n e) (own_element q h) ∙ k)
          each false h k j = refl

      -- a denied one changes no cell but that of its element
      denied : (e : Name) (b : Bool) → (if b && name_eq q.id e then option_map (λ own. cell_by false own (record { cuts = 0; letters = [] })) (own_of q) else (if b || true then old e else option_map (cell_with e q) (old e)))
          ≡ (if b && name_eq q.id e then option_map (λ own. cell_by false own (record { cuts = 0; letters = [] })) (own_of q) else old e)
      denied e true = refl
      denied e false = refl

      element : (b : Bool) → is_insert q.edit ≡ b → is_some (between old q (element_of q)) ≡ true
      element false h = ap (λ (b : Bool). is_some (if b && name_eq q.id (element_of q) then option_map (λ own. cell_by false own (record { cuts = 0; letters = [] })) (own_of q) else old (element_of q))) h ∙ there h
      element true h =
          ap (λ (n : Name). is_some (between old q n)) (own_element q h)
          ∙ ap (λ (b : Bool). is_some (if is_insert q.edit && b then option_map (λ own. cell_by false own (record { cuts = 0; letters = [] })) (own_of q) else old q.id)) (name_eq-refl q.id)
          ∙ made q.edit h
        where
          made : (edit : Edit) → is_insert edit ≡ true → is_some (if is_insert edit && true then option_map (λ own. cell_by false own (record { cuts = 0; letters = [] })) (given (is_insert edit) (piece_in edit)) else old q.id) ≡ true
          made (Insert after letter) k = refl
          made (Delete target) k = absurd cc
          made (Update target letter) k = absurd cc

      by : (b : Bool) → is_invalid state ≡ b → (i : Bool) → is_insert q.edit ≡ i → AreCellsOf new (including q requests) (if b then counted else including q counted)
      by true h i k =
          let same : (e : Name) → new e ≡ between old q e =
          λ e. is e ∙ ap (λ (b : Bool). if is_insert q.edit && name_eq q.id e then option_map (λ own. cell_by (not b) own (record { cuts = 0; letters = [] })) (own_of q) else (if is_insert q.edit || b then old e else option_map (cell_with e q) (old e))) h ∙ denied e (is_insert q.edit) in
          record {
            cells_of = λ e. same e ∙ mid.cells_of e;
            once = mid.once;
            elements = still_cells (between old q) new (λ e has. ap (λ (o : Option Cell). is_some o) (same e) ∙ has) counted mid.elements;
          }
      by false h i k =
          table-grant (between old q) new q (including q requests) counted (element i k)
          (λ e. is e ∙ ap (λ (b : Bool). if is_insert q.edit && name_eq q.id e then option_map (λ own. cell_by (not b) own (record { cuts = 0; letters = [] })) (own_of q) else (if is_insert q.edit || b then old e else option_map (cell_with e q) (old e))) h ∙ counts e)
          mid uncounted

-- what comes with an answer
pub on_ok : {A E : Type 0} {P Q : Type 0} (r : Result A E) → (P → Q) → OnOk r P → OnOk r Q
on_ok (Ok x) f h = f h
on_ok (Err x) f h = tt

pub on_err : {A E : Type 0} {P Q : Type 0} (r : Result A E) → (P → Q) → OnErr r P → OnErr r Q
on_err (Ok x) f h = tt
on_err (Err x) f h = f h
