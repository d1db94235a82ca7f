-- A table after a change: its rows, with the cells.
use Rattle.std.proofs.Common.{◌≡◌, ℕ, ◌-◌, ◌<◌, ◌^◌, Bool, true, false, not, ◌&&◌, ◌||◌, List, [], ◌∷◌, length, None, Some, refl, sym, ap, subst, ◌∙◌, arith, if◌then◌else◌}
use Rattle.std.specs.Prelude.{is_some, option_and_then}
use Rattle.std.specs.declared.option.Option.{Option}
use Rattle.std.specs.Option.{option_map}
use Rattle.std.specs.List.{list_all}
use Rattle.std.specs.List.Sorted.{IsStrictlySortedBy}
use Rattle.std.specs.Map.{keys_of, values_of}
use Rattle.std.specs.BTreeMap.{insert_entry}
use Rattle.element_name.specs.Cases.{given}
use Rattle.element_name.specs.Name.{Name, name_eq}
use Rattle.element_name.specs.Named.{name_cmp}
use Rattle.element_name.proofs.NameOrder.{name_cmp_total, same_name}
use Rattle.element_name.proofs.CaseLemmas.{option_map-None}
use Rattle.name_index.proofs.Results.{ordered_insert}
use Rattle.coop_request.specs.declared.edit.Edit.{Edit}
use Rattle.coop_request.specs.declared.edit.Edit.TheVariants.{Insert, Delete, Update}
use Rattle.coop_request.specs.Edit.{is_insert, piece_in, right_of}
use Rattle.coop_request.specs.Request.{Request, element_of}
use Rattle.coop_request.specs.History.{request_of}
use Rattle.elem_show.specs.Cell.{Cell, cell_by, own_of}
use Rattle.elem_show.specs.Counting.{with_one_fewer, cell_less, has_cut, including, except}
use Rattle.elem_show.proofs.Cells.{found_id, less_elsewhere}
use Rattle.request_state.specs.declared.kept.Kept.{Kept}
use Rattle.request_state.specs.declared.row.Row.{Row}
use Rattle.request_state.specs.declared.lines.Place.{Place}
use Rattle.request_state.specs.declared.state.State.{State}
use Rattle.request_state.specs.declared.state.State.TheVariants.{Tentative, Invalid}
use Rattle.request_state.specs.State.{is_tentative, is_invalid}
use Rattle.request_state.specs.Lines.{has_place, is_place_of, keyed_states}
use Rattle.request_state.specs.Table.{kept_of, kept_state, with_request, with_state, requests_kept, counted_of, kept_cell, has_element}
use Rattle.request_state.specs.Rows.{cell_of_row, kept_rows, row_under, cell_under, cell_joined, cell_discounted, cell_in_state, HasRoomUnder, AreCellsOf, IsStateTable}
use Rattle.request_state.proofs.Changes.{lookup_kept, sorted_values, values_made, state_table_made, keyed-insert, lined-add, lined-set}
use Rattle.request_state.proofs.Cells.{grant_room, withdraw_cut, cells-joined, table-withdraw, still_cells, own_element}
use Rattle.request_state.proofs.Counted.{requests_found, requests-put, requests-set, counted_absent, counted-put, counted_set, counted_without, few_counted, tentative_counts}
use Rattle.request_state.proofs.RowChanges.{lookup_rows}

-- what each request has, a found one has
found_all : (f : Request → Bool) (counted : List Request) (n : Name) (q : Request) → list_all f counted ≡ true → request_of counted n ≡ Some q → f q ≡ true
found_all f [] n q all found = absurd cc
found_all f (x ∷ counted) n q all found = by (f x) refl (name_eq x.id n) all found (found_all f counted n q)
  where
    by : (b : Bool) → f x ≡ b → (same : Bool) → (b && list_all f counted) ≡ true → (if same then Some x else request_of counted n) ≡ Some q
        → (list_all f counted ≡ true → request_of counted n ≡ Some q → f q ≡ true) → f q ≡ true
    by false h same a k rest = absurd cc
    by true h true a k rest = let is : x ≡ q = cc in subst (λ (y : Request). f y ≡ true) is h
    by true h false a k rest = rest a k

-- the row of a Tentative request
pub record IsWaiting (rows : List (Name × Row)) (n : Name) (r : Row) : Type 0 where
  pub found : row_under rows n ≡ Some r
  pub named : r.kept.request.id ≡ n
  pub state : r.kept.state ≡ Tentative

module _ (old : List (Name × Row)) (places : List Place) (h : IsStateTable old places) where
  abbrev table : List Kept
  table = values_of (kept_rows old)

  pub row_absent : (n : Name) → kept_of table n ≡ None → row_under old n ≡ None
  row_absent n absent = option_map-None (λ (r : Row). r.kept) (row_under old n) (sym (lookup_rows n old) ∙ lookup_kept (kept_rows old) places h.lines n ∙ absent)

  kept_row : (n : Name) (r : Row) → row_under old n ≡ Some r → kept_of table n ≡ Some r.kept
  kept_row n r found = sym (lookup_kept (kept_rows old) places h.lines n) ∙ lookup_rows n old ∙ ap (option_map (λ (x : Row). x.kept)) found

  has_cell : (q : Request) → has_element table q ≡ true → is_insert q.edit ≡ false → is_some (cell_under old (element_of q)) ≡ true
  has_cell q has other =
      ap (λ (o : Option Cell). is_some o) (h.cells.cells_of (element_of q))
      ∙ sym (ap (λ (b : Bool). b || is_some (kept_cell table (element_of q))) other) ∙ has

  -- the cell of a row whose element is there
  row_cell : (e : Name) (r : Row) → is_some (cell_under old e) ≡ true → row_under old e ≡ Some r → (own : List ℕ) × (cell_under old e ≡ Some (cell_by (not (is_invalid r.kept.state)) own r.counts))
  row_cell e r there found = by (own_of r.kept.request) (ap (option_and_then cell_of_row) found)
    where
      by : (o : Option (List ℕ)) → cell_under old e ≡ option_map (λ own. cell_by (not (is_invalid r.kept.state)) own r.counts) o → (own : List ℕ) × (cell_under old e ≡ Some (cell_by (not (is_invalid r.kept.state)) own r.counts))
      by None k = let gone : is_some (cell_under old e) ≡ false = ap (λ (x : Option Cell). is_some x) k in absurd cc
      by (Some own) k = (own, k)

  pub room : (q : Request) → kept_of table q.id ≡ None → has_element table q ≡ true → length table < 2 ^ 32 - 1 → HasRoomUnder old q
  room q absent has few other r found =
      let cell = row_cell (element_of q) r (has_cell q has other) found in
      let below : length (counted_of table) < 2 ^ 32 - 1 = omega (arith, few, few_counted table) in
      grant_room (cell_under old) (requests_kept table) (counted_of table) q h.cells (counted_absent table q.id absent) below (cell_by (not (is_invalid r.kept.state)) cell.0 r.counts) cell.1

  -- a new request isn't the element that another edit is of
  pub apart : (q : Request) → kept_of table q.id ≡ None → has_element table q ≡ true → is_insert q.edit ≡ false → name_eq q.id (element_of q) ≡ false
  apart q absent has other = by (name_eq q.id (element_of q)) refl
    where
      by : (b : Bool) → name_eq q.id (element_of q) ≡ b → b ≡ false
      by false k = refl
      by true k =
          let none : is_some (cell_under old (element_of q)) ≡ false = ap (λ (n : Name). is_some (cell_under old n)) (sym (same_name q.id (element_of q) k)) ∙ ap (λ (o : Option Row). is_some (option_and_then cell_of_row o)) (row_absent q.id absent) in
          let some : is_some (cell_under old (element_of q)) ≡ true = has_cell q has other in
          absurd cc

  -- ---- a new request

  module _ (new : List (Name × Row)) (q : Request) (state : State) (absent : kept_of table q.id ≡ None)
      (kept : kept_rows new ≡ insert_entry name_cmp (kept_rows old) q.id (record { request = q; state = state })) where
    pub entries_joined : kept_rows new ≡ keyed_states (with_request table q state)
    entries_joined = kept ∙ keyed-insert table (kept_rows old) q state h.lines.keyed_by_name absent

    pub values_joined : values_of (kept_rows new) ≡ with_request table q state
    values_joined = values_made (kept_rows new) (with_request table q state) entries_joined

    pub table_joined : (left : List Place) → has_element table q ≡ true → ((e : Name) → cell_under new e ≡ cell_joined (cell_under old) q state e)
        → ((p : Place) → has_place left p ≡ (has_place places p || (is_tentative state && is_place_of q.id p))) → IsStateTable new left
    table_joined left has changed up = record {
      lines = state_table_made (kept_rows new) (with_request table q state) left entries_joined
          (subst (λ (es : List (Name × Kept)). IsStrictlySortedBy name_cmp (keys_of es)) (sym kept) (ordered_insert name_cmp_total (kept_rows old) q.id (record { request = q; state = state }) h.lines.ordered))
          (lined-add table places left q state h.lines.lined up);
      cells = subst (λ (t : List Kept). AreCellsOf (cell_under new) (requests_kept t) (counted_of t)) (sym values_joined)
          (subst (λ (qs : List Request). AreCellsOf (cell_under new) (requests_kept (with_request table q state)) qs) (sym (counted-put (record { request = q; state = state }) table (sorted_values (kept_rows old) places h.lines)))
          (subst (λ (qs : List Request). AreCellsOf (cell_under new) qs (if is_invalid state then counted_of table else including q (counted_of table))) (sym (requests-put (record { request = q; state = state }) table))
          (cells-joined (cell_under old) q (requests_kept table) (counted_of table) h.cells (requests_found table q.id ∙ ap (option_map (λ (k : Kept). k.request)) absent) (counted_absent table q.id absent)
          (has_cell q has) (cell_under new) state changed)));
    }

  -- ---- another state

  pub waiting : (n : Name) → kept_state table n ≡ Some Tentative → (r : Row) → row_under old n ≡ Some r → IsWaiting old n r
  waiting n waits r found =
      let there = kept_row n r found in
      let same : Some r.kept.state ≡ Some Tentative = sym (ap (option_map (λ (x : Kept). x.state)) there) ∙ waits in
      record {
        found = found;
        named = found_id (requests_kept table) n r.kept.request (requests_found table n ∙ ap (option_map (λ (x : Kept). x.request)) there);
        state = cc;
      }

  pub waiting_row : (n : Name) → kept_state table n ≡ Some Tentative → (r : Row) × IsWaiting old n r
  waiting_row n waits = by (row_under old n) refl
    where
      by : (o : Option Row) → row_under old n ≡ o → (r : Row) × IsWaiting old n r
      by None k =
          let gone : kept_state table n ≡ None = ap (option_map (λ (x : Kept). x.state)) (sym (lookup_kept (kept_rows old) places h.lines n) ∙ lookup_rows n old ∙ ap (option_map (λ (x : Row). x.kept)) k) in
          absurd cc
      by (Some r) k = (r, waiting n waits r k)

  module _ (n : Name) (r : Row) (w : IsWaiting old n r) where
    pub waiting_counts : request_of (counted_of table) r.kept.request.id ≡ Some r.kept.request
    waiting_counts =
        tentative_counts r.kept.request table
        (ap (kept_of table) w.named ∙ kept_row n r w.found ∙ ap (λ (s : State). let k : Kept = record { request = r.kept.request; state = s } in Some k) w.state)

    pub waiting_cut : (s : Row) → row_under old (element_of r.kept.request) ≡ Some s → has_cut (right_of r.kept.request.edit) s.counts.cuts ≡ true
    waiting_cut s found =
        let there = found_all (λ q. is_some (cell_under old (element_of q))) (counted_of table) r.kept.request.id r.kept.request h.cells.elements waiting_counts in
        let cell = row_cell (element_of r.kept.request) s there found in
        withdraw_cut (cell_under old) (requests_kept table) (counted_of table) r.kept.request h.cells waiting_counts (cell_by (not (is_invalid s.kept.state)) cell.0 s.counts) cell.1

    -- of the rows after a change of the state
    module _ (new : List (Name × Row)) (left : List Place) (state : State) (written : kept_rows new ≡ keyed_states (with_state table n state)) (ordered : IsStrictlySortedBy name_cmp (keys_of (kept_rows new)))
        (ends : is_tentative state ≡ false) (up : (p : Place) → has_place left p ≡ (has_place places p && not (is_place_of n p))) where
      table_set : AreCellsOf (cell_under new) (requests_kept table) (counted_of (with_state table n state)) → IsStateTable new left
      table_set cells = record {
        lines = state_table_made (kept_rows new) (with_state table n state) left written ordered (lined-set table places left n state ends h.lines.lined up);
        cells = subst (λ (t : List Kept). AreCellsOf (cell_under new) (requests_kept t) (counted_of t)) (sym (values_made (kept_rows new) (with_state table n state) written))
            (subst (λ (qs : List Request). AreCellsOf (cell_under new) qs (counted_of (with_state table n state))) (sym (requests-set table n state)) cells);
      }

      pub table_confirmed : is_invalid state ≡ false → ((e : Name) → cell_under new e ≡ (if name_eq n e then option_map (cell_in_state state) (cell_under old e) else cell_under old e)) → IsStateTable new left
      table_confirmed counts changed =
          table_set (subst (λ (qs : List Request). AreCellsOf (cell_under new) (requests_kept table) qs) (sym (counted_set n state table counts (sorted_values (kept_rows old) places h.lines) has))
          (record {
            cells_of = λ e. same e ∙ h.cells.cells_of e;
            once = h.cells.once;
            elements = still_cells (cell_under old) (cell_under new) (λ e there. ap (λ (o : Option Cell). is_some o) (same e) ∙ there) (counted_of table) h.cells.elements;
          }))
        where
          has : kept_state table n ≡ Some Tentative
          has = ap (option_map (λ (x : Kept). x.state)) (kept_row n r w.found) ∙ ap (λ (s : State). Some s) w.state

          made : not (is_invalid r.kept.state) ≡ not (is_invalid state)
          made = ap (λ (s : State). not (is_invalid s)) w.state ∙ ap (λ (b : Bool). not b) (sym counts)

          in_row : (o : Option (List ℕ)) → option_map (cell_in_state state) (option_map (λ own. cell_by (not (is_invalid r.kept.state)) own r.counts) o) ≡ option_map (λ own. cell_by (not (is_invalid r.kept.state)) own r.counts) o
          in_row None = refl
          in_row (Some own) = ap (λ (b : Bool). Some (cell_by b own r.counts)) (sym made)

          at_row : option_map (cell_in_state state) (cell_under old n) ≡ cell_under old n
          at_row = subst (λ (o : Option Row). option_map (cell_in_state state) (option_and_then cell_of_row o) ≡ option_and_then cell_of_row o) (sym w.found) (in_row (own_of r.kept.request))

          same : (e : Name) → cell_under new e ≡ cell_under old e
          same e = changed e ∙ by (name_eq n e) refl
            where
              by : (b : Bool) → name_eq n e ≡ b → (if b then option_map (cell_in_state state) (cell_under old e) else cell_under old e) ≡ cell_under old e
              by true k = subst (λ (m : Name). option_map (cell_in_state state) (cell_under old m) ≡ cell_under old m) (same_name n e k) at_row
              by false k = refl

      pub table_denied : (mid : List (Name × Row)) (at : ℕ) (a : Option ℕ) → state ≡ Invalid at a → ((e : Name) → cell_under mid e ≡ cell_discounted (cell_under old) r.kept.request e)
          → ((e : Name) → cell_under new e ≡ (if name_eq n e then option_map (cell_in_state state) (cell_under mid e) else cell_under mid e)) → IsStateTable new left
      table_denied mid at a is less changed =
          table_set (subst (λ (qs : List Request). AreCellsOf (cell_under new) (requests_kept table) qs) (sym counted)
          (table-withdraw (cell_under old) (cell_under new) r.kept.request (requests_kept table) (counted_of table) each h.cells waiting_counts))
        where
          counted : counted_of (with_state table n state) ≡ except (counted_of table) r.kept.request.id
          counted = ap (λ (s : State). counted_of (with_state table n s)) is ∙ counted_without table n at a ∙ ap (except (counted_of table)) (sym w.named)

          denies : (c : Cell) → cell_in_state state c ≡ record { made = false; cuts = c.cuts; letters = c.letters; own = c.own }
          denies c = ap (λ (s : State). cell_in_state s c) is

          one : (edit : Edit) → is_insert edit ≡ true → (c : Cell) → cell_in_state state c ≡ with_one_fewer r.kept.request.id edit c
          one (Insert after letter) k c = denies c
          one (Delete target) k c = absurd cc
          one (Update target letter) k c = absurd cc

          -- an insert: its own cell is made no more
          insert_here : (e : Name) (o : Option Cell) → is_insert r.kept.request.edit ≡ true → name_eq n e ≡ true → option_map (cell_in_state state) o ≡ option_map (cell_less e r.kept.request) o
          insert_here e None k j = refl
          insert_here e (Some c) k j = ap (λ x. Some x) (one r.kept.request.edit k c
              ∙ ap (λ (b : Bool). if b then with_one_fewer r.kept.request.id r.kept.request.edit c else c) (sym (ap (λ (m : Name). name_eq m e) (own_element r.kept.request k ∙ w.named) ∙ j)))

          insert_else : (e : Name) (o : Option Cell) → is_insert r.kept.request.edit ≡ true → name_eq n e ≡ false → o ≡ option_map (cell_less e r.kept.request) o
          insert_else e None k j = refl
          insert_else e (Some c) k j = ap (λ x. Some x) (sym (less_elsewhere r.kept.request e c (ap (λ (m : Name). name_eq m e) (own_element r.kept.request k ∙ w.named) ∙ j)))

          -- another: its row is no element's
          none_here : (e : Name) → is_insert r.kept.request.edit ≡ false → name_eq n e ≡ true → cell_under old e ≡ None
          none_here e k j =
              ap (cell_under old) (sym (same_name n e j)) ∙ ap (option_and_then cell_of_row) w.found
              ∙ ap (λ (b : Bool). option_map (λ own. cell_by (not (is_invalid r.kept.state)) own r.counts) (given b (piece_in r.kept.request.edit))) k

          each : (e : Name) → cell_under new e ≡ option_map (cell_less e r.kept.request) (cell_under old e)
          each e =
              changed e ∙ ap (λ (o : Option Cell). if name_eq n e then option_map (cell_in_state state) o else o) (less e)
              ∙ by (is_insert r.kept.request.edit) refl (name_eq n e) refl
            where
              by : (b : Bool) → is_insert r.kept.request.edit ≡ b → (same : Bool) → name_eq n e ≡ same
                  → (if same then option_map (cell_in_state state) (if b then cell_under old e else option_map (cell_less e r.kept.request) (cell_under old e)) else (if b then cell_under old e else option_map (cell_less e r.kept.request) (cell_under old e)))
                  ≡ option_map (cell_less e r.kept.request) (cell_under old e)
              by true k true j = insert_here e (cell_under old e) k j
              by true k false j = insert_else e (cell_under old e) k j
              by false k false j = refl
              by false k true j =
                  ap (λ (o : Option Cell). option_map (cell_in_state state) (option_map (cell_less e r.kept.request) o)) (none_here e k j)
                  ∙ sym (ap (option_map (cell_less e r.kept.request)) (none_here e k j))
