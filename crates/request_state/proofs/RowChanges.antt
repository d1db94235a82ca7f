-- Rows after a change: what is kept in them, and the cells.
use Rattle.std.proofs.Common.{◌≡◌, ℕ, Bool, true, false, not, cond, ◌&&◌, ◌||◌, List, [], ◌∷◌, None, Some, Ok, Err, Result, OnOk, OnErr, refl, sym, ap, subst, ◌∙◌, if◌then◌else◌}
use Rattle.std.specs.Prelude.{option_and_then}
use Rattle.std.specs.declared.option.Option.{Option}
use Rattle.std.specs.declared.cmp.Ordering.{Ordering}
use Rattle.std.specs.declared.cmp.Ordering.TheVariants.{Less, Equal, Greater}
use Rattle.std.specs.Ordering.{match_ordering}
use Rattle.std.specs.Option.{option_map}
use Rattle.std.specs.Map.{lookup, set_value, keys_of, remove_entry}
use Rattle.std.specs.BTreeMap.{is_at, insert_entry}
use Rattle.std.specs.List.Sorted.{IsStrictlySortedBy}
use Rattle.element_name.specs.Name.{Name, name_eq}
use Rattle.element_name.specs.Named.{name_cmp, item_named, without_named}
use Rattle.element_name.proofs.NameOrder.{is_eq-name_cmp, name_eq-refl, name_eq-comm, same_name}
use Rattle.element_name.proofs.NamedLemmas.{lookup_named, insert_named, remove_named, without_named-put}
use Rattle.element_name.proofs.CaseLemmas.{option_map-None}
use Rattle.element_name.specs.Cases.{given}
use Rattle.coop_request.specs.Edit.{is_insert, right_of, piece_in}
use Rattle.coop_request.specs.Request.{Request, element_of}
use Rattle.elem_show.specs.Cell.{Cell, Counts, cell_by, own_of}
use Rattle.elem_show.specs.Counting.{with_one_more, with_one_fewer, cell_with, cell_less, counts_more, counts_less}
use Rattle.elem_show.proofs.Cells.{counted_more, counted_less, with_elsewhere, less_elsewhere}
use Rattle.request_state.specs.declared.row.Row.{Row}
use Rattle.request_state.specs.declared.state.State.{State}
use Rattle.request_state.specs.State.{is_invalid}
use Rattle.request_state.specs.Rows.{cell_of_row, kept_rows, row_under, cell_under, new_row, cell_counted, cell_joined}

-- ---- what is kept

pub lookup_rows : (n : Name) (rows : List (Name × Row)) → lookup (is_at (name_cmp n)) (kept_rows rows) ≡ option_map (λ (r : Row). r.kept) (row_under rows n)
lookup_rows n [] = refl
lookup_rows n (x ∷ rows) = by (is_at (name_cmp n) x.0) (lookup_rows n rows)
  where
    by : (b : Bool) → lookup (is_at (name_cmp n)) (kept_rows rows) ≡ option_map (λ (r : Row). r.kept) (row_under rows n)
        → cond b (Some x.1.kept) (lookup (is_at (name_cmp n)) (kept_rows rows)) ≡ option_map (λ (r : Row). r.kept) (cond b (Some x.1) (row_under rows n))
    by true rest = refl
    by false rest = rest

pub keys_rows : (rows : List (Name × Row)) → keys_of (kept_rows rows) ≡ keys_of rows
keys_rows [] = refl
keys_rows (x ∷ rows) = ap (λ ns. x.0 ∷ ns) (keys_rows rows)

pub insert_rows : (rows : List (Name × Row)) (n : Name) (r : Row) → kept_rows (insert_entry name_cmp rows n r) ≡ insert_entry name_cmp (kept_rows rows) n r.kept
insert_rows [] n r = refl
insert_rows (x ∷ rows) n r = by (name_cmp n x.0) (insert_rows rows n r)
  where
    by : (o : Ordering) → kept_rows (insert_entry name_cmp rows n r) ≡ insert_entry name_cmp (kept_rows rows) n r.kept
        → kept_rows (match_ordering o ((n, r) ∷ x ∷ rows) ((x.0, r) ∷ rows) (x ∷ insert_entry name_cmp rows n r))
        ≡ match_ordering o ((n, r.kept) ∷ kept_rows (x ∷ rows)) ((x.0, r.kept) ∷ kept_rows rows) ((x.0, x.1.kept) ∷ insert_entry name_cmp (kept_rows rows) n r.kept)
    by Less rest = refl
    by Equal rest = refl
    by Greater rest = ap (λ es. (x.0, x.1.kept) ∷ es) rest

pub set_rows : (test : Name → Bool) (rows : List (Name × Row)) (w : Row) → kept_rows (set_value test rows w) ≡ set_value test (kept_rows rows) w.kept
set_rows test [] w = refl
set_rows test (x ∷ rows) w = by (test x.0) (set_rows test rows w)
  where
    by : (b : Bool) → kept_rows (set_value test rows w) ≡ set_value test (kept_rows rows) w.kept
        → kept_rows (cond b ((x.0, w) ∷ rows) (x ∷ set_value test rows w)) ≡ cond b ((x.0, w.kept) ∷ kept_rows rows) ((x.0, x.1.kept) ∷ set_value test (kept_rows rows) w.kept)
    by true rest = refl
    by false rest = ap (λ es. (x.0, x.1.kept) ∷ es) rest

-- a value that is written over itself
pub set_value-same : {X : Type 0} (test : Name → Bool) (es : List (Name × X)) (c : X) → Some c ≡ lookup test es → set_value test es c ≡ es
set_value-same test [] c h = refl
set_value-same {X = X} test (x ∷ es) c h = by (test x.0) h (set_value-same test es c)
  where
    by : (b : Bool) → Some c ≡ cond b (Some x.1) (lookup test es) → (Some c ≡ lookup test es → set_value test es c ≡ es) → cond b ((x.0, c) ∷ es) (x ∷ set_value test es c) ≡ x ∷ es
    by true k rest = let same : c ≡ x.1 = cc in ap (λ (y : X). (x.0, y) ∷ es) same
    by false k rest = ap (λ ys. x ∷ ys) (rest k)

-- a row that is written over another of the same request and state
pub kept_same : (n : Name) (rows : List (Name × Row)) (r w : Row) → Some r ≡ row_under rows n → w.kept ≡ r.kept → kept_rows (set_value (is_at (name_cmp n)) rows w) ≡ kept_rows rows
kept_same n rows r w found same =
    set_rows (is_at (name_cmp n)) rows w ∙ ap (set_value (is_at (name_cmp n)) (kept_rows rows)) same
    ∙ set_value-same (is_at (name_cmp n)) (kept_rows rows) r.kept (ap (option_map (λ (x : Row). x.kept)) found ∙ sym (lookup_rows n rows))

-- a row that is put in and taken out again
pub put_and_out : (old mid new : List (Name × Row)) (n m : Name) (r : Row) → row_under old n ≡ None → mid ≡ insert_entry name_cmp old n r → IsStrictlySortedBy name_cmp (keys_of mid) → m ≡ n
    → new ≡ remove_entry (is_at (name_cmp m)) mid → new ≡ old
put_and_out old mid new n m r absent put sorted same out =
    let none : item_named (λ (x : Name × Row). x.0) n old ≡ None = option_map-None (λ (x : Name × Row). x.1) (item_named (λ x. x.0) n old) (sym (lookup_named n old) ∙ absent) in
    out ∙ ap (λ (k : Name). remove_entry (is_at (name_cmp k)) mid) same ∙ remove_named n mid sorted
    ∙ ap (λ (rows : List (Name × Row)). without_named (λ (x : Name × Row). x.0) n rows) (put ∙ insert_named n r old none)
    ∙ without_named-put (λ (x : Name × Row). x.0) (n, r) old none

-- ---- the cells

-- after a row was written, put in or taken out
pub cell_in-update : (old new : List (Name × Row)) (n : Name) (w : Option Row) → ((q : Name) → lookup (is_at (name_cmp q)) new ≡ cond (is_at (name_cmp n) q) w (lookup (is_at (name_cmp q)) old))
    → (e : Name) → cell_under new e ≡ (if name_eq n e then option_and_then cell_of_row w else cell_under old e)
cell_in-update old new n w h e = ap (option_and_then cell_of_row) (h e ∙ ap (λ (b : Bool). cond b w (row_under old e)) (is_eq-name_cmp n e)) ∙ by (name_eq n e)
  where
    by : (b : Bool) → option_and_then cell_of_row (cond b w (row_under old e)) ≡ (if b then option_and_then cell_of_row w else cell_under old e)
    by true = refl
    by false = refl

map_map : {A B C : Type 0} (f : A → B) (g : B → C) (h : A → C) → ((x : A) → h x ≡ g (f x)) → (o : Option A) → option_map h o ≡ option_map g (option_map f o)
map_map f g h e None = refl
map_map f g h e (Some x) = ap (λ y. Some y) (e x)

-- where a row was written at an element's name, and each cell elsewhere is as before
changed_at : (old new : List (Name × Row)) (n : Name) (r w : Row) (f : Name → Cell → Cell) → Some r ≡ row_under old n
    → ((q : Name) → lookup (is_at (name_cmp q)) new ≡ cond (is_at (name_cmp n) q) (Some w) (lookup (is_at (name_cmp q)) old))
    → cell_of_row w ≡ option_map (f n) (cell_of_row r) → ((e : Name) (x : Cell) → name_eq n e ≡ false → f e x ≡ x) → (e : Name) → cell_under new e ≡ option_map (f e) (cell_under old e)
changed_at old new n r w f found written here other e = cell_in-update old new n (Some w) written e ∙ by (name_eq n e) refl
  where
    kept : (o : Option Cell) → name_eq n e ≡ false → o ≡ option_map (f e) o
    kept None h = refl
    kept (Some x) h = ap (λ y. Some y) (sym (other e x h))

    by : (b : Bool) → name_eq n e ≡ b → (if b then cell_of_row w else cell_under old e) ≡ option_map (f e) (cell_under old e)
    by true h = subst (λ (m : Name). cell_of_row w ≡ option_map (f m) (cell_under old m)) (same_name n e h) (here ∙ ap (λ (o : Option Row). option_map (f n) (option_and_then cell_of_row o)) found)
    by false h = kept (cell_under old e) h

module _ (old new : List (Name × Row)) (q : Request) (at : Name) (r w : Row) (is_at_element : at ≡ element_of q) (other : is_insert q.edit ≡ false) (found : Some r ≡ row_under old at)
    (written : (m : Name) → lookup (is_at (name_cmp m)) new ≡ cond (is_at (name_cmp at) m) (Some w) (lookup (is_at (name_cmp m)) old)) where
  here_true : name_eq (element_of q) at ≡ true
  here_true = ap (name_eq (element_of q)) is_at_element ∙ name_eq-refl (element_of q)

  pub counted_there : w ≡ record { kept = r.kept; counts = counts_more q.id q.edit r.counts } → (e : Name) → cell_under new e ≡ option_map (cell_with e q) (cell_under old e)
  counted_there is_w = changed_at old new at r w (λ e. cell_with e q) found written (ap cell_of_row is_w ∙ map_map _ _ _ each (own_of r.kept.request))
      (λ e x apart. with_elsewhere q e x (ap (λ (n : Name). name_eq n e) (sym is_at_element) ∙ apart))
    where
      each : (own : List ℕ) → cell_by (not (is_invalid r.kept.state)) own (counts_more q.id q.edit r.counts) ≡ cell_with at q (cell_by (not (is_invalid r.kept.state)) own r.counts)
      each own = counted_more q.id q.edit (not (is_invalid r.kept.state)) own r.counts other
          ∙ ap (λ (b : Bool). if b then with_one_more q.id q.edit (cell_by (not (is_invalid r.kept.state)) own r.counts) else cell_by (not (is_invalid r.kept.state)) own r.counts) (sym here_true)

  pub discounted_there : w ≡ record { kept = r.kept; counts = counts_less q.id (right_of q.edit) r.counts } → (e : Name) → cell_under new e ≡ option_map (cell_less e q) (cell_under old e)
  discounted_there is_w = changed_at old new at r w (λ e. cell_less e q) found written (ap cell_of_row is_w ∙ map_map _ _ _ each (own_of r.kept.request))
      (λ e x apart. less_elsewhere q e x (ap (λ (n : Name). name_eq n e) (sym is_at_element) ∙ apart))
    where
      each : (own : List ℕ) → cell_by (not (is_invalid r.kept.state)) own (counts_less q.id (right_of q.edit) r.counts) ≡ cell_less at q (cell_by (not (is_invalid r.kept.state)) own r.counts)
      each own = counted_less q.id q.edit (not (is_invalid r.kept.state)) own r.counts other
          ∙ ap (λ (b : Bool). if b then with_one_fewer q.id q.edit (cell_by (not (is_invalid r.kept.state)) own r.counts) else cell_by (not (is_invalid r.kept.state)) own r.counts) (sym here_true)

  pub row_there : row_under new (element_of q) ≡ Some w
  row_there = written (element_of q) ∙ ap (λ (b : Bool). cond b (Some w) (row_under old (element_of q))) (is_eq-name_cmp at (element_of q) ∙ name_eq-comm at (element_of q) ∙ here_true)

-- where there is no such row
pub changed_none : (old : List (Name × Row)) (n : Name) (f : Name → Cell → Cell) → row_under old n ≡ None → ((e : Name) (x : Cell) → name_eq n e ≡ false → f e x ≡ x)
    → (e : Name) → cell_under old e ≡ option_map (f e) (cell_under old e)
changed_none old n f none other e = by (name_eq n e) refl (cell_under old e) refl
  where
    by : (b : Bool) → name_eq n e ≡ b → (o : Option Cell) → cell_under old e ≡ o → o ≡ option_map (f e) o
    by b h None k = refl
    by false h (Some x) k = ap (λ y. Some y) (sym (other e x h))
    by true h (Some x) k =
        let gone : cell_under old e ≡ None = ap (cell_under old) (sym (same_name n e h)) ∙ ap (option_and_then cell_of_row) none in
        absurd (cc)

-- the row of a name
pub row_found : (rows : List (Name × Row)) (at n : Name) (r : Row) → at ≡ n → Some r ≡ lookup (is_at (name_cmp at)) rows → row_under rows n ≡ Some r
row_found rows at n r same found = ap (row_under rows) (sym same) ∙ sym found

-- a row that was written by a call that may fail keeps the request and the state
pub kept_either : {A E : Type 0} (r w : Row) (counts : Counts) (result : Result A E) → OnOk result (w ≡ record { kept = r.kept; counts = counts }) → OnErr result (w ≡ r) → w.kept ≡ r.kept
kept_either r w counts (Ok x) ok err = ap (λ (y : Row). y.kept) ok
kept_either r w counts (Err x) ok err = ap (λ (y : Row). y.kept) err

-- elsewhere each row is as before
pub row_elsewhere : (old new : List (Name × Row)) (n m : Name) (w : Option Row) → ((q : Name) → lookup (is_at (name_cmp q)) new ≡ cond (is_at (name_cmp n) q) w (lookup (is_at (name_cmp q)) old))
    → name_eq n m ≡ false → row_under new m ≡ row_under old m
row_elsewhere old new n m w h apart = h m ∙ ap (λ (b : Bool). cond b w (row_under old m)) (is_eq-name_cmp n m ∙ apart)

-- the cells, once a request has a row and counts
pub cells_entered : (old mid new : List (Name × Row)) (q : Request) (state : State) (n : Name) (r : Row) → n ≡ q.id → r ≡ new_row q state → row_under old q.id ≡ None
    → ((m : Name) → lookup (is_at (name_cmp m)) mid ≡ cond (is_at (name_cmp n) m) (Some r) (lookup (is_at (name_cmp m)) old))
    → ((e : Name) → cell_under new e ≡ cell_counted (cell_under mid) q state e) → (e : Name) → cell_under new e ≡ cell_joined (cell_under old) q state e
cells_entered old mid new q state n r is_name is_row absent put counted e =
    counted e
    ∙ ap (λ (c : Option Cell). if is_insert q.edit || is_invalid state then c else option_map (cell_with e q) c)
    (cell_in-update old mid n (Some r) put e ∙ ap (λ (m : Name). if name_eq m e then cell_of_row r else cell_under old e) is_name ∙ ap (λ (x : Row). if name_eq q.id e then cell_of_row x else cell_under old e) is_row)
    ∙ by (is_insert q.edit) refl (name_eq q.id e) refl (is_invalid state)
  where
    no_row : name_eq q.id e ≡ true → cell_under old e ≡ None
    no_row h = ap (cell_under old) (sym (same_name q.id e h)) ∙ ap (option_and_then cell_of_row) absent

    no_cell : is_insert q.edit ≡ false → cell_of_row (new_row q state) ≡ None
    no_cell h = ap (λ (b : Bool). option_map (λ own. cell_by (not (is_invalid state)) own (record { cuts = 0; letters = [] })) (given b (piece_in q.edit))) h

    by : (b : Bool) → is_insert q.edit ≡ b → (same : Bool) → name_eq q.id e ≡ same → (i : Bool)
        → (if b || i then (if same then cell_of_row (new_row q state) else cell_under old e) else option_map (cell_with e q) (if same then cell_of_row (new_row q state) else cell_under old e))
        ≡ (if b && same then cell_of_row (new_row q state) else (if b || i then cell_under old e else option_map (cell_with e q) (cell_under old e)))
    by true h true k i = refl
    by true h false k i = refl
    by false h true k true = no_cell h ∙ sym (no_row k)
    by false h true k false = ap (option_map (cell_with e q)) (no_cell h ∙ sym (no_row k))
    by false h false k true = refl
    by false h false k false = refl
