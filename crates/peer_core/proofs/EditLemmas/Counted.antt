-- One more request that counts, and is newer than the others.
use Rattle.std.proofs.Common.{◌≡◌, ℕ, ◌+◌, ◌-◌, ◌<◌, zero, suc, inl, inr, Bool, true, false, not, cond, ◌&&◌, List, [], ◌∷◌, ◌++◌, length, None, Some, refl, ap, sym, ◌∙◌, arith, length-append, drop}
use Rattle.std.specs.Prelude.{map, nat_lt, nat_eq, filter, filter_map, slice_get, option_map, option_and_then}
use Rattle.std.specs.declared.option.Option.{Option}
use Rattle.std.specs.Option.{option_map_or}
use Rattle.std.specs.List.{list_any, list_all, prefix_len, cons_option}
use Rattle.std.proofs.lemmas.Bool.{and_parts, and_from, and_left, and_right, or_from, or_left, or_right, not-true, not_from_false, le-ltb, ne_eqb}
use Rattle.std.proofs.lemmas.Option.{cond_some}
use Rattle.element_name.specs.Cases.{when}
use Rattle.element_name.proofs.EachAfterLemmas.{EachAfter-push}
use Rattle.element_name.specs.Name.{Name, name_eq, name_lt, has_name, are_distinct}
use Rattle.element_name.specs.Named.{put_named, in_name_order}
use Rattle.element_name.proofs.NameOrder.{name_eq-refl, name_eq-comm}
use Rattle.coop_request.specs.declared.edit.Edit.{Edit}
use Rattle.coop_request.specs.declared.edit.Edit.TheVariants as edits
use Rattle.coop_request.specs.Request.{Request, element_of}
use Rattle.coop_request.specs.History.{elements_of, text_order, FollowsHistory}
use Rattle.coop_request.proofs.Histories.{new_element}
use Rattle.policy_book.specs.Entry.{Entry}
use Rattle.request_state.specs.State.{is_invalid}
use Rattle.check_remote.specs.State.{is_granted}
use Rattle.elem_show.specs.Cell.{Cell, cell_from, own_of, own_piece, letters_of, update_of, shown}
use Rattle.elem_show.specs.Counting.{with_one_more}
use Rattle.elem_show.specs.Text.{shown_of}
use Rattle.elem_show.proofs.Cells.{cell_from-cons, cell_from-snoc}
use Rattle.elem_show.proofs.Orders.{own_piece-found}
use Rattle.tomb_seq.proofs.Has.{Has}
use Rattle.peer_tables.specs.Derived.{state_in, counted_in, greatest_stamp}
use Rattle.peer_tables.specs.Kept.{AreKnown}
use Rattle.peer_tables.proofs.HistoryLemmas.{once_law, element_there}
use Rattle.peer_tables.proofs.KeptLemmas.Tables.{granted_valid}
use Rattle.peer_tables.proofs.KeptLemmas.OneMore.{found_own, found_other, counted_push, not_counted, cell_more}
use Rattle.peer_core.proofs.AnswerLemmas.Edits.{named, named_below}
use Rattle.peer_core.proofs.EditLemmas.Pieces.{apart}

-- ---- a request whose stamp is the greatest

has_named : (R : List Request) (r : Request) → Has R r → list_any (λ s. name_eq s.id r.id) R ≡ true
has_named [] r h = absurd h
has_named (s ∷ R) r (inl same) =
    or_left (name_eq s.id r.id) (list_any (λ t. name_eq t.id r.id) R) (ap (λ (t : Request). name_eq t.id r.id) same ∙ name_eq-refl r.id)
has_named (s ∷ R) r (inr h) = or_right (name_eq s.id r.id) (list_any (λ t. name_eq t.id r.id) R) (has_named R r h)

not_less : (id n : Name) → n.stamp < id.stamp → name_lt id n ≡ false
not_less id n h =
    or_from (nat_lt id.stamp n.stamp) (nat_eq id.stamp n.stamp && nat_lt id.site n.site) (le-ltb id.stamp n.stamp (omega (arith, h)))
    (and_left (nat_eq id.stamp n.stamp) (nat_lt id.site n.site) (ne_eqb id.stamp n.stamp (λ (same : id.stamp ≡ n.stamp). absurd (omega (arith, h, same)))))

older_request : (R : List Request) (id : Name) (r : Request) → greatest_stamp R < id.stamp → Has R r → name_lt id r.id ≡ false
older_request R id r newer h = not_less id r.id (let old = named_below R 0 r.id (has_named R r h) in omega (arith, old, newer))

pub older_element : (R : List Request) (id n : Name) → greatest_stamp R < id.stamp → has_name (elements_of R) n ≡ true → name_lt id n ≡ false
older_element R id n newer h = not_less id n (let old = named_below R 0 n (named R n h) in omega (arith, old, newer))

in_filtered : {X : Type 0} (test : X → Bool) (xs : List X) (x : X) → Has (filter test xs) x → Has xs x
in_filtered test [] x h = h
in_filtered test (y ∷ xs) x h = by (test y) (in_filtered test xs x) h
  where
    by : (b : Bool) → (Has (filter test xs) x → Has xs x) → Has (cond b (y ∷ filter test xs) (filter test xs)) x → Has (y ∷ xs) x
    by true more (inl same) = inl same
    by true more (inr h) = inr (more h)
    by false more h = inr (more h)

-- no name is greater: a new element stands right after its anchor
pub none_greater : (id : Name) (names : List Name) (k : ℕ) → ((e : Name) → has_name names e ≡ true → name_lt id e ≡ false) → prefix_len (name_lt id) (drop k names) ≡ 0
none_greater id [] zero older = refl
none_greater id [] (suc k) older = refl
none_greater id (m ∷ names) zero older = rw (older m (or_left (name_eq m m) (has_name names m) (name_eq-refl m))) refl
none_greater id (m ∷ names) (suc k) older = none_greater id names k (λ e h. older e (or_right (name_eq e m) (has_name names e) h))

-- ---- the cell of the edit's element

-- of requests of other elements an element has an empty cell
no_cells : (e : Name) (own : List ℕ) (Q : List Request) → ((r : Request) → Has Q r → name_eq (element_of r) e ≡ false)
    → ◌≡◌ {A = Cell} (cell_from e own Q) (record { made = false; cuts = 0; letters = []; own = own })
no_cells e own [] other = refl
no_cells e own (r ∷ Q) other = cell_from-cons e r own Q ∙ rw (other r (inl refl)) (no_cells e own Q (λ s h. other s (inr h)))

-- a letter of the greatest name is the last
put_last : (x : Name × List ℕ) (ls : List (Name × List ℕ)) → list_all (λ y. not (name_lt x.0 y.0)) ls ≡ true → put_named (λ (y : Name × List ℕ). y.0) x ls ≡ ls ++ x ∷ []
put_last x [] all = refl
put_last x (y ∷ ls) all =
    let parts = and_parts (not (name_lt x.0 y.0)) (list_all (λ z. not (name_lt x.0 z.0)) ls) all in
    rw (not-true (name_lt x.0 y.0) parts.0) (ap (λ (zs : List (Name × List ℕ)). y ∷ zs) (put_last x ls parts.1))

put_all : (p : Name × List ℕ → Bool) (x : Name × List ℕ) (ls : List (Name × List ℕ)) → p x ≡ true → list_all p ls ≡ true → list_all p (put_named (λ (y : Name × List ℕ). y.0) x ls) ≡ true
put_all p x [] here all = and_from (p x) true here refl
put_all p x (y ∷ ls) here all = by (name_lt x.0 y.0) (put_all p x ls here (and_parts (p y) (list_all p ls) all).1)
  where
    by : (b : Bool) → list_all p (put_named (λ (z : Name × List ℕ). z.0) x ls) ≡ true
        → list_all p (cond b (x ∷ y ∷ ls) (y ∷ put_named (λ (z : Name × List ℕ). z.0) x ls)) ≡ true
    by true more = and_from (p x) (list_all p (y ∷ ls)) here all
    by false more = and_from (p y) (list_all p (put_named (λ (z : Name × List ℕ). z.0) x ls)) (and_parts (p y) (list_all p ls) all).0 more

update_named : (p : Name × List ℕ → Bool) (e id : Name) (edit : Edit) (rest : List (Name × List ℕ)) → ((letter : List ℕ) → p (id, letter) ≡ true) → list_all p (in_name_order (λ (y : Name × List ℕ). y.0) rest) ≡ true
    → list_all p (in_name_order (λ (y : Name × List ℕ). y.0) (cons_option (update_of e id edit) rest)) ≡ true
update_named p e id (edits.Insert after letter) rest here all = all
update_named p e id (edits.Delete target) rest here all = all
update_named p e id (edits.Update target letter) rest here all = by (name_eq target e)
  where
    by : (b : Bool) → list_all p (in_name_order (λ (y : Name × List ℕ). y.0) (cons_option (when b (id, letter)) rest)) ≡ true
    by true = put_all p (id, letter) (in_name_order (λ (y : Name × List ℕ). y.0) rest) (here letter) all
    by false = all

letters_older : (e id : Name) (Q : List Request) → ((r : Request) → Has Q r → name_lt id r.id ≡ false) → list_all (λ (y : Name × List ℕ). not (name_lt id y.0)) (letters_of e Q) ≡ true
letters_older e id [] older = refl
letters_older e id (r ∷ Q) older =
    update_named (λ (y : Name × List ℕ). not (name_lt id y.0)) e r.id r.edit (filter_map (λ q. update_of e q.id q.edit) Q)
    (λ letter. not_from_false (name_lt id r.id) (older r (inl refl))) (letters_older e id Q (λ s h. older s (inr h)))

last_of : (ls : List (Name × List ℕ)) (x : Name × List ℕ) → slice_get (ls ++ x ∷ []) (length (ls ++ x ∷ []) - 1) ≡ Some x
last_of ls x = let size = length-append ls (x ∷ []) in let place : length (ls ++ x ∷ []) - 1 ≡ length ls = omega (arith, size) in ap (slice_get (ls ++ x ∷ [])) place ∙ at_end ls
  where
    at_end : (ls : List (Name × List ℕ)) → slice_get (ls ++ x ∷ []) (length ls) ≡ Some x
    at_end [] = refl
    at_end (y ∷ ls) = at_end ls

-- one more delete hides an element
cut_hides : (c : Cell) → shown (record { made = c.made; cuts = c.cuts + 1; letters = c.letters; own = c.own }) ≡ None
cut_hides c =
    let cut : nat_eq (c.cuts + 1) 0 ≡ false = ne_eqb (c.cuts + 1) 0 (λ (e : c.cuts + 1 ≡ 0). absurd (omega (arith, e))) in
    ap (λ b. when b (option_map_or (λ (y : Name × List ℕ). y.1) (slice_get c.letters (length c.letters - 1)) c.own)) (and_right c.made (nat_eq (c.cuts + 1) 0) cut)

-- one more letter shows where it is the last
letter_shows : (c : Cell) (x : Name × List ℕ) (old : List ℕ) → shown c ≡ Some old → list_all (λ (y : Name × List ℕ). not (name_lt x.0 y.0)) c.letters ≡ true
    → shown (record { made = c.made; cuts = c.cuts; letters = put_named (λ (y : Name × List ℕ). y.0) x c.letters; own = c.own }) ≡ Some x.1
letter_shows c x old before older =
    let body : List (Name × List ℕ) → Bool → Option (List ℕ) = λ ls b. when b (option_map_or (λ (y : Name × List ℕ). y.1) (slice_get ls (length ls - 1)) c.own) in
    let test = (cond_some (c.made && nat_eq c.cuts 0) (option_map_or (λ (y : Name × List ℕ). y.1) (slice_get c.letters (length c.letters - 1)) c.own) old before).0 in
    ap (λ (ls : List (Name × List ℕ)). body ls (c.made && nat_eq c.cuts 0)) (put_last x c.letters older)
    ∙ ap (body (c.letters ++ x ∷ [])) test
    ∙ ap (λ (o : Option (Name × List ℕ)). Some (option_map_or (λ (y : Name × List ℕ). y.1) o c.own)) (last_of c.letters x)

-- ---- one more request that counts, and is newer than the others

module _ (R : List Request) (L : List Entry) (known : AreKnown R L) (q : Request) (follows : FollowsHistory R q) (counts : is_granted (text_order (R ++ q ∷ [])) L q ≡ true) where
  now_counted : counted_in (R ++ q ∷ []) L ≡ counted_in R L ++ q ∷ []
  now_counted =
      let valid = not-true (is_invalid (state_in (R ++ q ∷ []) L q)) (sym (granted_valid (text_order (R ++ q ∷ [])) L q) ∙ counts) in
      counted_push R L known q follows ∙ ap (λ b. cond b (counted_in R L) (counted_in R L ++ q ∷ [])) valid

  once_more : are_distinct (map (λ r. r.id) (R ++ q ∷ [])) ≡ true
  once_more = once_law (R ++ q ∷ []) (EachAfter-push FollowsHistory R q known.history follows)

  pub same_elsewhere : (e : Name) → name_eq (element_of q) e ≡ false → shown_of (R ++ q ∷ []) (counted_in (R ++ q ∷ []) L) e ≡ shown_of R (counted_in R L) e
  same_elsewhere e other = ap (option_and_then shown) (cell_more R L known q follows e other)

  cell_own : (own : List ℕ) → cell_from (element_of q) own (counted_in (R ++ q ∷ []) L) ≡ with_one_more q.id q.edit (cell_from (element_of q) own (counted_in R L))
  cell_own own =
      ap (cell_from (element_of q) own) now_counted
      ∙ cell_from-snoc (element_of q) q own (counted_in R L) (not_counted R L known q follows)
      ∙ ap (λ b. cond b (with_one_more q.id q.edit (cell_from (element_of q) own (counted_in R L))) (cell_from (element_of q) own (counted_in R L))) (name_eq-refl (element_of q))

  not_judged : (r : Request) → Has (counted_in R L) r → name_eq (element_of r) q.id ≡ false
  not_judged r h =
      apart (elements_of R) q.id (element_of r) (new_element R q.id follows.new)
      (element_there R r known.history (in_filtered (is_granted (text_order R) L) R r h))

  other_name : (target : Name) → has_name (elements_of R) target ≡ true → name_eq q.id target ≡ false
  other_name target there = name_eq-comm q.id target ∙ apart (elements_of R) q.id target (new_element R q.id follows.new) there

pub insert_shows : (R : List Request) (L : List Entry) (known : AreKnown R L) (id : Name) (version : ℕ) (after : Name) (letter : List ℕ)
    (follows : FollowsHistory R (record { id = id; version = version; edit = edits.Insert after letter }))
    → is_granted (text_order (R ++ record { id = id; version = version; edit = edits.Insert after letter } ∷ [])) L (record { id = id; version = version; edit = edits.Insert after letter }) ≡ true
    → shown_of (R ++ record { id = id; version = version; edit = edits.Insert after letter } ∷ [])
    (counted_in (R ++ record { id = id; version = version; edit = edits.Insert after letter } ∷ []) L) id ≡ Some letter
insert_shows R L known id version after letter follows counts =
    let q : Request = record { id = id; version = version; edit = edits.Insert after letter } in
    let own : own_piece (R ++ q ∷ []) id ≡ Some letter =
    own_piece-found (R ++ q ∷ []) id (once_more R L known q follows counts) ∙ ap (option_and_then own_of) (found_own R L known q follows) in
    let made : Cell → Cell = λ c. record { made = true; cuts = c.cuts; letters = c.letters; own = c.own } in
    ap (λ (o : Option (List ℕ)). option_and_then shown (option_map (λ x. cell_from id x (counted_in (R ++ q ∷ []) L)) o)) own
    ∙ ap shown (cell_own R L known q follows counts letter ∙ ap made (no_cells id letter (counted_in R L) (not_judged R L known q follows counts)))

pub delete_hides : (R : List Request) (L : List Entry) (known : AreKnown R L) (id : Name) (version : ℕ) (target : Name)
    (follows : FollowsHistory R (record { id = id; version = version; edit = edits.Delete target }))
    → is_granted (text_order (R ++ record { id = id; version = version; edit = edits.Delete target } ∷ [])) L (record { id = id; version = version; edit = edits.Delete target }) ≡ true
    → shown_of (R ++ record { id = id; version = version; edit = edits.Delete target } ∷ [])
    (counted_in (R ++ record { id = id; version = version; edit = edits.Delete target } ∷ []) L) target ≡ None
delete_hides R L known id version target follows counts = by (own_piece (R ++ q ∷ []) target)
  where
    q : Request
    q = record { id = id; version = version; edit = edits.Delete target }

    by : (o : Option (List ℕ)) → option_and_then shown (option_map (λ x. cell_from target x (counted_in (R ++ q ∷ []) L)) o) ≡ None
    by None = refl
    by (Some own) = ap shown (cell_own R L known q follows counts own) ∙ cut_hides (cell_from target own (counted_in R L))

pub update_shows : (R : List Request) (L : List Entry) (known : AreKnown R L) (id : Name) (version : ℕ) (target : Name) (letter old : List ℕ)
    (follows : FollowsHistory R (record { id = id; version = version; edit = edits.Update target letter }))
    → is_granted (text_order (R ++ record { id = id; version = version; edit = edits.Update target letter } ∷ [])) L (record { id = id; version = version; edit = edits.Update target letter }) ≡ true
    → greatest_stamp R < id.stamp → has_name (elements_of R) target ≡ true → shown_of R (counted_in R L) target ≡ Some old
    → shown_of (R ++ record { id = id; version = version; edit = edits.Update target letter } ∷ [])
    (counted_in (R ++ record { id = id; version = version; edit = edits.Update target letter } ∷ []) L) target ≡ Some letter
update_shows R L known id version target letter old follows counts newer there before =
    ap (λ (o : Option (List ℕ)). option_and_then shown (option_map (λ x. cell_from target x (counted_in (R ++ q ∷ []) L)) o)) same_own
    ∙ by (own_piece R target) before
  where
    q : Request
    q = record { id = id; version = version; edit = edits.Update target letter }

    same_own : own_piece (R ++ q ∷ []) target ≡ own_piece R target
    same_own =
        own_piece-found (R ++ q ∷ []) target (once_more R L known q follows counts)
        ∙ ap (option_and_then own_of) (found_other R L known q follows target (other_name R L known q follows counts target there))
        ∙ sym (own_piece-found R target (once_law R known.history))

    by : (o : Option (List ℕ)) → option_and_then shown (option_map (λ x. cell_from target x (counted_in R L)) o) ≡ Some old
        → option_and_then shown (option_map (λ x. cell_from target x (counted_in (R ++ q ∷ []) L)) o) ≡ Some letter
    by None h = absurd (cc)
    by (Some own) h =
        ap shown (cell_own R L known q follows counts own)
        ∙ letter_shows (cell_from target own (counted_in R L)) (id, letter) old h
        (letters_older target id (counted_in R L) (λ r c. older_request R id r newer (in_filtered (is_granted (text_order R) L) R r c)))
