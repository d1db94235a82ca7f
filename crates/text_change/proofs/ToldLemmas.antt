-- The rows of a step tell what it changed.
use Rattle.std.proofs.Common.{◌≡◌, ◌⊎◌, ℕ, ◌+◌, ◌≤◌, zero, suc, inl, inr, ⊎_elim, Bool, true, false, not, cond, ◌&&◌, ◌||◌, List, [], ◌∷◌, ◌++◌, length, None, Some, refl, ap, sym, subst, ◌∙◌, arith, length-append}
use Rattle.std.specs.Prelude.{filter_map, slice_get, count_by, option_map, option_and_then, insert, unwrap_or, if◌then◌else◌}
use Rattle.std.specs.declared.option.Option.{Option}
use Rattle.std.specs.List.{cons_option, list_any}
use Rattle.std.specs.List.Sorted.{IsStrictlySortedBy}
use Rattle.std.specs.Map.{keys_of}
use Rattle.std.specs.Ordering.{nat_cmp}
use Rattle.std.proofs.lemmas.Bool.{and_parts, and_from, cases_Bool}
use Rattle.std.proofs.lemmas.List.Folds.{list_any-from_Any, Any-from_list_any}
use Rattle.std.proofs.lemmas.Option.{same_Some}
use Rattle.element_name.specs.Cases.{when, first_of}
use Rattle.element_name.specs.Name.{Name, name_eq, has_name, are_distinct}
use Rattle.element_name.specs.Places.{place_in}
use Rattle.element_name.specs.Tree.{skip}
use Rattle.element_name.proofs.EachAfterLemmas.{EachAfter-push}
use Rattle.element_name.proofs.NameOrder.{name_eq-refl, same_name}
use Rattle.coop_request.specs.declared.edit.Edit.{Edit}
use Rattle.coop_request.specs.declared.edit.Edit.TheVariants as edits
use Rattle.coop_request.specs.Request.{Request, element_of}
use Rattle.coop_request.specs.History.{placed_of, text_order, IsHistory}
use Rattle.coop_request.proofs.Histories.{IsTree-placed_of}
use Rattle.policy_book.specs.Entry.{Entry}
use Rattle.edit_message.specs.declared.message.Message.{Message}
use Rattle.edit_message.specs.declared.message.Message.TheVariants.{Coop, Admin}
use Rattle.edit_message.specs.Message.{requests_of, entries_of, request_in}
use Rattle.check_remote.specs.State.{is_granted}
use Rattle.elem_show.specs.Cell.{Cell, cell_from, own_piece, shown}
use Rattle.elem_show.specs.Text.{shown_of}
use Rattle.auth_match.proofs.OneMore.{place_below}
use Rattle.retro_undo.proofs.Parts.{count_cons}
use Rattle.tomb_seq.proofs.Has.{Has, Contains-from_Has}
use Rattle.tomb_seq.proofs.SlotEdits.{distinct_head, distinct_tail}
use Rattle.tomb_seq.proofs.Theorems.{once_law}
use Rattle.peer_step.specs.declared.step.LocalEdit.{LocalEdit}
use Rattle.peer_step.specs.declared.step.Step.{Step}
use Rattle.peer_step.specs.declared.step.Step.TheVariants as steps
use Rattle.peer_step.specs.declared.answer.Answer.{Answer}
use Rattle.peer_step.specs.declared.answer.Answer.TheVariants.{Done}
use Rattle.peer_core.specs.After.{changed_by, peer_after}
use Rattle.peer_core.specs.Answers.{answer_by_verdict, own_verdict, rows_of_edit, answer_edit}
use Rattle.peer_core.specs.Carets.{count_up_to, shown_up_to}
use Rattle.peer_tables.specs.Undoing.{is_undone_between, HaveUndone}
use Rattle.peer_core.specs.Changes.{is_received}
use Rattle.peer_tables.specs.Kept.{names_after}
use Rattle.peer_tables.specs.Derived.{counted_in, text_in}
use Rattle.peer_core.specs.Peer.{Peer, history, log, text, shown_elements, undone_since}
use Rattle.peer_tables.specs.Journal.{FollowsJournal, IsJournal}
use Rattle.peer_core.specs.Sound.{IsSound}
use Rattle.peer_tables.proofs.UndoingLemmas.{stays_invalid}
use Rattle.peer_core.proofs.ChangeLemmas.{IsMessageOf, HasJoined, leads}
use Rattle.auth_match.specs.declared.verdict.Verdict.{Verdict}
use Rattle.auth_match.specs.declared.verdict.Verdict.TheVariants.{Granted, Denied}
use Rattle.peer_core.specs.Local.{new_request}
use Rattle.peer_core.proofs.AnswerLemmas.Refusals.{edit_refuses}
use Rattle.peer_core.proofs.EditLemmas.Law.{edit_law}
use Rattle.peer_tables.proofs.HistoryLemmas.{order_push}
use Rattle.peer_tables.proofs.JournalLemmas.{history_law, follows_history, follows_log, requests_request, requests_entry, entries_request, entries_entry}
use Rattle.peer_tables.proofs.KeptLemmas.Tables.{granted_valid}
use Rattle.peer_tables.proofs.KeptLemmas.OneMore.{cell_more, no_own}
use Rattle.peer_tables.proofs.ReachedLemmas.{cell_filter}
use Rattle.peer_tables.proofs.StableLemmas.{known_law, element_in_order}
use Rattle.text_change.specs.declared.seen.Seen.{Seen}
use Rattle.text_change.specs.Rows.{text_told, piece_at, row_between, row_of}
use Rattle.text_change.specs.Seen.{seen_of, seen_at, row_by}
use Rattle.text_change.specs.Told.{step_edit, is_done, request_by, AreRowsOf}
use Rattle.text_change.proofs.WalkLemmas.{row_same, walked, walk_law, few_walked, shown_to, AreCovered, covered, rank}
use Rattle.text_change.proofs.SeenLemmas.{IsRight, HasPlace, right_all, there_all}

-- ---- entries with their rows

-- what stands at the place of a name is the name
name_at : (names : List Name) (n : Name) → has_name names n ≡ true → slice_get names (place_in names n) ≡ Some n
name_at [] n h = absurd cc
name_at (m ∷ names) n h = by (name_eq n m) refl h (name_at names n)
  where
    by : (b : Bool) → name_eq n m ≡ b → (b || has_name names n) ≡ true → (has_name names n ≡ true → slice_get names (place_in names n) ≡ Some n)
        → slice_get (m ∷ names) (place_in (m ∷ names) n) ≡ Some n
    by true same g rest = rw same (ap (λ (x : Name). Some x) (sym (same_name n m same)))
    by false other g rest = let next : 1 + place_in names n ≡ suc (place_in names n) = omega arith in rw other (ap (slice_get (m ∷ names)) next ∙ rest g)

-- a name stands at its own place alone
place_at : (names : List Name) (i : ℕ) (n : Name) → are_distinct names ≡ true → slice_get names i ≡ Some n → (has_name names n ≡ true) × (place_in names n ≡ i)
place_at [] i n d at = absurd cc
place_at (m ∷ names) zero n d at = let is : m ≡ n = cc in
    subst (λ (x : Name). (has_name (m ∷ names) x ≡ true) × (place_in (m ∷ names) x ≡ 0)) is (rw (name_eq-refl m) refl, rw (name_eq-refl m) refl)
place_at (m ∷ names) (suc i) n d at =
    let more = place_at names i n (distinct_tail m names d) at in
    ⊎_elim
    (λ (same : name_eq n m ≡ true).
    absurd (let there : has_name names m ≡ true = ap (has_name names) (sym (same_name n m same)) ∙ more.0 in let new = distinct_head m names d in cc))
    (λ (other : name_eq n m ≡ false). (rw other more.0, rw other (let is = more.1 in omega (arith, is))))
    (cases_Bool (name_eq n m))

module _ (p q : Peer) (sorted_history : IsHistory (history q)) where
  abbrev order : List Name
  order = text_order (history q)

  once : are_distinct order ≡ true
  once = once_law (placed_of (history q)) (IsTree-placed_of (history q) sorted_history)

  up_to : (e : Name) → has_name order e ≡ true → shown_up_to q e ≡ Some (shown_to (piece_at p) (piece_at q) (row_by q) (place_in order e) order)
  up_to e there =
      ap (λ b. when b (count_up_to order (shown_elements q) (place_in order e))) there
      ∙ ap (λ (c : ℕ). Some c) (rank (piece_at p) (piece_at q) (row_by q) order (place_in order e) once)

  module _ (entries : List (ℕ × Seen)) (sorted : IsStrictlySortedBy nat_cmp (keys_of entries)) (right : (x : ℕ × Seen) → Has entries x → IsRight p order x)
      (there : (n : Name) → has_name order n ≡ true → (piece_at p n ≡ piece_at q n) ⊎ HasPlace entries (place_in order n)) where
    are_covered : AreCovered (piece_at p) (piece_at q) (row_by q) 0 0 order entries
    are_covered = record {
      sorted = sorted;
      within = λ x h.
          let is = (right x h).place in
          let low = place_below order x.1.element (right x h).there in
          (omega arith, omega (arith, is, low));
      rows = λ x i n h is at.
          let r = right x h in
          let placed = place_at order i n once at in
          let place : place_in order x.1.element ≡ i = let a = r.place in omega (arith, a, is) in
          let same : x.1.element ≡ n = same_Some x.1.element n (sym (name_at order x.1.element r.there) ∙ ap (slice_get order) place ∙ at) in
          ap (option_and_then (λ up. row_between up x.1.piece (piece_at q x.1.element))) (up_to x.1.element r.there)
          ∙ ap (λ k. row_between (shown_to (piece_at p) (piece_at q) (row_by q) k order) x.1.piece (piece_at q x.1.element)) place
          ∙ ap (λ (o : Option (List ℕ)). row_between (shown_to (piece_at p) (piece_at q) (row_by q) i order) o (piece_at q x.1.element)) r.piece
          ∙ ap (λ (e : Name). row_between (shown_to (piece_at p) (piece_at q) (row_by q) i order) (piece_at p e) (piece_at q e)) same
          ∙ ap (λ up. row_between up (piece_at p n) (piece_at q n)) (omega arith);
      there = λ i n at.
          let placed = place_at order i n once at in
          ⊎_elim
          (λ (same : piece_at p n ≡ piece_at q n). inl same)
          (λ (found : HasPlace entries (place_in order n)). inr (found.0, found.1, let a = found.2 in let b = placed.1 in omega (arith, a, b)))
          (there n placed.0);
    }

    rows_are : filter_map (row_by q) entries ≡ walked (piece_at p) (piece_at q) 0 order
    rows_are = covered (piece_at p) (piece_at q) (row_by q) 0 0 order entries are_covered

    -- the rows make the one text of the other
    pub texts : filter_map (piece_at p) order ≡ text p → text_told (text p) (filter_map (row_by q) entries) ≡ text q
    texts old =
        ap (λ (pieces : List (List ℕ)). text_told pieces (filter_map (row_by q) entries)) (sym old)
        ∙ ap (text_told (filter_map (piece_at p) order)) rows_are
        ∙ walk_law (piece_at p) (piece_at q) [] order

    -- and are at most as many as elements may have changed
    pub few_rows : (test : Name → Bool) → ((n : Name) → test n ≡ false → piece_at p n ≡ piece_at q n) → length (filter_map (row_by q) entries) ≤ count_by test order
    few_rows test same =
        subst (λ (rows : List LocalEdit). length rows ≤ count_by test order) (sym rows_are) (few_walked (piece_at p) (piece_at q) test same 0 order)

-- ---- the journal stays

piece_same : (p q : Peer) (n : Name) → q.journal ≡ p.journal → piece_at p n ≡ piece_at q n
piece_same p q n same = ap (λ (J : List Message). shown_of (requests_of J) (counted_in (requests_of J) (entries_of J)) n) (sym same)

row_unchanged : (q : Peer) (e : Name) (o : Option (List ℕ)) → o ≡ piece_at q e → row_of q e o ≡ None
row_unchanged q e o is =
    ap (λ (x : Option (List ℕ)). row_of q e x) is ∙ by (shown_up_to q e)
  where
    by : (u : Option ℕ) → option_and_then (λ up. row_between up (piece_at q e) (piece_at q e)) u ≡ None
    by None = refl
    by (Some up) = row_same up (piece_at q e)

rows_unchanged : (q : Peer) (entries : List (ℕ × Seen)) → ((x : ℕ × Seen) → Has entries x → x.1.piece ≡ piece_at q x.1.element) → filter_map (row_by q) entries ≡ []
rows_unchanged q [] all = refl
rows_unchanged q (x ∷ entries) all =
    ap (λ (o : Option LocalEdit). cons_option o (filter_map (row_by q) entries)) (row_unchanged q x.1.element x.1.piece (all x (inl refl)))
    ∙ rows_unchanged q entries (λ y h. all y (inr h))

-- no row tells of a step that leaves the journal
pub told_nothing : (p q : Peer) → q.journal ≡ p.journal → AreRowsOf p q []
told_nothing p q same = record {
  text = ap (λ (J : List Message). text_in (requests_of J) (entries_of J)) (sym same);
  one = λ l. omega arith;
  few = λ h. omega arith;
}

-- ---- one more request

longer_history : (p : Peer) (m : Message) (q : Peer) → IsSound p → HasJoined p q m → IsHistory (history q)
longer_history p m q sound more =
    history_law q.journal (subst IsJournal (sym more.journal) (EachAfter-push FollowsJournal p.journal m sound.journal more.follows))

-- an element of which nothing shows may be put in anywhere
none_put : (f : Name → Option (List ℕ)) (names : List Name) (i : ℕ) (n : Name) → f n ≡ None → filter_map f (insert names i n) ≡ filter_map f names
none_put f names zero n none = ap (λ (o : Option (List ℕ)). cons_option o (filter_map f names)) none
none_put f [] (suc i) n none = ap (λ (o : Option (List ℕ)). cons_option o []) none
none_put f (m ∷ names) (suc i) n none = ap (cons_option (f m)) (none_put f names i n none)

none_named : (n : Name) (names : List Name) → has_name names n ≡ false → count_by (λ m. name_eq n m) names ≡ 0
none_named n [] off = refl
none_named n (m ∷ names) off = by (name_eq n m) refl off (none_named n names)
  where
    by : (b : Bool) → name_eq n m ≡ b → (b || has_name names n) ≡ false → (has_name names n ≡ false → count_by (λ x. name_eq n x) names ≡ 0)
        → count_by (λ x. name_eq n x) (m ∷ names) ≡ 0
    by true same g rest = absurd cc
    by false other g rest =
        let first = count_cons (λ x. name_eq n x) m names ∙ ap (λ b. cond b 1 0 + count_by (λ x. name_eq n x) names) other in
        let none = rest g in
        omega (arith, first, none)

-- of distinct names at most one is n
one_named : (n : Name) (names : List Name) → are_distinct names ≡ true → count_by (λ m. name_eq n m) names ≤ 1
one_named n [] d = omega arith
one_named n (m ∷ names) d = by (name_eq n m) refl (one_named n names (distinct_tail m names d))
  where
    by : (b : Bool) → name_eq n m ≡ b → count_by (λ x. name_eq n x) names ≤ 1 → count_by (λ x. name_eq n x) (m ∷ names) ≤ 1
    by true same rest =
        let first = count_cons (λ x. name_eq n x) m names ∙ ap (λ b. cond b 1 0 + count_by (λ x. name_eq n x) names) same in
        let others = none_named n names (ap (has_name names) (same_name n m same) ∙ distinct_head m names d) in
        omega (arith, first, others)
    by false other rest =
        let first = count_cons (λ x. name_eq n x) m names ∙ ap (λ b. cond b 1 0 + count_by (λ x. name_eq n x) names) other in
        omega (arith, first, rest)

module _ (p q : Peer) (sound : IsSound p) (r : Request) (more : HasJoined p q (Coop r)) where
  requests_are : history q ≡ history p ++ r ∷ []
  requests_are = ap requests_of more.journal ∙ requests_request p.journal r

  log_is : log q ≡ log p
  log_is = ap entries_of more.journal ∙ entries_request p.journal r

  abbrev e : Name
  e = element_of r

  history_q : IsHistory (history q)
  history_q = longer_history p (Coop r) q sound more

  -- another element shows as before
  elsewhere : (n : Name) → name_eq e n ≡ false → piece_at p n ≡ piece_at q n
  elsewhere n other = sym (
      ap (λ (S : List Request). shown_of S (counted_in S (log q)) n) requests_are
      ∙ ap (λ (L : List Entry). shown_of (history p ++ r ∷ []) (counted_in (history p ++ r ∷ []) L) n) log_is
      ∙ ap (option_and_then shown) (cell_more (history p) (log p) (known_law p.journal sound.journal) r (follows_history p.journal r more.follows) n other))

  -- the text of before, in the order of now
  order_by : (edit : Edit) → filter_map (piece_at p) (names_after (text_order (history p)) r.id edit) ≡ text p
  order_by (edits.Insert after letter) =
      none_put (piece_at p) (text_order (history p)) (skip (text_order (history p)) r.id after) r.id
      (ap (λ (o : Option (List ℕ)). option_and_then shown (option_map (λ own. cell_from r.id own (counted_in (history p) (log p))) o))
      (no_own (history p) (log p) (known_law p.journal sound.journal) r (follows_history p.journal r more.follows)))
  order_by (edits.Delete target) = refl
  order_by (edits.Update target letter) = refl

  old_text : filter_map (piece_at p) (text_order (history q)) ≡ text p
  old_text =
      ap (λ (S : List Request). filter_map (piece_at p) (text_order S)) requests_are
      ∙ ap (filter_map (piece_at p)) (order_push (history p) r (known_law p.journal sound.journal).history (follows_history p.journal r more.follows))
      ∙ order_by r.edit

  -- the request is in the history, so that its element is in the text order
  in_order : has_name (text_order (history q)) e ≡ true
  in_order =
      element_in_order (history q) (log q) r (known_law q.journal (subst IsJournal (sym more.journal) (EachAfter-push FollowsJournal p.journal (Coop r) sound.journal more.follows)))
      (subst (λ (S : List Request). Has S r) (sym requests_are) (last (history p)))
    where
      last : (xs : List Request) → Has (xs ++ r ∷ []) r
      last [] = inl refl
      last (x ∷ xs) = inr (last xs)

  -- its element's entry
  abbrev entry : ℕ × Seen
  entry = (place_in (text_order (history q)) e, seen_of p e)

  right_entry : (x : ℕ × Seen) → Has (entry ∷ []) x → IsRight p (text_order (history q)) x
  right_entry x (inl same) = subst (IsRight p (text_order (history q))) same (record { there = in_order; place = refl; piece = refl })
  right_entry x (inr h) = absurd h

  there_entry : (n : Name) → has_name (text_order (history q)) n ≡ true → (piece_at p n ≡ piece_at q n) ⊎ HasPlace (entry ∷ []) (place_in (text_order (history q)) n)
  there_entry n there = ⊎_elim
      (λ (same : name_eq e n ≡ true). inr (entry, inl refl, ap (place_in (text_order (history q))) (same_name e n same)))
      (λ (other : name_eq e n ≡ false). inl (elsewhere n other))
      (cases_Bool (name_eq e n))

  sorted_entry : IsStrictlySortedBy nat_cmp (keys_of (entry ∷ []))
  unfolding IsStrictlySortedBy
  sorted_entry = (tt, tt)

  pub told_request : AreRowsOf p q (cons_option (row_of q e (piece_at p e)) [])
  told_request = record {
    text = texts p q history_q (entry ∷ []) sorted_entry right_entry there_entry old_text;
    one = λ l.
        let few = few_rows p q history_q (entry ∷ []) sorted_entry right_entry there_entry (λ n. name_eq e n) elsewhere in
        let one = one_named e (text_order (history q)) (once p q history_q) in
        omega (arith, few, one);
    few = λ same. absurd (let size = length-append (history p) (r ∷ []) in let longer = ap (λ (S : List Request). length S) (sym same ∙ requests_are) in omega (arith, size, longer));
  }

-- ---- one more entry

-- an element with a request that is undone
abbrev pub has_undone : List Request → List Entry → List Entry → Name → Bool
has_undone R L M n = list_any (λ q. is_undone_between R L M q && name_eq (element_of q) n) R

none_counted : (names : List Name) → count_by (λ n. false) names ≡ 0
none_counted [] = refl
none_counted (n ∷ names) = let first = count_cons (λ m. false) n names in let rest = none_counted names in omega (arith, first, rest)

-- as many pass either of two tests at most as pass the one and as pass the other
either_counted : (s t : Name → Bool) (names : List Name) → count_by (λ n. s n || t n) names ≤ count_by s names + count_by t names
either_counted s t [] = omega arith
either_counted s t (n ∷ names) =
    let a = count_cons (λ m. s m || t m) n names in
    let b = count_cons s n names in
    let c = count_cons t n names in
    let more = either_counted s t names in
    let step = sums (s n) (t n) in
    omega (arith, a, b, c, more, step)
  where
    sums : (x y : Bool) → cond (x || y) 1 0 ≤ cond x 1 0 + cond y 1 0
    sums true true = omega arith
    sums true false = omega arith
    sums false true = omega arith
    sums false false = omega arith

-- names of undone requests' elements are at most as many as these
few_elements : (undone : Request → Bool) (R : List Request) (names : List Name) → are_distinct names ≡ true
    → count_by (λ n. list_any (λ q. undone q && name_eq (element_of q) n) R) names ≤ count_by undone R
few_elements undone [] names d = let none = none_counted names in omega (arith, none)
few_elements undone (r ∷ R) names d =
    let both = either_counted (λ n. undone r && name_eq (element_of r) n) (λ n. list_any (λ q. undone q && name_eq (element_of q) n) R) names in
    let rest = few_elements undone R names d in
    let own = one (undone r) in
    let count = count_cons undone r R in
    omega (arith, both, rest, own, count)
  where
    one : (b : Bool) → count_by (λ n. b && name_eq (element_of r) n) names ≤ cond b 1 0
    one true = one_named (element_of r) names d
    one false = let none = none_counted names in omega (arith, none)

module _ (p q : Peer) (sound : IsSound p) (e : Entry) (more : HasJoined p q (Admin e)) where
  same_requests : history q ≡ history p
  same_requests = ap requests_of more.journal ∙ requests_entry p.journal e

  longer_log : log q ≡ log p ++ e ∷ []
  longer_log = ap entries_of more.journal ∙ entries_entry p.journal e

  entry_history : IsHistory (history q)
  entry_history = longer_history p (Admin e) q sound more

  -- an element whose requests aren't undone shows as before
  stays_at : (n : Name) → has_undone (history p) (log p) (log p ++ e ∷ []) n ≡ false → shown_of (history p) (counted_in (history p) (log p)) n ≡ shown_of (history p) (counted_in (history p) (log p ++ e ∷ [])) n
  stays_at n none = ap (λ (c : Option Cell). option_and_then shown c) (by (own_piece (history p) n))
    where
      not_undone : (r : Request) → Has (history p) r → name_eq (element_of r) n ≡ true → is_undone_between (history p) (log p) (log p ++ e ∷ []) r ≡ false
      not_undone r h same = ⊎_elim
          (λ (undone : is_undone_between (history p) (log p) (log p ++ e ∷ []) r ≡ true).
          let at = Contains-from_Has (history p) r h in
          let any : has_undone (history p) (log p) (log p ++ e ∷ []) n ≡ true =
          list_any-from_Any (λ s. is_undone_between (history p) (log p) (log p ++ e ∷ []) s && name_eq (element_of s) n) (history p)
          (at.0, r, at.1, at.2, and_from (is_undone_between (history p) (log p) (log p ++ e ∷ []) r) (name_eq (element_of r) n) undone same) in
          absurd (let off = none in cc))
          (λ (stays : is_undone_between (history p) (log p) (log p ++ e ∷ []) r ≡ false). stays)
          (cases_Bool (is_undone_between (history p) (log p) (log p ++ e ∷ []) r))

      agree : (r : Request) → Has (history p) r → name_eq (element_of r) n ≡ true
          → is_granted (text_order (history p)) (log p) r ≡ is_granted (text_order (history p)) (log p ++ e ∷ []) r
      agree r h same =
          granted_valid (text_order (history p)) (log p) r
          ∙ ap not (sym (stays_invalid (history p) (log p) e (known_law p.journal sound.journal) (follows_log p.journal e more.follows) r h (not_undone r h same)))
          ∙ sym (granted_valid (text_order (history p)) (log p ++ e ∷ []) r)

      by : (o : Option (List ℕ)) → option_map (λ own. cell_from n own (counted_in (history p) (log p))) o ≡ option_map (λ own. cell_from n own (counted_in (history p) (log p ++ e ∷ []))) o
      by None = refl
      by (Some own) =
          ap (λ (c : Cell). Some c)
          (cell_filter n own (is_granted (text_order (history p)) (log p)) (is_granted (text_order (history p)) (log p ++ e ∷ [])) (history p) agree)

  stays : (n : Name) → has_undone (history p) (log p) (log q) n ≡ false → piece_at p n ≡ piece_at q n
  stays n none =
      stays_at n (ap (λ (M : List Entry). has_undone (history p) (log p) M n) (sym longer_log) ∙ none)
      ∙ ap (λ (M : List Entry). shown_of (history p) (counted_in (history p) M) n) (sym longer_log)
      ∙ ap (λ (S : List Request). shown_of S (counted_in S (log q)) n) (sym same_requests)

  module _ (elements : List Name) (lists : HaveUndone (history p) (log p) (log q) elements) (sorted : IsStrictlySortedBy nat_cmp (keys_of (seen_at p elements))) where
    right_entries : (x : ℕ × Seen) → Has (seen_at p elements) x → IsRight p (text_order (history q)) x
    right_entries x h = subst (λ (S : List Request). IsRight p (text_order S) x) (sym same_requests) (right_all p elements x h)

    there_entries : (n : Name) → has_name (text_order (history q)) n ≡ true → (piece_at p n ≡ piece_at q n) ⊎ HasPlace (seen_at p elements) (place_in (text_order (history q)) n)
    there_entries n there = ⊎_elim
        (λ (undone : has_undone (history p) (log p) (log q) n ≡ true). inr (found undone))
        (λ (none : has_undone (history p) (log p) (log q) n ≡ false). inl (stays n none))
        (cases_Bool (has_undone (history p) (log p) (log q) n))
      where
        found : has_undone (history p) (log p) (log q) n ≡ true → HasPlace (seen_at p elements) (place_in (text_order (history q)) n)
        found undone =
            let any = Any-from_list_any (λ s. is_undone_between (history p) (log p) (log q) s && name_eq (element_of s) n) (history p) undone in
            let r : Request = any.1 in
            let parts = and_parts (is_undone_between (history p) (log p) (log q) r) (name_eq (element_of r) n) any.4 in
            let listed : has_name elements n ≡ true = ap (has_name elements) (sym (same_name (element_of r) n parts.1)) ∙ lists r (any.0, any.2, any.3) parts.0 in
            let here : has_name (text_order (history p)) n ≡ true = ap (λ (S : List Request). has_name (text_order S) n) (sym same_requests) ∙ there in
            subst (λ (S : List Request). HasPlace (seen_at p elements) (place_in (text_order S) n)) (sym same_requests) (there_all p elements n listed here)

    old_texts : filter_map (piece_at p) (text_order (history q)) ≡ text p
    old_texts = ap (λ (S : List Request). filter_map (piece_at p) (text_order S)) same_requests

    few_entries : length (filter_map (row_by q) (seen_at p elements)) ≤ undone_since p q
    few_entries =
        let few = few_rows p q entry_history (seen_at p elements) sorted right_entries there_entries (has_undone (history p) (log p) (log q)) stays in
        let bound = few_elements (is_undone_between (history p) (log p) (log q)) (history p) (text_order (history q)) (once p q entry_history) in
        omega (arith, few, bound)

    pub told_entry : AreRowsOf p q (filter_map (row_by q) (seen_at p elements))
    told_entry = record {
      text = texts p q entry_history (seen_at p elements) sorted right_entries there_entries old_texts;
      one = λ same. absurd (let size = length-append (log p) (e ∷ []) in let longer = ap (λ (M : List Entry). length M) (sym same ∙ longer_log) in omega (arith, size, longer));
      few = λ same. few_entries;
    }

-- ---- steps

-- a step that integrates another site's request, if anything
pub told_by_request : (p : Peer) (step : Step) (r : Request) → is_received step ≡ true → IsSound p → request_by p step ≡ Some r
    → AreRowsOf p (peer_after p step) (cons_option (row_of (peer_after p step) (element_of r) (piece_at p (element_of r))) [])
told_by_request p step r formed sound is = ⊎_elim
    (λ (same : (peer_after p step).journal ≡ p.journal).
    subst (λ (o : Option LocalEdit). AreRowsOf p (peer_after p step) (cons_option o []))
    (sym (row_unchanged (peer_after p step) (element_of r) (piece_at p (element_of r)) (piece_same p (peer_after p step) (element_of r) same)))
    (told_nothing p (peer_after p step) same))
    (λ (more : (m : Message) × IsMessageOf p step m × HasJoined p (peer_after p step) m).
    told_request p (peer_after p step) sound r (subst (HasJoined p (peer_after p step)) (message_is p step more.0 r is more.1) more.2))
    (leads p step formed sound)
  where
    request_is : (m : Message) (s : Request) → request_in m ≡ Some s → m ≡ Coop s
    request_is (Coop t) s h = ap (λ (x : Request). Coop x) (same_Some t s h)
    request_is (Admin d) s h = absurd cc

    message_is : (p : Peer) (step : Step) (m : Message) (s : Request) → request_by p step ≡ Some s → IsMessageOf p step m → m ≡ Coop s
    message_is p (steps.Edit edit) m s h of = absurd cc
    message_is p (steps.Administer op) m s h of = absurd cc
    message_is p (steps.Receive k) m s h of = of ∙ request_is k s h
    message_is p steps.Settle m s h of = request_is m s (sym (ap (option_and_then request_in) of) ∙ h)
    message_is p steps.ValidateNext m s h of = absurd cc
    message_is p (steps.Look from) m s h of = absurd of
    message_is p steps.Show m s h of = absurd of

-- a step that integrates an entry, if anything
pub told_by_entry : (p : Peer) (step : Step) (elements : List Name) → is_received step ≡ true → IsSound p → step_edit step ≡ None → request_by p step ≡ None
    → HaveUndone (history p) (log p) (log (peer_after p step)) elements → IsStrictlySortedBy nat_cmp (keys_of (seen_at p elements))
    → AreRowsOf p (peer_after p step) (filter_map (row_by (peer_after p step)) (seen_at p elements))
told_by_entry p step elements formed sound other none lists sorted = ⊎_elim
    (λ (same : (peer_after p step).journal ≡ p.journal).
    subst (AreRowsOf p (peer_after p step))
    (sym (rows_unchanged (peer_after p step) (seen_at p elements) (λ x h. (right_all p elements x h).piece ∙ piece_same p (peer_after p step) x.1.element same)))
    (told_nothing p (peer_after p step) same))
    (λ (more : (m : Message) × IsMessageOf p step m × HasJoined p (peer_after p step) m). joined more.0 more.1 more.2)
    (leads p step formed sound)
  where
    no_request : (p : Peer) (step : Step) (s : Request) → step_edit step ≡ None → request_by p step ≡ None → IsMessageOf p step (Coop s) → ⊥
    no_request p (steps.Edit edit) s o h of = absurd cc
    no_request p (steps.Administer op) s o h of = absurd cc
    no_request p (steps.Receive k) s o h of = absurd (let some = ap request_in of ∙ h in cc)
    no_request p steps.Settle s o h of = absurd (let some = sym (ap (option_and_then request_in) of) ∙ h in cc)
    no_request p steps.ValidateNext s o h of = absurd (let is = of.1 in cc)
    no_request p (steps.Look from) s o h of = of
    no_request p steps.Show s o h of = of

    joined : (m : Message) → IsMessageOf p step m → HasJoined p (peer_after p step) m → AreRowsOf p (peer_after p step) (filter_map (row_by (peer_after p step)) (seen_at p elements))
    joined (Coop s) of more = absurd (no_request p step s other none of)
    joined (Admin d) of more = told_entry p (peer_after p step) sound d more elements lists sorted

-- an edit that is made is its row
told_edit : (p : Peer) (edit : LocalEdit) (r : Request) → IsSound p → answer_edit p edit ≡ Done r → AreRowsOf p (peer_after p (steps.Edit edit)) (edit ∷ [])
told_edit p edit r sound done = record {
  text = sym (edit_law p edit r sound done);
  one = λ l. omega arith;
  few = λ same.
      let more : history (peer_after p (steps.Edit edit)) ≡ history p ++ r ∷ [] =
      ap (λ (a : Answer). history (changed_by p (steps.Edit edit) a)) done ∙ requests_request p.journal r in
      let size = length-append (history p) (r ∷ []) in
      let longer = ap (λ (S : List Request). length S) (sym same ∙ more) in
      absurd (omega (arith, size, longer));
}

-- one that isn't changes nothing
unmade_told : (p : Peer) (edit : LocalEdit) → ((r : Request) → answer_edit p edit ≡ Done r → ⊥) → AreRowsOf p (peer_after p (steps.Edit edit)) []
unmade_told p edit unmade = told_nothing p (peer_after p (steps.Edit edit)) (by (first_of (rows_of_edit p edit)) refl unmade)
  where
    judged : (v : Verdict) → ((r : Request) → answer_by_verdict (new_request p edit) v ≡ Done r → ⊥)
        → (changed_by p (steps.Edit edit) (answer_by_verdict (new_request p edit) v)).journal ≡ p.journal
    judged Granted not_done = absurd (not_done (new_request p edit) refl)
    judged (Denied by) not_done = refl

    by : (o : Option Answer) → first_of (rows_of_edit p edit) ≡ o
        → ((r : Request) → unwrap_or o (answer_by_verdict (new_request p edit) (own_verdict p (new_request p edit))) ≡ Done r → ⊥)
        → (changed_by p (steps.Edit edit) (unwrap_or o (answer_by_verdict (new_request p edit) (own_verdict p (new_request p edit))))).journal ≡ p.journal
    by (Some a) is not_done = ap (λ (x : Peer). x.journal) ((edit_refuses p edit a (sym is)).same p (steps.Edit edit))
    by None is not_done = judged (own_verdict p (new_request p edit)) not_done

pub told_own : (p : Peer) (edit : LocalEdit) (made : Bool) → IsSound p → is_done (answer_edit p edit) ≡ made → AreRowsOf p (peer_after p (steps.Edit edit)) (if made then edit ∷ [] else [])
told_own p edit true sound is = let done = done_is (answer_edit p edit) is in told_edit p edit done.0 sound done.1
  where
    done_is : (a : Answer) → is_done a ≡ true → (r : Request) × (a ≡ Done r)
    done_is (Done r) h = (r, refl)
    done_is a h = absurd cc
told_own p edit false sound is = unmade_told p edit (λ r done. absurd (let h = sym (ap is_done done) ∙ is in cc))
