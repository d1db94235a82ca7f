-- A peer's own edit changes the text that it shows by its piece.
use Rattle.std.proofs.Common.{◌≡◌, ℕ, ◌+◌, ◌<◌, zero, suc, Bool, true, false, not, cond, List, [], ◌∷◌, ◌++◌, length, None, Some, refl, ap, sym, ◌∙◌, arith, add-zero, insert}
use Rattle.std.specs.Prelude.{is_none, filter, filter_map, is_some, slice_index_or, unwrap_or}
use Rattle.std.specs.declared.option.Option.{Option}
use Rattle.std.specs.List.{position_or_len}
use Rattle.std.proofs.lemmas.Bool.{not-false, leb-false, ltb-true, leb-true}
use Rattle.std.proofs.Math.Seq.{take-length}
use Rattle.element_name.specs.Cases.{first_of}
use Rattle.element_name.proofs.CaseLemmas.{when-None}
use Rattle.element_name.specs.Name.{Name, start, name_eq, name_lt, has_name, are_distinct}
use Rattle.element_name.specs.Tree.{skip}
use Rattle.element_name.proofs.NameOrder.{name_eq-comm}
use Rattle.coop_request.specs.declared.edit.Edit.TheVariants as edits
use Rattle.coop_request.specs.declared.request.TheConstants.{MAX_REQUESTS}
use Rattle.coop_request.specs.Request.{Request}
use Rattle.coop_request.specs.History.{placed_of, text_order, FollowsHistory}
use Rattle.coop_request.proofs.Histories.{IsTree-placed_of}
use Rattle.policy_book.specs.Entry.{Entry}
use Rattle.edit_message.specs.declared.message.Message.TheVariants.{Coop}
use Rattle.edit_message.specs.Message.{entries_of}
use Rattle.auth_match.specs.declared.verdict.Verdict.{Verdict}
use Rattle.auth_match.specs.declared.verdict.Verdict.TheVariants.{Granted, Denied}
use Rattle.auth_match.specs.Requests.{request_verdict}
use Rattle.admin_log.specs.Log.{policy_of}
use Rattle.check_remote.specs.State.{is_granted, denial_by}
use Rattle.check_remote.proofs.States.{front_alone}
use Rattle.elem_show.specs.Text.{shown_of}
use Rattle.tomb_seq.proofs.Theorems.{once_law as order_once}
use Rattle.peer_step.specs.declared.step.LocalEdit.{LocalEdit}
use Rattle.peer_step.specs.declared.step.LocalEdit.TheVariants.{Insert, Delete, Update}
use Rattle.peer_step.specs.declared.step.Step.TheVariants as steps
use Rattle.peer_step.specs.declared.answer.Answer.{Answer}
use Rattle.peer_step.specs.declared.answer.Answer.TheVariants.{Done, BadPlace, HistoryFull}
use Rattle.peer_tables.specs.Derived.{shown_in, counted_in, text_in, greatest_stamp}
use Rattle.peer_core.specs.Peer.{Peer, history, log, front, text, shown_elements}
use Rattle.peer_core.specs.Sound.{IsSound}
use Rattle.peer_tables.specs.Kept.{AreKnown}
use Rattle.peer_core.specs.Local.{fits_text, edit_of, new_request}
use Rattle.peer_core.specs.Answers.{rows_of_edit, answer_edit, answer_by_verdict, own_verdict, is_full_history}
use Rattle.peer_core.specs.After.{changed_by, takes_none}
use Rattle.peer_core.specs.Laws.{text_edited, EditLaw}
use Rattle.peer_tables.proofs.JournalLemmas.{no_row, log_law, follows_history, requests_request, entries_request}
use Rattle.peer_tables.proofs.HistoryLemmas.{order_push, has_order}
use Rattle.peer_tables.proofs.StableLemmas.{known_law, new_in_order}
use Rattle.peer_core.proofs.AnswerLemmas.Refusals.{edit_refuses}
use Rattle.peer_core.proofs.AnswerLemmas.Edits.{may_edit, shown_there, old_shown}
use Rattle.peer_core.proofs.EditLemmas.Pieces.{changed, apart, text_changed, text_inserted, text_first}
use Rattle.peer_core.proofs.EditLemmas.Counted.{older_element, none_greater, same_elsewhere, insert_shows, delete_hides, update_shows}

-- ---- the text with the edit

passes_at : (test : Name → Bool) (names : List Name) (k : ℕ) → k < length (filter test names) → test (slice_index_or (filter test names) k start) ≡ true
passes_at test [] k low = absurd (omega arith)
passes_at test (m ∷ names) k low = by (test m) refl k low (passes_at test names)
  where
    by : (b : Bool) → test m ≡ b → (k : ℕ) → k < length (cond b (m ∷ filter test names) (filter test names))
        → ((k : ℕ) → k < length (filter test names) → test (slice_index_or (filter test names) k start) ≡ true)
        → test (slice_index_or (cond b (m ∷ filter test names) (filter test names)) k start) ≡ true
    by true t zero low more = t
    by true t (suc k) low more = more k (omega arith)
    by false f k low more = more k low

some_piece : (o : Option (List ℕ)) → is_some o ≡ true → (old : List ℕ) × (o ≡ Some old)
some_piece None h = absurd (cc)
some_piece (Some old) h = (old, refl)

first_place : (names : List Name) (id : Name) → ((e : Name) → has_name names e ≡ true → name_lt id e ≡ false) → skip names id start ≡ 0
first_place names id older = ap (λ (k : ℕ). 0 + k) (none_greater id names 0 older)

place_after : (names : List Name) (id n : Name) → name_eq n start ≡ false → ((e : Name) → has_name names e ≡ true → name_lt id e ≡ false)
    → skip names id n ≡ position_or_len (name_eq n) names + 1
place_after names id n other older =
    rw other (ap (λ (k : ℕ). (position_or_len (name_eq n) names + 1) + k) (none_greater id names (position_or_len (name_eq n) names + 1) older) ∙ add-zero (position_or_len (name_eq n) names + 1))

edit_text : (R : List Request) (L : List Entry) (known : AreKnown R L) (edit : LocalEdit) (id : Name) (version : ℕ) → fits_text (length (shown_in R L)) edit ≡ true
    → FollowsHistory R (record { id = id; version = version; edit = edit_of (shown_in R L) edit })
    → is_granted (text_order (R ++ record { id = id; version = version; edit = edit_of (shown_in R L) edit } ∷ [])) L (record { id = id; version = version; edit = edit_of (shown_in R L) edit }) ≡ true
    → greatest_stamp R < id.stamp
    → text_in (R ++ record { id = id; version = version; edit = edit_of (shown_in R L) edit } ∷ []) L ≡ text_edited (text_in R L) edit
edit_text R L known edit id version place follows counts newer = by edit place follows counts
  where
    names : List Name
    names = text_order R

    f : Name → Option (List ℕ)
    f = shown_of R (counted_in R L)

    once : are_distinct names ≡ true
    once = order_once (placed_of R) (IsTree-placed_of R known.history)

    older : (e : Name) → has_name names e ≡ true → name_lt id e ≡ false
    older e h = older_element R id e newer (sym (has_order R e known.history) ∙ h)

    by : (edit : LocalEdit) → fits_text (length (shown_in R L)) edit ≡ true
        → FollowsHistory R (record { id = id; version = version; edit = edit_of (shown_in R L) edit })
        → is_granted (text_order (R ++ record { id = id; version = version; edit = edit_of (shown_in R L) edit } ∷ [])) L (record { id = id; version = version; edit = edit_of (shown_in R L) edit }) ≡ true
        → text_in (R ++ record { id = id; version = version; edit = edit_of (shown_in R L) edit } ∷ []) L ≡ text_edited (text_in R L) edit
    by (Insert zero letter) place follows counts =
        let q : Request = record { id = id; version = version; edit = edits.Insert start letter } in
        let g : Name → Option (List ℕ) = shown_of (R ++ q ∷ []) (counted_in (R ++ q ∷ []) L) in
        ap (filter_map g) (order_push R q known.history follows ∙ ap (λ (k : ℕ). insert names k id) (first_place names id older))
        ∙ text_first f g id letter names (insert_shows R L known id version start letter follows counts)
        (λ e h. same_elsewhere R L known q follows counts e (name_eq-comm id e ∙ apart names id e (new_in_order R L q known follows) h))
    by (Insert (suc at) letter) place follows counts =
        let n : Name = slice_index_or (shown_in R L) at start in
        let q : Request = record { id = id; version = version; edit = edits.Insert n letter } in
        let g : Name → Option (List ℕ) = shown_of (R ++ q ∷ []) (counted_in (R ++ q ∷ []) L) in
        let low : at < length (shown_in R L) = let le = leb-true (suc at) (length (shown_in R L)) place in omega (arith, le) in
        let old = old_shown R L at known.history low in
        ap (filter_map g) (order_push R q known.history follows ∙ ap (λ (k : ℕ). insert names k id) (place_after names id n old.other older))
        ∙ text_inserted f g id letter names at (insert_shows R L known id version n letter follows counts) once low
        (λ e h. same_elsewhere R L known q follows counts e (name_eq-comm id e ∙ apart names id e (new_in_order R L q known follows) h))
    by (Delete at) place follows counts =
        let n : Name = slice_index_or (shown_in R L) at start in
        let q : Request = record { id = id; version = version; edit = edits.Delete n } in
        let g : Name → Option (List ℕ) = shown_of (R ++ q ∷ []) (counted_in (R ++ q ∷ []) L) in
        ap (filter_map g) (order_push R q known.history follows)
        ∙ text_changed f g names at once (ltb-true at (length (shown_in R L)) place) (λ e other. same_elsewhere R L known q follows counts e other)
        ∙ ap (λ (o : Option (List ℕ)). changed o (text_in R L) at) (delete_hides R L known id version n follows counts)
    by (Update at letter) place follows counts =
        let n : Name = slice_index_or (shown_in R L) at start in
        let q : Request = record { id = id; version = version; edit = edits.Update n letter } in
        let g : Name → Option (List ℕ) = shown_of (R ++ q ∷ []) (counted_in (R ++ q ∷ []) L) in
        let low = ltb-true at (length (shown_in R L)) place in
        let piece = some_piece (f n) (passes_at (λ e. is_some (f e)) names at low) in
        ap (filter_map g) (order_push R q known.history follows)
        ∙ text_changed f g names at once low (λ e other. same_elsewhere R L known q follows counts e other)
        ∙ ap (λ (o : Option (List ℕ)). changed o (text_in R L) at)
        (update_shows R L known id version n letter piece.0 follows counts newer (shown_there R L at known.history low) piece.1)

-- ---- the law

-- what an edit has that is made
pub record IsMade (p : Peer) (edit : LocalEdit) (q : Request) : Type 0 where
  pub place : fits_text (length (shown_elements p)) edit ≡ true
  pub room : length (history p) < MAX_REQUESTS
  pub granted : own_verdict p (new_request p edit) ≡ Granted
  pub is : new_request p edit ≡ q

by_done : (nq q : Request) (v : Verdict) → answer_by_verdict nq v ≡ Done q → (v ≡ Granted) × (nq ≡ q)
by_done nq q Granted h = (refl, cc)
by_done nq q (Denied by) h = absurd (cc)

pub made_of : (p : Peer) (edit : LocalEdit) (q : Request) → answer_edit p edit ≡ Done q → IsMade p edit q
made_of p edit q done = by (first_of (rows_of_edit p edit)) refl done
  where
    by : (o : Option Answer) → first_of (rows_of_edit p edit) ≡ o → unwrap_or o (answer_by_verdict (new_request p edit) (own_verdict p (new_request p edit))) ≡ Done q → IsMade p edit q
    by (Some a) is h = absurd (let both = sym (edit_refuses p edit a (sym is)).none ∙ ap takes_none h in cc)
    by None is h =
        let rows = no_row (rows_of_edit p edit) is in
        let done = by_done (new_request p edit) q (own_verdict p (new_request p edit)) h in
        record {
          place = not-false (fits_text (length (shown_elements p)) edit)
              (when-None (not (fits_text (length (shown_elements p)) edit)) (BadPlace (length (shown_elements p))) rows.0);
          room = leb-false MAX_REQUESTS (length (history p)) (when-None (is_full_history p) HistoryFull rows.1.1.0);
          granted = done.0;
          is = done.1;
        }

-- where the front grants it, the request counts
front_counts : (p : Peer) (q : Request) → IsSound p → q.version ≡ front p → own_verdict p q ≡ Granted → is_granted (text_order (history p ++ q ∷ [])) (log p) q ≡ true
front_counts p q sound at_front granted =
    let names : List Name = text_order (history p ++ q ∷ []) in
    let verdict : request_verdict names (policy_of (log p)) q ≡ Granted =
    ap (λ (L : List Entry). request_verdict names (policy_of L) q) (sym (take-length (log p))) ∙ granted in
    let none = front_alone names (log p) q (log_law p.journal sound.journal) at_front ∙ ap (denial_by (front p)) verdict in
    ap is_none none

pub edit_law : EditLaw
edit_law p edit q sound done =
    let made = made_of p edit q done in
    let nq : Request = new_request p edit in
    let R : List Request = history p in
    let L : List Entry = log p in
    let may = may_edit p edit sound made.place made.room in
    let follows = follows_history p.journal nq may.follows in
    ap (λ (a : Answer). text (changed_by p (steps.Edit edit) a)) (done ∙ ap Done (sym made.is))
    ∙ ap (λ (S : List Request). text_in S (entries_of (p.journal ++ Coop nq ∷ []))) (requests_request p.journal nq)
    ∙ ap (text_in (R ++ nq ∷ [])) (entries_request p.journal nq)
    ∙ edit_text R L (known_law p.journal sound.journal) edit nq.id nq.version made.place follows (front_counts p nq sound refl made.granted) (omega arith)
