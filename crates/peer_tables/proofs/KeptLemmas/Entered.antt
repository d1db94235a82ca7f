-- What is kept once a log has one more entry.
use Rattle.std.proofs.Common.{◌≡◌, ℕ, ◌≤◌, Bool, true, false, not, ◌&&◌, ◌||◌, List, [], ◌∷◌, ◌++◌, length, None, Some, refl, sym, ap, subst, ◌∙◌}
use Rattle.std.specs.Prelude.{is_some, option_map, option_and_then, map, if◌then◌else◌}
use Rattle.std.specs.declared.option.Option.{Option}
use Rattle.std.specs.Option.{option_map_or}
use Rattle.std.proofs.lemmas.List.{length-map}
use Rattle.element_name.proofs.EachAfterLemmas.{EachAfter-push}
use Rattle.element_name.proofs.NameOrder.{same_name}
use Rattle.element_name.specs.Name.{Name, start, name_eq, has_name}
use Rattle.coop_request.specs.Request.{Request, user_of, element_of}
use Rattle.coop_request.specs.History.{text_order, request_of}
use Rattle.policy_book.specs.Entry.{Entry}
use Rattle.policy_book.specs.Reach.{narrowed_reach, is_reached}
use Rattle.auth_match.specs.declared.verdict.Verdict.{Verdict}
use Rattle.auth_match.specs.declared.verdict.Verdict.TheVariants.{Granted}
use Rattle.auth_match.specs.Requests.{request_verdict}
use Rattle.admin_log.specs.Log.{IsLog, FollowsLog, policy_of, validates}
use Rattle.request_state.specs.declared.state.State.{State}
use Rattle.request_state.specs.declared.state.State.TheVariants.{Tentative, Valid}
use Rattle.request_state.specs.declared.kept.Kept.{Kept}
use Rattle.request_state.specs.State.{is_tentative, is_invalid}
use Rattle.request_state.specs.Table.{kept_of, is_in_order, with_state, requests_kept, kept_shows}
use Rattle.check_remote.specs.State.{is_granted}
use Rattle.check_remote.specs.Laws.{state_after_entry as judged_after}
use Rattle.check_remote.proofs.States.{entry_law}
use Rattle.retro_undo.specs.Undo.{state_after_verdict as swept_after, kept_after, states_after, is_denied, is_undone, undone_count, have_elements, are_reached}
use Rattle.elem_show.specs.Cell.{Cell, cell_from, own_piece, shown}
use Rattle.elem_show.specs.Text.{shown_of}
use Rattle.tomb_seq.specs.declared.slot.Slot.{Slot}
use Rattle.tomb_seq.specs.Slots.{names_in, slots_by, marked_among}
use Rattle.tomb_seq.proofs.Has.{Has, Contains-from_Has}
use Rattle.tomb_seq.proofs.MarkLemmas.{among_law, names_by, slots_agree}
use Rattle.peer_tables.specs.Awaiting.{validated_by}
use Rattle.peer_tables.specs.Derived.{state_in, counted_in, undone_between}
use Rattle.peer_tables.specs.Kept.{AreTablesOf, AreKnown, states_confirmed, is_tentative_in, shows_in}
use Rattle.retro_undo.specs.Listed.{taken_within}
use Rattle.peer_tables.proofs.HistoryLemmas.{once_law}
use Rattle.peer_tables.proofs.StableLemmas.{element_in_order}
use Rattle.peer_tables.proofs.SameSetLemmas.{IsOnce, found_has, has_found}
use Rattle.retro_undo.proofs.Within.{IsListedIn, each_listed}
use Rattle.peer_tables.proofs.ReachedLemmas.{cell_filter, kept_has, no_start}
use Rattle.peer_tables.proofs.KeptLemmas.Tables.{all_has, all_at, filter_has, count_has, count_none, count_alike, requests_once, requests_alike, count_requests, granted_valid, kept_by, IsBy, Stands, stands, order_mapped, by_mapped, by_same}
use Rattle.peer_tables.proofs.KeptLemmas.States.{confirm_state, steps_law, undone_law, confirm_invalid, confirm_tentative, tentative_state, settled_invalid, confirm_none, confirm_other, confirm_own, undone_none, is_validation_of, validates_by, validation_reach, granted_later, shows_kept, reached_by}

-- ---- what is kept

module _ (R : List Request) (L : List Entry) (slots : List Slot) (table : List Kept) (stamp : ℕ) (e : Entry)
    (kept : AreTablesOf R L slots table stamp) (known : AreKnown R L) (follows : FollowsLog L e) where
  once : IsOnce R
  once = once_law R known.history

  grown : IsLog (L ++ e ∷ [])
  grown = EachAfter-push FollowsLog L e known.log follows

  carried : (q : Request) → Has R q → q.version ≤ length L
  carried q h = known.versions q (Contains-from_Has R q h)

  names_are : names_in slots ≡ text_order R
  names_are = ap names_in kept.marked ∙ names_by (shows_in R L) (text_order R)

  -- the verdict of the new policy
  abbrev later : Request → Verdict
  later q = request_verdict (text_order R) (policy_of (L ++ e ∷ [])) q

  validated_granted : (q : Request) → Has R q → state_in R L q ≡ Tentative → validates q.id e.op ≡ true → later q ≡ Granted
  validated_granted q h waits validation =
      granted_later (text_order R) L e known.log follows q (carried q h) waits (validation_reach (policy_of L) q.id (user_of q) e.op validation)

  state_later : (q : Request) → Has R q → state_in R (L ++ e ∷ []) q ≡ judged_after (state_in R L q) e.version (later q) (validates q.id e.op)
  state_later q h =
      entry_law (text_order R) L e q (carried q h) grown
      ∙ ap (λ v. judged_after (state_in R L q) v (later q) (validates q.id e.op)) (sym follows.numbered)

  -- the confirmed state of a request
  abbrev first : Request → State
  first q = confirm_state (state_in R L q) e.version (validates q.id e.op)

  -- ---- the confirmed table

  -- the table after it was confirmed
  abbrev done : List Kept
  done = states_confirmed (validated_by e.op) e.version table

  pub record IsConfirmed (new : List Kept) : Type 0 where
    pub by_states : IsBy first R new
    pub in_order : is_in_order new ≡ true
    pub size : length new ≡ length table

  tentative_named : (q : Request) (n : Name) → Has R q → name_eq q.id n ≡ true → is_tentative (state_in R L q) ≡ is_tentative_in table n
  tentative_named q n h same =
      let there : request_of R n ≡ Some q = subst (λ (m : Name). request_of R m ≡ Some q) (same_name q.id n same) (has_found R q once h) in
      sym (ap (λ (k : Option Kept). option_map_or is_tentative (option_map (λ x. x.state) k) false) (kept.states n ∙ ap (option_map (kept_by (state_in R L))) there))

  confirmed_by : (validated : Option Name) → ((n : Name) → validates n e.op ≡ is_validation_of validated n) → IsConfirmed (states_confirmed validated e.version table)
  confirmed_by None is = record {
    by_states = by_same (state_in R L) first R table kept.states (λ q h. confirm_none (state_in R L q) e.version ∙ ap (confirm_state (state_in R L q) e.version) (sym (is q.id)));
    in_order = kept.in_order;
    size = refl;
  }
  confirmed_by (Some n) is = by (is_tentative_in table n) refl
    where
      agree : is_tentative_in table n ≡ true → (q : Request) → Has R q → (b : Bool) → name_eq q.id n ≡ b
          → (if b then record { request = q; state = Valid e.version } else kept_by (state_in R L) q) ≡ kept_by first q
      agree waits q h true same =
          ap (λ (s : State). record { request = q; state = s })
          (confirm_own (state_in R L q) e.version (tentative_named q n h same ∙ waits) ∙ ap (confirm_state (state_in R L q) e.version) (sym (is q.id ∙ same)))
      agree waits q h false other =
          ap (λ (s : State). record { request = q; state = s })
          (confirm_none (state_in R L q) e.version ∙ ap (confirm_state (state_in R L q) e.version) (sym (is q.id ∙ other)))

      stay : is_tentative_in table n ≡ false → (q : Request) → Has R q → (b : Bool) → name_eq q.id n ≡ b → state_in R L q ≡ first q
      stay none q h true same = confirm_other (state_in R L q) e.version (validates q.id e.op) (tentative_named q n h same ∙ none)
      stay none q h false other = confirm_none (state_in R L q) e.version ∙ ap (confirm_state (state_in R L q) e.version) (sym (is q.id ∙ other))

      keeps : (k : Kept) (b : Bool) → (if b then record { request = k.request; state = Valid e.version } else k).request ≡ k.request
      keeps k true = refl
      keeps k false = refl

      by : (b : Bool) → is_tentative_in table n ≡ b → IsConfirmed (if b then with_state table n (Valid e.version) else table)
      by true waits =
          let change : Kept → Kept = λ k. if name_eq k.request.id n then record { request = k.request; state = Valid e.version } else k in
          let same : (k : Kept) → (change k).request ≡ k.request = λ k. keeps k (name_eq k.request.id n) in
          record {
            by_states = by_mapped change same (state_in R L) first R table kept.states (λ q h. agree waits q h (name_eq q.id n) refl);
            in_order = order_mapped change same table ∙ kept.in_order;
            size = length-map table change;
          }
      by false none = record {
        by_states = by_same (state_in R L) first R table kept.states (λ q h. stay none q h (name_eq q.id n) refl);
        in_order = kept.in_order;
        size = refl;
      }

  pub confirmed_law : IsConfirmed done
  confirmed_law = confirmed_by (validated_by e.op) (λ n. validates_by n e.op)

  by_name : (k : Kept) → Has done k → Stands first R k
  by_name k h = stands first R done k confirmed_law.in_order confirmed_law.by_states h

  has_request : (k : Kept) → Has done k → Has R k.request
  has_request k h = found_has R k.request.id k.request (by_name k h).found

  pub elements_law : have_elements (names_in slots) done ≡ true
  elements_law = all_has (λ k. has_name (names_in slots) (element_of k.request)) done
      (λ k h. ap (λ (names : List Name). has_name names (element_of k.request)) names_are ∙ element_in_order R L k.request known (has_request k h))

  pub reached_law : are_reached (narrowed_reach (policy_of L) e.op) (names_in slots) (policy_of (L ++ e ∷ [])) done ≡ true
  reached_law = all_has (λ k. not (is_undone (names_in slots) (policy_of (L ++ e ∷ [])) k) || is_reached (narrowed_reach (policy_of L) e.op) (user_of k.request)) done
      (λ k h. reached_by (is_tentative k.state) (is_denied (request_verdict (names_in slots) (policy_of (L ++ e ∷ [])) k.request)) (is_reached (narrowed_reach (policy_of L) e.op) (user_of k.request))
      (λ waits out.
      ap (λ (names : List Name). is_denied (request_verdict names (policy_of (L ++ e ∷ [])) k.request)) names_are
      ∙ ap is_denied (granted_later (text_order R) L e known.log follows k.request (carried k.request (has_request k h))
      (confirm_tentative (state_in R L k.request) e.version (validates k.request.id e.op) (ap is_tentative (sym (by_name k h).state) ∙ waits)) out)))

  -- ---- the swept table

  abbrev swept : List Kept
  swept = states_after (names_in slots) (policy_of (L ++ e ∷ [])) e.version done

  swept_by : IsBy (state_in R (L ++ e ∷ [])) R swept
  swept_by = by_mapped (kept_after (names_in slots) (policy_of (L ++ e ∷ [])) e.version) (λ k. refl) first (state_in R (L ++ e ∷ [])) R done confirmed_law.by_states
      (λ q h. ap (λ (s : State). record { request = q; state = s })
      (ap (λ (names : List Name). swept_after (first q) e.version (request_verdict names (policy_of (L ++ e ∷ [])) q)) names_are
      ∙ steps_law (state_in R L q) e.version (later q) (validates q.id e.op) (λ waits validation. validated_granted q h waits validation)
      ∙ sym (state_later q h)))

  swept_order : is_in_order swept ≡ true
  swept_order = order_mapped (kept_after (names_in slots) (policy_of (L ++ e ∷ [])) e.version) (λ k. refl) done ∙ confirmed_law.in_order

  -- how many are undone
  pub undone_law_of : undone_count (names_in slots) (policy_of (L ++ e ∷ [])) done ≡ undone_between R L (L ++ e ∷ [])
  undone_law_of =
      count_requests (is_undone (names_in slots) (policy_of (L ++ e ∷ []))) (λ q. is_tentative (first q) && is_denied (request_verdict (names_in slots) (policy_of (L ++ e ∷ [])) q)) done
      (λ k h. ap (λ s. is_tentative s && is_denied (request_verdict (names_in slots) (policy_of (L ++ e ∷ [])) k.request)) (by_name k h).state)
      ∙ count_alike (λ q. is_tentative (first q) && is_denied (request_verdict (names_in slots) (policy_of (L ++ e ∷ [])) q)) (requests_kept done) R
      (requests_once done confirmed_law.in_order) once (requests_alike first R done confirmed_law.by_states)
      ∙ count_has (λ q. is_tentative (first q) && is_denied (request_verdict (names_in slots) (policy_of (L ++ e ∷ [])) q)) (λ q. is_tentative (state_in R L q) && is_invalid (state_in R (L ++ e ∷ []) q)) R
      (λ q h. ap (λ (names : List Name). is_tentative (first q) && is_denied (request_verdict names (policy_of (L ++ e ∷ [])) q)) names_are
      ∙ undone_law (state_in R L q) e.version (later q) (validates q.id e.op) (λ waits validation. validated_granted q h waits validation)
      ∙ ap (λ s. is_tentative (state_in R L q) && is_invalid s) (sym (state_later q h)))

  -- ---- what the operation may reach

  -- the elements of the Tentative requests within the reach
  abbrev reached : List Name
  reached = taken_within element_of (narrowed_reach (policy_of L) e.op) table

  pub covered : (q : Request) → Has R q → is_tentative (state_in R L q) ≡ true → is_reached (narrowed_reach (policy_of L) e.op) (user_of q) ≡ true → has_name reached (element_of q) ≡ true
  covered q h waits within =
      let k : Kept = kept_by (state_in R L) q in
      let absent : kept_of table start ≡ None = kept.states start ∙ ap (option_map (kept_by (state_in R L))) (no_start [] R known.history) in
      let there : Has table k = kept_has table q.id k (kept.states q.id ∙ ap (option_map (kept_by (state_in R L))) (has_found R q once h)) in
      let reach = narrowed_reach (policy_of L) e.op in
      all_at (IsListedIn element_of reach table) table k (each_listed element_of reach table absent) there waits within

  -- a request of another element is Invalid as before
  stays_invalid : (q : Request) → Has R q → has_name reached (element_of q) ≡ false → is_invalid (state_in R (L ++ e ∷ []) q) ≡ is_invalid (state_in R L q)
  stays_invalid q h other = ap is_invalid (state_later q h) ∙ by (is_tentative (state_in R L q)) refl (is_reached (narrowed_reach (policy_of L) e.op) (user_of q)) refl
    where
      by : (t : Bool) → is_tentative (state_in R L q) ≡ t → (r : Bool) → is_reached (narrowed_reach (policy_of L) e.op) (user_of q) ≡ r
          → is_invalid (judged_after (state_in R L q) e.version (later q) (validates q.id e.op)) ≡ is_invalid (state_in R L q)
      by true waits true within = absurd (let there = covered q h waits within in cc)
      by true waits false out =
          ap (λ w. is_invalid (judged_after (state_in R L q) e.version w (validates q.id e.op)))
          (granted_later (text_order R) L e known.log follows q (carried q h) (tentative_state (state_in R L q) waits) out)
          ∙ confirm_invalid (state_in R L q) e.version (validates q.id e.op)
      by false settled r is = settled_invalid (state_in R L q) e.version (later q) (validates q.id e.op) settled

  -- another element shows as before
  shows_still : (n : Name) → has_name reached n ≡ false → shows_in R L n ≡ shows_in R (L ++ e ∷ []) n
  shows_still n other = ap (λ (c : Option Cell). is_some (option_and_then shown c)) (by (own_piece R n))
    where
      agree : (q : Request) → Has R q → name_eq (element_of q) n ≡ true → is_granted (text_order R) L q ≡ is_granted (text_order R) (L ++ e ∷ []) q
      agree q h same =
          granted_valid (text_order R) L q
          ∙ ap not (sym (stays_invalid q h (ap (has_name reached) (same_name (element_of q) n same) ∙ other)))
          ∙ sym (granted_valid (text_order R) (L ++ e ∷ []) q)

      by : (o : Option (List ℕ)) → option_map (λ own. cell_from n own (counted_in R L)) o ≡ option_map (λ own. cell_from n own (counted_in R (L ++ e ∷ []))) o
      by None = refl
      by (Some own) = ap (λ (c : Cell). Some c) (cell_filter n own (is_granted (text_order R) L) (is_granted (text_order R) (L ++ e ∷ [])) R agree)

  -- ---- after the sweep

  kept_with : (new_slots : List Slot) → new_slots ≡ slots_by (shows_in R (L ++ e ∷ [])) (text_order R) → AreTablesOf R (L ++ e ∷ []) new_slots swept stamp
  kept_with new_slots marked = record {
    marked = marked;
    states = swept_by;
    in_order = swept_order;
    size = length-map done (kept_after (names_in slots) (policy_of (L ++ e ∷ [])) e.version) ∙ confirmed_law.size ∙ kept.size;
    greatest = kept.greatest;
  }

  shows_now : (n : Name) → kept_shows swept n ≡ shows_in R (L ++ e ∷ []) n
  shows_now n = shows_kept R (L ++ e ∷ []) swept known.history swept_order swept_by n

  -- the elements that the operation may reach are marked anew
  pub kept_marked : AreTablesOf R (L ++ e ∷ []) (map (marked_among reached (kept_shows swept)) slots) swept stamp
  kept_marked = kept_with (map (marked_among reached (kept_shows swept)) slots)
      (ap (λ (ss : List Slot). map (marked_among reached (kept_shows swept)) ss) kept.marked
      ∙ among_law (shows_in R L) (kept_shows swept) reached (text_order R) (λ n outside. shows_still n outside ∙ sym (shows_now n))
      ∙ slots_agree (kept_shows swept) (shows_in R (L ++ e ∷ [])) (text_order R) (λ n h. shows_now n))

  -- nothing was undone, so no mark changes
  pub kept_unmarked : undone_between R L (L ++ e ∷ []) ≡ 0 → AreTablesOf R (L ++ e ∷ []) slots swept stamp
  kept_unmarked none = kept_with slots (kept.marked ∙ ap (λ (counted : List Request). slots_by (λ n. is_some (shown_of R counted n)) (text_order R)) (sym same_counted))
    where
      same_invalid : (q : Request) → Has R q → is_invalid (state_in R (L ++ e ∷ []) q) ≡ is_invalid (state_in R L q)
      same_invalid q h =
          ap is_invalid (state_later q h)
          ∙ undone_none (state_in R L q) e.version (later q) (validates q.id e.op)
          (ap (λ s. is_tentative (state_in R L q) && is_invalid s) (sym (state_later q h))
          ∙ count_none (λ r. is_tentative (state_in R L r) && is_invalid (state_in R (L ++ e ∷ []) r)) R q none h)

      same_counted : counted_in R (L ++ e ∷ []) ≡ counted_in R L
      same_counted = filter_has (is_granted (text_order R) (L ++ e ∷ [])) (is_granted (text_order R) L) R
          (λ q h. granted_valid (text_order R) (L ++ e ∷ []) q ∙ ap not (same_invalid q h) ∙ sym (granted_valid (text_order R) L q))
