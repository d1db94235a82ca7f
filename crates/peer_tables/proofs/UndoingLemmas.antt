-- What an entry may undo, `specs/Undoing.antt`.
use Rattle.std.proofs.Common.{◌≡◌, ℕ, ◌+◌, inl, inr, ⊎_elim, Bool, true, false, ◌&&◌, List, [], ◌∷◌, ◌++◌, length, Some, refl, ap, sym, subst, ◌∙◌, map, filter, ◌≤◌}
use Rattle.admin_log.specs.Log.{FollowsLog, policy_of, validates}
use Rattle.auth_match.specs.Requests.{request_verdict}
use Rattle.auth_match.specs.declared.verdict.Verdict.{Verdict}
use Rattle.auth_match.specs.declared.verdict.Verdict.TheVariants.{Granted}
use Rattle.check_remote.proofs.States.{entry_law}
use Rattle.check_remote.specs.Laws.{state_after_entry as judged_after}
use Rattle.coop_request.specs.History.{text_order}
use Rattle.coop_request.specs.Request.{Request, element_of, user_of}
use Rattle.edit_message.specs.Message.{entries_of, requests_of}
use Rattle.edit_message.specs.declared.message.Message.{Message}
use Rattle.element_name.proofs.EachAfterLemmas.{EachAfter-push}
use Rattle.element_name.proofs.NameOrder.{name_eq-refl, same_name}
use Rattle.element_name.specs.Name.{Name, has_name, name_eq, name_lt, start}
use Rattle.peer_tables.proofs.KeptLemmas.Entered.{covered}
use Rattle.peer_tables.proofs.KeptLemmas.States.{confirm_invalid, granted_later, tentative_state, undone_none}
use Rattle.peer_tables.proofs.KeptLemmas.Tables.{stands}
use Rattle.peer_tables.proofs.SameSetLemmas.{found_has}
use Rattle.peer_tables.proofs.StableLemmas.{known_law}
use Rattle.peer_tables.specs.Undoing.{next_reach, is_undone_between, has_tentative, AreOfTentative, HaveUndone}
use Rattle.peer_tables.specs.Kept.{AreKnown, AreTablesOf, IsKeptOf}
use Rattle.peer_tables.specs.Derived.{state_in}
use Rattle.retro_undo.specs.declared.walk.Whose.{Whose}
use Rattle.retro_undo.specs.declared.walk.Whose.TheVariants.{All, One}
use Rattle.retro_undo.specs.Listed.{taken_above, taken_of_users, taken_within}
use Rattle.retro_undo.specs.Part.{is_in, is_next}
use Rattle.policy_book.specs.Entry.{Entry}
use Rattle.policy_book.specs.Reach.{is_reached, narrowed_reach}
use Rattle.policy_book.specs.declared.fault.EntryFault.{EntryFault}
use Rattle.policy_book.specs.declared.op.AdminOp.{AdminOp}
use Rattle.policy_book.specs.declared.reach.Reach.{Reach}
use Rattle.policy_book.specs.declared.reach.Reach.TheVariants.{Everyone, Nobody, Users}
use Rattle.request_state.specs.State.{is_invalid, is_tentative}
use Rattle.request_state.specs.declared.kept.Kept.{Kept}
use Rattle.request_state.specs.declared.state.State.{State}
use Rattle.request_state.specs.declared.state.State.TheVariants.{Invalid, Tentative, Valid}
use Rattle.std.proofs.lemmas.Bool.{and_from, and_parts, cases_Bool}
use Rattle.std.proofs.lemmas.List.Folds.{list_any-from_Any}
use Rattle.std.specs.Prelude.{if◌then◌else◌, is_some}
use Rattle.std.specs.declared.option.Option.{Option}
use Rattle.tomb_seq.proofs.Has.{Has, Contains-from_Has, Has-from_Contains, Has-append_cases, has_name-from_Has, Has-from_has_name}
use Rattle.tomb_seq.specs.declared.slot.Slot.{Slot}

-- ---- the elements of Tentative requests

module _ (R : List Request) (L : List Entry) (slots : List Slot) (table : List Kept) (stamp : ℕ) (kept : AreTablesOf R L slots table stamp) where
  kept_tentative : (k : Kept) → Has table k → is_tentative k.state ≡ true → has_tentative R L (element_of k.request) ≡ true
  kept_tentative k there waits =
      let by = stands (state_in R L) R table k kept.in_order kept.states there in
      let has : Has R k.request = found_has R k.request.id k.request by.found in
      let at = Contains-from_Has R k.request has in
      let state : is_tentative (state_in R L k.request) ≡ true = ap is_tentative (sym by.state) ∙ waits in
      list_any-from_Any (λ q. name_eq (element_of q) (element_of k.request) && is_tentative (state_in R L q)) R (
        at.0,
        k.request,
        at.1,
        at.2,
        and_from (name_eq (element_of k.request) (element_of k.request)) (is_tentative (state_in R L k.request)) (name_eq-refl (element_of k.request)) state,
      )

  mapped_tentative : (test : Kept → Bool) → ((k : Kept) → test k ≡ true → is_tentative k.state ≡ true) → (part : List Kept) → ((k : Kept) → Has part k → Has table k)
      → (e : Name) → has_name (map (λ k. element_of k.request) (filter test part)) e ≡ true → has_tentative R L e ≡ true
  mapped_tentative test waits [] within e h = absurd cc
  mapped_tentative test waits (k ∷ part) within e h = by (test k) refl h (mapped_tentative test waits part (λ x there. within x (inr there)) e)
    where
      by : (b : Bool) → test k ≡ b → has_name (map (λ (x : Kept). element_of x.request) (if b then k ∷ filter test part else filter test part)) e ≡ true
          → (has_name (map (λ (x : Kept). element_of x.request) (filter test part)) e ≡ true → has_tentative R L e ≡ true) → has_tentative R L e ≡ true
      by true passes g rest = ⊎_elim
          (λ (same : name_eq e (element_of k.request) ≡ true).
          subst (λ (n : Name). has_tentative R L n ≡ true) (sym (same_name e (element_of k.request) same)) (kept_tentative k (within k (inl refl)) (waits k passes)))
          (λ (other : name_eq e (element_of k.request) ≡ false). rest (rw other at g))
          (cases_Bool (name_eq e (element_of k.request)))
      by false fails g rest = rest g

  above_tentative : (whose : Whose) (e : Name) → has_name (taken_above element_of whose start table) e ≡ true → has_tentative R L e ≡ true
  above_tentative whose e h =
      mapped_tentative (is_next whose start)
      (λ k passes. (and_parts (is_tentative k.state) (is_in whose k.request && name_lt start k.request.id) passes).0) table (λ k there. there) e h

  users_tentative : (users : List ℕ) (e : Name) → has_name (taken_of_users element_of users table) e ≡ true → has_tentative R L e ≡ true
  users_tentative [] e h = absurd cc
  users_tentative (u ∷ users) e h = ⊎_elim
      (λ (own : Has (taken_above element_of (One u) start table) e). above_tentative (One u) e (has_name-from_Has (taken_above element_of (One u) start table) e own))
      (λ (others : Has (taken_of_users element_of users table) e). users_tentative users e (has_name-from_Has (taken_of_users element_of users table) e others))
      (Has-append_cases (taken_above element_of (One u) start table) (taken_of_users element_of users table) e
      (Has-from_has_name (taken_above element_of (One u) start table ++ taken_of_users element_of users table) e h))

  -- what is reached is of Tentative requests
  pub reached_tentative : (reach : Reach) → AreOfTentative R L (taken_within element_of reach table)
  reached_tentative Nobody e h = absurd cc
  reached_tentative (Users users) e h = users_tentative users e h
  reached_tentative Everyone e h = above_tentative All e h

-- ---- one more entry

pub not_both : (s : State) → (is_tentative s && is_invalid s) ≡ true → ⊥
not_both Tentative h = absurd cc
not_both (Valid at) h = absurd cc
not_both (Invalid at by) h = absurd cc

module _ (R : List Request) (L : List Entry) (e : Entry) (known : AreKnown R L) (follows : FollowsLog L e) (q : Request) (there : Has R q) where
  carried : q.version ≤ length L
  carried = known.versions q (Contains-from_Has R q there)

  -- the verdict of the new policy
  abbrev later : Verdict
  later = request_verdict (text_order R) (policy_of (L ++ e ∷ [])) q

  state_later : state_in R (L ++ e ∷ []) q ≡ judged_after (state_in R L q) (length L + 1) later (validates q.id e.op)
  state_later = entry_law (text_order R) L e q carried (EachAfter-push FollowsLog L e known.log follows)

  -- a request that isn't undone is Invalid as before
  pub stays_invalid : is_undone_between R L (L ++ e ∷ []) q ≡ false → is_invalid (state_in R (L ++ e ∷ []) q) ≡ is_invalid (state_in R L q)
  stays_invalid stays =
      ap is_invalid state_later
      ∙ undone_none (state_in R L q) (length L + 1) later (validates q.id e.op) (ap (λ s. is_tentative (state_in R L q) && is_invalid s) (sym state_later) ∙ stays)

  -- one that is undone is of a user within the reach
  pub undone_reached : is_undone_between R L (L ++ e ∷ []) q ≡ true → is_reached (narrowed_reach (policy_of L) e.op) (user_of q) ≡ true
  undone_reached undone = by (is_reached (narrowed_reach (policy_of L) e.op) (user_of q)) refl
    where
      by : (r : Bool) → is_reached (narrowed_reach (policy_of L) e.op) (user_of q) ≡ r → r ≡ true
      by true within = refl
      by false out =
          let parts = and_parts (is_tentative (state_in R L q)) (is_invalid (state_in R (L ++ e ∷ []) q)) undone in
          let granted : later ≡ Granted = granted_later (text_order R) L e known.log follows q carried (tentative_state (state_in R L q) parts.0) out in
          let same : is_invalid (state_in R (L ++ e ∷ []) q) ≡ is_invalid (state_in R L q) =
          ap is_invalid state_later ∙ ap (λ w. is_invalid (judged_after (state_in R L q) (length L + 1) w (validates q.id e.op))) granted
          ∙ confirm_invalid (state_in R L q) (length L + 1) (validates q.id e.op) in
          absurd (not_both (state_in R L q) (and_from (is_tentative (state_in R L q)) (is_invalid (state_in R L q)) parts.0 (sym same ∙ parts.1)))

-- ---- a journal

module _ (J : List Message) (log : List Entry) (slots : List Slot) (table : List Kept) (stamp count : ℕ) (k : IsKeptOf J log slots table stamp count) where
  pub journal_tentative : (reach : Reach) (elements : List Name) → elements ≡ taken_within element_of reach table → AreOfTentative (requests_of J) (entries_of J) elements
  journal_tentative reach elements is e h =
      ap (λ (L : List Entry). has_tentative (requests_of J) L e) (sym k.entries)
      ∙ reached_tentative (requests_of J) log slots table stamp k.kept reach e (ap (λ (names : List Name). has_name names e) (sym is) ∙ h)

  pub journal_undone : (op : Option AdminOp) (reach : Reach) (elements : List Name) → reach ≡ next_reach (entries_of J) op
      → elements ≡ taken_within element_of reach table → (e : Entry) → FollowsLog (entries_of J) e → op ≡ Some e.op
      → HaveUndone (requests_of J) (entries_of J) (entries_of J ++ e ∷ []) elements
  journal_undone op reach elements is_reach is e follows is_op =
      let R : List Request = requests_of J in
      let known : AreKnown R log = subst (λ (L : List Entry). AreKnown R L) (sym k.entries) (known_law J k.journal) in
      let here : FollowsLog log e = subst (λ (L : List Entry). FollowsLog L e) (sym k.entries) follows in
      let reach_is : reach ≡ narrowed_reach (policy_of log) e.op =
      is_reach ∙ ap (next_reach (entries_of J)) is_op
      ∙ ap (λ (fault : Option EntryFault). if is_some fault then Nobody else narrowed_reach (policy_of (entries_of J)) e.op) follows.legal
      ∙ ap (λ (L : List Entry). narrowed_reach (policy_of L) e.op) (sym k.entries) in
      subst (λ (L : List Entry). HaveUndone R L (L ++ e ∷ []) elements) k.entries
      (λ q there undone.
      let has : Has R q = Has-from_Contains R q there in
      let waits = (and_parts (is_tentative (state_in R log q)) (is_invalid (state_in R (log ++ e ∷ []) q)) undone).0 in
      ap (λ (names : List Name). has_name names (element_of q)) (is ∙ ap (λ (r : Reach). taken_within element_of r table) reach_is)
      ∙ covered R log slots table stamp e k.kept known here q has waits (undone_reached R log e known here q has undone))
