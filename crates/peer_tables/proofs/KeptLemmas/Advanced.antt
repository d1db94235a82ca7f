-- The steps of an advance lead to what is kept.
use Rattle.std.proofs.Common.{◌≡◌, ℕ, ◌<◌, ◌≤◌, ◌^◌, ⊎_elim, true, false, List, [], ◌∷◌, ◌++◌, length, sym, ap, subst, ◌∙◌, arith}
use Rattle.std.specs.Prelude.{nat_lt, map}
use Rattle.std.specs.declared.option.Option.{Option}
use Rattle.std.proofs.lemmas.Bool.{cases_Bool, ltb-true, ltb-false}
use Rattle.std.specs.Bool.{IsTrue}
use Rattle.element_name.proofs.EachAfterLemmas.{EachAfter-push}
use Rattle.element_name.specs.Name.{Name}
use Rattle.coop_request.specs.Request.{Request, element_of}
use Rattle.policy_book.specs.declared.op.AdminOp.{AdminOp}
use Rattle.policy_book.specs.Entry.{Entry, is_entry}
use Rattle.edit_message.specs.declared.message.Message.{Message}
use Rattle.edit_message.specs.declared.message.Message.TheVariants.{Admin}
use Rattle.edit_message.specs.Message.{requests_of, entries_of}
use Rattle.coop_request.specs.declared.request.TheConstants.{MAX_REQUESTS}
use Rattle.policy_book.specs.Policy.{Policy}
use Rattle.policy_book.specs.declared.reach.Reach.{Reach}
use Rattle.policy_book.specs.Reach.{narrowed_reach}
use Rattle.admin_log.specs.Log.{FollowsLog, policy_of}
use Rattle.request_state.specs.declared.kept.Kept.{Kept}
use Rattle.retro_undo.specs.Listed.{taken_within}
use Rattle.retro_undo.specs.Undo.{states_after, undone_count, have_elements, are_reached}
use Rattle.request_state.specs.Table.{kept_shows}
use Rattle.tomb_seq.specs.declared.slot.Slot.{Slot}
use Rattle.tomb_seq.specs.Slots.{names_in, marked_among}
use Rattle.peer_tables.specs.Awaiting.{validated_by}
use Rattle.peer_tables.specs.Derived.{undone_between}
use Rattle.peer_tables.specs.Kept.{AreTablesOf, IsKeptOf, AreKnown, IsAdvancing, states_confirmed}
use Rattle.peer_tables.specs.Journal.{FollowsJournal}
use Rattle.peer_tables.proofs.JournalLemmas.{follows_log, formed_push, requests_entry, entries_entry}
use Rattle.peer_tables.proofs.StableLemmas.{known_law}
use Rattle.peer_tables.proofs.KeptLemmas.Entered.{confirmed_law, elements_law, reached_law, undone_law_of, kept_marked, kept_unmarked}

-- ---- the steps of an advance

module _ (L : List Entry) (slots : List Slot) (table : List Kept) (e : Entry)
    (middle : List Kept) (op : AdminOp) (validated : Option Name) (version : ℕ)
    (is_op : op ≡ e.op) (is_validated : validated ≡ validated_by op) (is_version : version ≡ e.version)
    (is_confirmed : middle ≡ states_confirmed validated version table) where
  is : middle ≡ states_confirmed (validated_by e.op) e.version table
  is =
      is_confirmed
      ∙ ap (λ (o : Option Name). states_confirmed o version table) (is_validated ∙ ap validated_by is_op)
      ∙ ap (λ v. states_confirmed (validated_by e.op) v table) is_version

  -- what is asked of the sweep
  module _ (a : IsAdvancing L slots table e) where
    pub elements_before : have_elements (names_in slots) middle ≡ true
    elements_before =
        subst (λ (t : List Kept). have_elements (names_in slots) t ≡ true) (sym is)
        (elements_law a.requests L slots table a.stamp e a.kept a.known a.follows)

    pub few_before : length middle < 2 ^ 32
    few_before =
        let size : length middle ≡ length table =
        ap (λ (t : List Kept). length t) is ∙ (confirmed_law a.requests L slots table a.stamp e a.kept a.known a.follows).size in
        omega (arith, size, a.kept.size, a.few)

    pub reached_before : (M : List Entry) (known_op : AdminOp) (old new : Policy) (reach : Reach) → M ≡ L ++ e ∷ [] → known_op ≡ e.op → old ≡ policy_of L → new ≡ policy_of M
        → reach ≡ narrowed_reach old known_op → are_reached reach (names_in slots) new middle ≡ true
    reached_before M known_op old new reach is_log is_known is_old is_new is_reach =
        ap (λ (r : Reach). are_reached r (names_in slots) new middle) (is_reach ∙ ap (λ (p : Policy). narrowed_reach p known_op) is_old ∙ ap (narrowed_reach (policy_of L)) is_known)
        ∙ ap (λ (p : Policy). are_reached (narrowed_reach (policy_of L) e.op) (names_in slots) p middle) (is_new ∙ ap policy_of is_log)
        ∙ subst (λ (t : List Kept). are_reached (narrowed_reach (policy_of L) e.op) (names_in slots) (policy_of (L ++ e ∷ [])) t ≡ true) (sym is)
        (reached_law a.requests L slots table a.stamp e a.kept a.known a.follows)

  -- what the sweep makes
  module _ (M : List Entry) (p : Policy) (new : List Kept) (count : ℕ)
      (is_log : M ≡ L ++ e ∷ []) (is_policy : p ≡ policy_of M)
      (is_states : new ≡ states_after (names_in slots) p version middle)
      (is_count : count ≡ undone_count (names_in slots) p middle)
      (R : List Request) (stamp : ℕ) (kept : AreTablesOf R L slots table stamp) (known : AreKnown R L) (follows : FollowsLog L e) where
    policy_is : p ≡ policy_of (L ++ e ∷ [])
    policy_is = is_policy ∙ ap policy_of is_log

    states_are : new ≡ states_after (names_in slots) (policy_of (L ++ e ∷ [])) e.version (states_confirmed (validated_by e.op) e.version table)
    states_are =
        is_states
        ∙ ap (λ (q : Policy). states_after (names_in slots) q version middle) policy_is
        ∙ ap (λ v. states_after (names_in slots) (policy_of (L ++ e ∷ [])) v middle) is_version
        ∙ ap (λ (t : List Kept). states_after (names_in slots) (policy_of (L ++ e ∷ [])) e.version t) is

    pub undone_is : count ≡ undone_between R L M
    undone_is =
        is_count
        ∙ ap (λ (q : Policy). undone_count (names_in slots) q middle) policy_is
        ∙ ap (undone_count (names_in slots) (policy_of (L ++ e ∷ []))) is
        ∙ undone_law_of R L slots table stamp e kept known follows
        ∙ ap (undone_between R L) (sym is_log)

    kept_at : (new_slots : List Slot)
        → AreTablesOf R (L ++ e ∷ []) new_slots (states_after (names_in slots) (policy_of (L ++ e ∷ [])) e.version (states_confirmed (validated_by e.op) e.version table)) stamp
        → AreTablesOf R M new_slots new stamp
    kept_at new_slots k =
        subst (λ (N : List Entry). AreTablesOf R N new_slots new stamp) (sym is_log)
        (subst (λ (t : List Kept). AreTablesOf R (L ++ e ∷ []) new_slots t stamp) (sym states_are) k)

    advanced_marked : (known_op : AdminOp) (old : Policy) (reach : Reach) (elements : List Name) → known_op ≡ e.op → old ≡ policy_of L → reach ≡ narrowed_reach old known_op
        → elements ≡ taken_within element_of reach table → (new_slots : List Slot) → new_slots ≡ map (marked_among elements (kept_shows new)) slots → AreTablesOf R M new_slots new stamp
    advanced_marked known_op old reach elements is_known is_old is_reach are new_slots marked =
        let reach_is : reach ≡ narrowed_reach (policy_of L) e.op = is_reach ∙ ap (λ (q : Policy). narrowed_reach q known_op) is_old ∙ ap (narrowed_reach (policy_of L)) is_known in
        let elements_are : elements ≡ taken_within element_of (narrowed_reach (policy_of L) e.op) table = are ∙ ap (λ (r : Reach). taken_within element_of r table) reach_is in
        kept_at new_slots
        (subst (λ (s : List Slot). AreTablesOf R (L ++ e ∷ []) s (states_after (names_in slots) (policy_of (L ++ e ∷ [])) e.version (states_confirmed (validated_by e.op) e.version table)) stamp)
        (sym (marked ∙ ap (λ (names : List Name). map (marked_among names (kept_shows new)) slots) elements_are
        ∙ ap (λ (t : List Kept). map (marked_among (taken_within element_of (narrowed_reach (policy_of L) e.op) table) (kept_shows t)) slots) states_are))
        (kept_marked R L slots table stamp e kept known follows))

    advanced_unmarked : count ≤ 0 → AreTablesOf R M slots new stamp
    advanced_unmarked none =
        let zero : count ≡ 0 = omega arith in
        kept_at slots (kept_unmarked R L slots table stamp e kept known follows (ap (undone_between R L) (sym is_log) ∙ sym undone_is ∙ zero))

    -- with marks where anything was undone
    pub advanced : (known_op : AdminOp) (old : Policy) (reach : Reach) (elements : List Name) → known_op ≡ e.op → old ≡ policy_of L → reach ≡ narrowed_reach old known_op
        → elements ≡ taken_within element_of reach table → (new_slots : List Slot) → (0 < count → new_slots ≡ map (marked_among elements (kept_shows new)) slots)
        → (count ≤ 0 → new_slots ≡ slots) → AreTablesOf R M new_slots new stamp
    advanced known_op old reach elements is_known is_old is_reach are new_slots marked unmarked = ⊎_elim
        (λ (t : nat_lt 0 count ≡ true). advanced_marked known_op old reach elements is_known is_old is_reach are new_slots (marked (ltb-true 0 count t)))
        (λ (f : nat_lt 0 count ≡ false).
        let none : count ≤ 0 = ltb-false 0 count f in
        subst (λ (s : List Slot). AreTablesOf R M s new stamp) (sym (unmarked none)) (advanced_unmarked none))
        (cases_Bool (nat_lt 0 count))

-- ---- a journal with one more entry

module _ (J : List Message) (L : List Entry) (slots : List Slot) (table : List Kept) (stamp count : ℕ)
    (k : IsKeptOf J L slots table stamp count) (e : Entry) (follows : FollowsJournal J (Admin e)) where
  known_of : AreKnown (requests_of J) L
  known_of = subst (λ (M : List Entry). AreKnown (requests_of J) M) (sym k.entries) (known_law J k.journal)

  pub is_advancing : IsAdvancing L slots table e
  is_advancing = record {
    requests = requests_of J;
    stamp = stamp;
    kept = k.kept;
    known = known_of;
    few = k.few;
    follows = subst (λ (M : List Entry). FollowsLog M e) (sym k.entries) (follows_log J e follows);
  }

  -- the log is that of the longer journal
  entries_are : (M : List Entry) → M ≡ L ++ e ∷ [] → M ≡ entries_of J ++ e ∷ []
  entries_are M is = is ∙ ap (λ (N : List Entry). N ++ e ∷ []) k.entries

  pub kept_of_longer : (K : List Message) (M : List Entry) (new_slots : List Slot) (new : List Kept)
      → K ≡ J ++ Admin e ∷ [] → M ≡ L ++ e ∷ [] → IsTrue (is_entry e)
      → ((R : List Request) (s : ℕ) → AreTablesOf R L slots table s → AreKnown R L → AreTablesOf R M new_slots new s)
      → IsKeptOf K M new_slots new stamp count
  kept_of_longer K M new_slots new is_journal is_log formed keeps =
      subst (λ (I : List Message). IsKeptOf I M new_slots new stamp count) (sym is_journal) (record {
        journal = EachAfter-push FollowsJournal J (Admin e) k.journal follows;
        formed = formed_push J (Admin e) k.formed formed;
        few = subst (λ (R : List Request). length R ≤ MAX_REQUESTS) (sym (requests_entry J e)) k.few;
        counted = k.counted ∙ ap (λ (R : List Request). length R) (sym (requests_entry J e));
        entries = entries_are M is_log ∙ sym (entries_entry J e);
        kept = subst (λ (R : List Request). AreTablesOf R M new_slots new stamp) (sym (requests_entry J e)) (keeps (requests_of J) stamp k.kept known_of);
      })

  pub undone_longer : (M : List Entry) (n : ℕ) → M ≡ L ++ e ∷ []
      → ((R : List Request) (s : ℕ) → AreTablesOf R L slots table s → AreKnown R L → n ≡ undone_between R L M)
      → n ≡ undone_between (requests_of J) (entries_of J) (entries_of J ++ e ∷ [])
  undone_longer M n is_log counts =
      counts (requests_of J) stamp k.kept known_of
      ∙ ap (λ (N : List Entry). undone_between (requests_of J) N M) k.entries
      ∙ ap (undone_between (requests_of J) (entries_of J)) (entries_are M is_log)
