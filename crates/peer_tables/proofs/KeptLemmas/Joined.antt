-- What a request that follows a journal finds in what is kept, and what is kept then.
use Rattle.std.proofs.Common.{◌≡◌, ℕ, ◌+◌, ◌-◌, ◌<◌, Bool, true, not, ◌||◌, List, [], ◌∷◌, ◌++◌, length, take, None, Some, ap, sym, subst, ◌∙◌, arith, length-append, ◌==◌}
use Rattle.std.specs.Prelude.{find, max, nat_lt, option_map}
use Rattle.std.specs.declared.option.Option.{Option}
use Rattle.std.proofs.Math.Seq.{take-length}
use Rattle.std.proofs.lemmas.List.{take-append-le}
use Rattle.element_name.specs.Cases.{when, first_of}
use Rattle.element_name.specs.Name.{Name, start, name_eq, has_name}
use Rattle.element_name.proofs.EachAfterLemmas.{EachAfter-push}
use Rattle.coop_request.specs.declared.request.TheConstants.{MAX_REQUESTS}
use Rattle.coop_request.specs.Edit.{anchor_or_target}
use Rattle.coop_request.specs.Request.{Request, element_of}
use Rattle.coop_request.specs.History.{text_order, elements_of, FollowsHistory}
use Rattle.policy_book.specs.Entry.{Entry}
use Rattle.policy_book.specs.declared.op.AdminOp.{AdminOp}
use Rattle.edit_message.specs.declared.message.Message.{Message}
use Rattle.edit_message.specs.declared.message.Message.TheVariants.{Coop, Admin}
use Rattle.edit_message.specs.declared.message.Missing.TheVariants.{Element, Version}
use Rattle.edit_message.specs.Formed.{is_message}
use Rattle.edit_message.specs.Message.{requests_of, entries_of}
use Rattle.edit_message.specs.Missing.{missing_of, missing_end, span_ends}
use Rattle.auth_match.specs.declared.verdict.Verdict.TheVariants.{Granted}
use Rattle.auth_match.specs.Requests.{request_verdict}
use Rattle.admin_log.specs.Log.{policy_of, validated_at}
use Rattle.check_remote.specs.State.{verdict_at, denial_by, state_by, state_of}
use Rattle.check_remote.proofs.States.{front_alone}
use Rattle.request_state.specs.declared.kept.Kept.{Kept}
use Rattle.request_state.specs.declared.state.State.{State}
use Rattle.request_state.specs.Table.{kept_of, is_in_order, with_request, kept_shows}
use Rattle.tomb_seq.specs.declared.slot.Slot.{Slot}
use Rattle.tomb_seq.specs.Slots.{names_in, with_mark}
use Rattle.peer_tables.specs.Derived.{state_in, missing_in}
use Rattle.peer_tables.specs.Journal.{FollowsJournal}
use Rattle.peer_tables.specs.Kept.{AreKnown, IsGivenState, IsJoinable, AreTablesOf, IsKeptOf, IsPlaceable, names_after, slots_after}
use Rattle.peer_tables.proofs.JournalLemmas.{log_law, formed_push, requests_request, entries_request, follows_history}
use Rattle.peer_tables.proofs.HistoryLemmas.{order_push}
use Rattle.peer_tables.proofs.StableLemmas.{known_law}
use Rattle.peer_tables.proofs.KeptLemmas.OneMore.{kept_push}
use Rattle.peer_tables.proofs.KeptLemmas.Follows.{placeable, joinable}
use Rattle.peer_tables.proofs.KeptLemmas.Reads.{read_names, read_has}

-- ---- what is missing depends on which elements there are

pub missing_end_agree : (xs ys : List Name) (op : AdminOp) → ((n : Name) → has_name xs n ≡ has_name ys n) → missing_end xs op ≡ missing_end ys op
missing_end_agree xs ys op same = ap (λ (f : Name → Bool). option_map Element (find (λ n. not (f n)) (span_ends op))) (λ i n. same n i)

missing_agree : (front : ℕ) (xs ys : List Name) (m : Message) → ((n : Name) → has_name xs n ≡ has_name ys n) → missing_of front xs m ≡ missing_of front ys m
missing_agree front xs ys (Coop q) same =
    let n = anchor_or_target q.edit in
    ap (λ b. first_of (when (nat_lt front q.version) (Version (front + 1)) ∷ when (not (name_eq n start || b)) (Element n) ∷ [])) (same n)
missing_agree front xs ys (Admin e) same =
    ap (λ o. first_of (when (not (e.version == front + 1)) (Version (front + 1)) ∷ o ∷ [])) (missing_end_agree xs ys e.op same)

-- ---- a request that follows

-- what follows the view follows the items
pub follows_items : (items J : List Message) (m : Message) → items ≡ J → FollowsJournal J m → FollowsJournal items m
follows_items items J m is follows = subst (λ (I : List Message). FollowsJournal I m) (sym is) follows

module _ (J : List Message) (log : List Entry) (slots : List Slot) (table : List Kept) (stamp count : ℕ)
    (kept : IsKeptOf J log slots table stamp count) where
  -- what a message misses at the front of the log and among the elements that stand is what it misses in the journal
  pub missing_kept : (front : ℕ) (m : Message) → front ≡ length log → missing_of front (names_in slots) m ≡ missing_in J m
  missing_kept front m is =
      missing_agree front (names_in slots) (elements_of (requests_of J)) m (read_has J log slots table stamp count kept)
      ∙ ap (λ (n : ℕ). missing_of n (elements_of (requests_of J)) m) is
      ∙ ap (λ (L : List Entry). missing_of (length L) (elements_of (requests_of J)) m) kept.entries

  pub known : AreKnown (requests_of J) log
  known = subst (λ (L : List Entry). AreKnown (requests_of J) L) (sym kept.entries) (known_law J kept.journal)

  names_are : names_in slots ≡ text_order (requests_of J)
  names_are = read_names J log slots table stamp count kept

  -- the items of the longer journal, cut again
  pub cut_again : (m : Message) (items : List Message) → items ≡ take (length (J ++ m ∷ []) - 1) (J ++ m ∷ []) → items ≡ J
  cut_again m items is =
      let size = length-append J (m ∷ []) in
      let n : length (J ++ m ∷ []) - 1 ≡ length J = omega (arith, size) in
      is ∙ ap (λ k. take k (J ++ m ∷ [])) n ∙ take-append-le (length J) J (m ∷ []) (omega arith) ∙ take-length J

  -- all is as it was
  pub kept_again : (items : List Message) (new_slots : List Slot) (new_table : List Kept)
      → items ≡ J → new_slots ≡ slots → new_table ≡ table → IsKeptOf items log new_slots new_table stamp count
  kept_again items new_slots new_table same_items same_slots same_table =
      subst (λ (I : List Message). IsKeptOf I log new_slots new_table stamp count) (sym same_items) (record {
        journal = kept.journal;
        formed = kept.formed;
        few = kept.few;
        counted = kept.counted;
        entries = kept.entries;
        kept = record {
          marked = same_slots ∙ kept.kept.marked;
          states = λ n. ap (λ (t : List Kept). kept_of t n) same_table ∙ kept.kept.states n;
          in_order = ap is_in_order same_table ∙ kept.kept.in_order;
          size = ap (λ (t : List Kept). length t) same_table ∙ kept.kept.size;
          greatest = kept.kept.greatest;
        };
      })

  -- where the front grants a request that carries it, what validates the request decides
  pub granted_here : (q : Request) → q.version ≡ length (entries_of J) → verdict_at (text_order (requests_of J ++ q ∷ [])) (entries_of J) q (length (entries_of J)) ≡ Granted
      → state_by None (validated_at log q.id) ≡ state_in (requests_of J ++ q ∷ []) (entries_of J) q
  granted_here q here granted =
      let L : List Entry = entries_of J in
      let names : List Name = text_order (requests_of J ++ q ∷ []) in
      let at_front : request_verdict names (policy_of L) q ≡ Granted = ap (λ (M : List Entry). request_verdict names (policy_of M) q) (sym (take-length L)) ∙ granted in
      ap (λ (M : List Entry). state_by None (validated_at M q.id)) kept.entries
      ∙ sym (ap (λ d. state_by d (validated_at L q.id)) (front_alone names L q (log_law J kept.journal) here ∙ ap (denial_by (length L)) at_front))

  module _ (q : Request) (follows : FollowsJournal J (Coop q)) where
    may_follow : FollowsHistory (requests_of J) q
    may_follow = follows_history J q follows

    pub placeable_here : IsPlaceable (names_in slots) q.id q.edit
    placeable_here = subst (λ (names : List Name). IsPlaceable names q.id q.edit) (sym names_are) (placeable (requests_of J) log known q may_follow)

    pub joinable_here : IsJoinable table q
    joinable_here = joinable (requests_of J) log known q may_follow slots table stamp kept.kept kept.few

    pub state_here : state_of (names_after (names_in slots) q.id q.edit) log q ≡ state_in (requests_of J ++ q ∷ []) log q
    state_here =
        ap (λ (names : List Name). state_of (names_after names q.id q.edit) log q) names_are
        ∙ ap (λ (names : List Name). state_of names log q) (sym (order_push (requests_of J) q known.history may_follow))

    pub given_here : (given : Option State) → IsGivenState given (text_order (requests_of J ++ q ∷ [])) (entries_of J) q → IsGivenState given (names_after (names_in slots) q.id q.edit) log q
    given_here None h = tt
    given_here (Some s) h = h ∙ ap (λ (L : List Entry). state_in (requests_of J ++ q ∷ []) L q) (sym kept.entries) ∙ sym state_here

    pub grown : (items : List Message) (new_slots : List Slot) (new_table : List Kept) (state : State)
        → items ≡ J ++ Coop q ∷ [] → is_message (Coop q) ≡ true → length (requests_of J) < MAX_REQUESTS
        → state ≡ state_of (names_after (names_in slots) q.id q.edit) log q
        → new_slots ≡ with_mark (slots_after slots q.id q.edit) (element_of q) (kept_shows new_table (element_of q))
        → new_table ≡ with_request table q state
        → IsKeptOf items log new_slots new_table (max stamp q.id.stamp) (count + 1)
    grown items new_slots new_table state is formed room judged marked states =
        let R = requests_of J in
        let s : state ≡ state_in (R ++ q ∷ []) log q = judged ∙ state_here in
        let more = requests_request J q in
        let size = length-append R (q ∷ []) in
        let all : AreTablesOf (R ++ q ∷ []) log new_slots new_table (max stamp q.id.stamp) =
        kept_push R log known q may_follow slots new_slots table new_table stamp kept.kept marked
        (states ∙ ap (with_request table q) s) in
        subst (λ (I : List Message). IsKeptOf I log new_slots new_table (max stamp q.id.stamp) (count + 1)) (sym is) (record {
          journal = EachAfter-push FollowsJournal J (Coop q) kept.journal follows;
          formed = formed_push J (Coop q) kept.formed formed;
          few = rw more (omega (arith, size, room));
          counted = let c = kept.counted in rw more (omega (arith, size, c));
          entries = kept.entries ∙ sym (entries_request J q);
          kept = subst (λ (S : List Request). AreTablesOf S log new_slots new_table (max stamp q.id.stamp)) (sym more) all;
        })
