-- What a second peer of the same journal answers and leaves.
use Rattle.std.proofs.Common.{◌≡◌, ℕ, ◌+◌, ◌≤◌, inl, inr, Bool, true, false, not, cond, ◌&&◌, List, [], ◌∷◌, ◌++◌, length, take, None, Some, refl, ap, sym, subst, ◌∙◌}
use Rattle.std.specs.Prelude.{map, filter, filter_map, nat_eq, option_map, slice_get}
use Rattle.std.specs.declared.option.Option.{Option}
use Rattle.std.specs.List.{cons_option}
use Rattle.std.specs.Option.{option_map_or, option_to_list}
use Rattle.std.proofs.lemmas.List.{length-map, take_all}
use Rattle.std.proofs.lemmas.List.Elements.{filter_map-append}
use Rattle.std.proofs.lemmas.List.Sums.{length-filter}
use Rattle.element_name.specs.Name.{Name}
use Rattle.element_name.specs.Cases.{when}
use Rattle.coop_request.specs.Request.{Request}
use Rattle.coop_request.specs.History.{request_of}
use Rattle.policy_book.specs.declared.op.AdminOp.{AdminOp}
use Rattle.edit_message.specs.declared.message.Key.{Key}
use Rattle.edit_message.specs.declared.message.Message.{Message}
use Rattle.edit_message.specs.declared.message.Message.TheVariants.{Coop, Admin}
use Rattle.edit_message.specs.Message.{key_of, requests_of, entries_of}
use Rattle.request_state.specs.declared.state.State.{State}
use Rattle.request_state.specs.State.{is_tentative, is_invalid}
use Rattle.peer_step.specs.declared.step.Step.{Step}
use Rattle.peer_step.specs.declared.step.Step.TheVariants.{Administer, Receive}
use Rattle.peer_step.specs.declared.answer.Answer.{Answer}
use Rattle.peer_step.specs.declared.answer.Answer.TheVariants.{Done, NotAdministrator, LogFull, Issued, Held, Taken, Advanced, Dropped, Settled}
use Rattle.peer_step.proofs.Rows.{table_has, when_has}
use Rattle.tomb_seq.proofs.Has.{Has}
use Rattle.peer_tables.specs.Derived.{state_in}
use Rattle.peer_tables.specs.Undoing.{is_undone_between}
use Rattle.peer_tables.proofs.HistoryLemmas.{once_law}
use Rattle.peer_tables.proofs.JournalLemmas.{history_law, requests_entry}
use Rattle.peer_tables.proofs.SameSetLemmas.{has_found}
use Rattle.peer_core.specs.Peer.{Peer, history, log, state_at, integrate, undone_since}
use Rattle.peer_core.specs.Answers.{rows_of_log, rows_of_operation, is_full_log, next_entry, answer_issued, answer_administer, answer_of}
use Rattle.peer_core.specs.After.{changed_by, peer_after}
use Rattle.peer_core.specs.Sound.{IsSound}
use Rattle.peer_core.specs.Restore.{peer_of_journal, OwnStepLaw}
use Rattle.peer_core.proofs.AnswerLemmas.Rows.{operation_rows}
use Rattle.peer_core.proofs.BeginningLemmas.{take_one_more}
use Rattle.peer_outlook.specs.Outlook.{requests_undone, names_undone, SaysUndone, has_state, is_undone_name, names_between, undone_by_key}

-- ---- a second peer

-- the journal that a step leaves depends on the journal before it and on the answer
grown_alike : (p r : Peer) (step : Step) (answer : Answer) → r.journal ≡ p.journal → (changed_by r step answer).journal ≡ (changed_by p step answer).journal
grown_alike p r step (Done q) same = ap (λ (J : List Message). J ++ Coop q ∷ []) same
grown_alike p r step (Issued e undone) same = ap (λ (J : List Message). J ++ Admin e ∷ []) same
grown_alike p r (Receive m) (Held what) same = same
grown_alike p r (Receive m) (Taken state) same = ap (λ (J : List Message). J ++ m ∷ []) same
grown_alike p r (Receive m) (Advanced e undone) same = ap (λ (J : List Message). J ++ m ∷ []) same
grown_alike p r step (Dropped e fault) same = same
grown_alike p r step (Settled m outcome) same = ap (λ (J : List Message). J ++ m ∷ []) same
grown_alike p r step answer same = same

module _ (p second : Peer) (op copy : AdminOp) (own : OwnStepLaw) (is : second ≡ peer_of_journal p.site p.journal) (same : copy ≡ op) where
  abbrev fresh : Peer
  fresh = peer_of_journal p.site p.journal

  -- to an operation it answers as the first does
  pub answer_alike : answer_of second (Administer copy) ≡ answer_of p (Administer op)
  answer_alike =
      ap (λ (q : Peer). answer_of q (Administer copy)) is ∙ ap (λ (o : AdminOp). answer_of fresh (Administer o)) same ∙ own p (Administer op) refl

  -- and leaves the same journal
  pub after_alike : (after : Peer) → after ≡ peer_after second (Administer copy) → after.journal ≡ (peer_after p (Administer op)).journal
  after_alike after made =
      ap (λ (q : Peer). q.journal) (made ∙ ap (λ (q : Peer). peer_after q (Administer copy)) is ∙ ap (λ (o : AdminOp). peer_after fresh (Administer o)) same)
      ∙ ap (λ (a : Answer). (changed_by fresh (Administer op) a).journal) (own p (Administer op) refl)
      ∙ grown_alike p fresh (Administer op) (answer_of p (Administer op)) refl

-- ---- what an operation changes

-- an entry says how many requests it undoes
abbrev Counts : Peer → Answer → Type 0
Counts p (Issued e undone) = undone.count ≡ undone_since p (integrate p (Admin e))
Counts p answer = Unit {0}

record Ordered (p : Peer) (op : AdminOp) (answer : Answer) : Type 0 where
  requests : history (changed_by p (Administer op) answer) ≡ history p
  count : Counts p answer

ordered : (p : Peer) (op : AdminOp) → Ordered p op (answer_administer p op)
ordered p op =
    let P : Answer → Type 0 = Ordered p op in
    table_has P (rows_of_log p ++ rows_of_operation p op) (answer_issued p (next_entry p op)) (
      when_has P (not (nat_eq p.site 0)) NotAdministrator (λ h. record { requests = refl; count = tt }),
      (
        when_has P (is_full_log p) LogFull (λ h. record { requests = refl; count = tt }),
        operation_rows P p op
            (λ fault. record { requests = refl; count = tt })
            (λ what. record { requests = refl; count = tt })
            (record { requests = refl; count = tt })
            (λ state. record { requests = refl; count = tt }),
      ),
    )
    (record { requests = requests_entry p.journal (next_entry p op); count = refl })

-- ---- names of what is undone

-- the state of a name's request
state_named : (test : State → Bool) (p : Peer) (q : Request) → request_of (history p) q.id ≡ Some q → has_state test p q.id ≡ test (state_at p q)
state_named test p q found = ap (λ (o : Option Request). option_map_or test (option_map (state_at p) o) false) found

undone_named : (old new : Peer) (q : Request) → request_of (history old) q.id ≡ Some q → history new ≡ history old
    → is_undone_name old new q.id ≡ is_undone_between (history old) (log old) (log new) q
undone_named old new q found same =
    let second : has_state is_invalid new q.id ≡ is_invalid (state_in (history old) (log new) q) =
    state_named is_invalid new q (ap (λ (R : List Request). request_of R q.id) same ∙ found) ∙ ap (λ (R : List Request). is_invalid (state_in R (log new) q)) same in
    ap (λ (b : Bool). b && has_state is_invalid new q.id) (state_named is_tentative old q found)
    ∙ ap (λ (b : Bool). is_tentative (state_at old q) && b) second

module _ (old new : Peer) where
  abbrev undone : Request → Bool
  undone = is_undone_between (history old) (log old) (log new)

  -- by the keys of a journal
  pub names_keyed : (J : List Message) → filter_map (λ m. undone_by_key old new (key_of m)) J ≡ filter (is_undone_name old new) (map (λ q. q.id) (requests_of J))
  names_keyed [] = refl
  names_keyed (Admin e ∷ J) = names_keyed J
  names_keyed (Coop q ∷ J) = by (is_undone_name old new q.id) (names_keyed J)
    where
      by : (b : Bool) → filter_map (λ m. undone_by_key old new (key_of m)) J ≡ filter (is_undone_name old new) (map (λ r. r.id) (requests_of J))
          → cons_option (when b q.id) (filter_map (λ m. undone_by_key old new (key_of m)) J)
          ≡ cond b (q.id ∷ filter (is_undone_name old new) (map (λ r. r.id) (requests_of J))) (filter (is_undone_name old new) (map (λ r. r.id) (requests_of J)))
      by true rest = ap (λ (names : List Name). q.id ∷ names) rest
      by false rest = rest

  names_of : (R : List Request) → ((q : Request) → Has R q → is_undone_name old new q.id ≡ undone q)
      → filter (is_undone_name old new) (map (λ q. q.id) R) ≡ map (λ q. q.id) (filter undone R)
  names_of [] each = refl
  names_of (q ∷ R) each = by (undone q) (each q (inl refl)) (names_of R (λ r h. each r (inr h)))
    where
      by : (b : Bool) → is_undone_name old new q.id ≡ b
          → filter (is_undone_name old new) (map (λ r. r.id) R) ≡ map (λ r. r.id) (filter undone R)
          → cond (is_undone_name old new q.id) (q.id ∷ filter (is_undone_name old new) (map (λ r. r.id) R)) (filter (is_undone_name old new) (map (λ r. r.id) R))
          ≡ map (λ r. r.id) (cond b (q ∷ filter undone R) (filter undone R))
      by true e rest = rw e (ap (λ (names : List Name). q.id ∷ names) rest)
      by false e rest = rw e rest

  names_are : IsSound old → history new ≡ history old → names_between old new ≡ map (λ q. q.id) (requests_undone old new)
  names_are sound same =
      let once = once_law (history old) (history_law old.journal sound.journal) in
      names_of (history old) (λ q h. undone_named old new q (has_found (history old) q once h) same)

-- with one more message of a journal
pub one_name_more : (old new : Peer) (J : List Message) (i : ℕ) (m : Message) (names more : List Name) → names ≡ filter_map (λ x. undone_by_key old new (key_of x)) (take i J)
    → slice_get J i ≡ Some m → (key : Key) → key ≡ key_of m → (found : Option Name) → found ≡ undone_by_key old new key → more ≡ names ++ option_to_list found
    → more ≡ filter_map (λ x. undone_by_key old new (key_of x)) (take (i + 1) J)
one_name_more old new J i m names more so_far there key same found is_found grown =
    let named : Message → Option Name = λ x. undone_by_key old new (key_of x) in
    let front : take (i + 1) J ≡ take i J ++ m ∷ [] = take_one_more J i m there in
    let is : found ≡ named m = is_found ∙ ap (undone_by_key old new) same in
    grown ∙ ap (λ (ns : List Name). ns ++ option_to_list found) so_far ∙ ap (λ (o : Option Name). filter_map named (take i J) ++ option_to_list o) is
    ∙ ap (λ (ns : List Name). filter_map named (take i J) ++ ns) (last (named m))
    ∙ sym (filter_map-append named (take i J) (m ∷ [])) ∙ ap (filter_map named) (sym front)
  where
    last : (o : Option Name) → option_to_list o ≡ cons_option o []
    last None = refl
    last (Some n) = refl

-- with all of them
pub all_named : (old new : Peer) (i n : ℕ) (names : List Name) → names ≡ filter_map (λ m. undone_by_key old new (key_of m)) (take i old.journal) → n ≡ length old.journal → n ≤ i
    → names ≡ names_between old new
all_named old new i n names so_far long past =
    so_far
    ∙ ap (filter_map (λ m. undone_by_key old new (key_of m))) (take_all i old.journal (subst (λ k. k ≤ i) long past))
    ∙ names_keyed old new old.journal

-- the names that are told are those of the requests that the step undoes
pub names_told : (p after : Peer) (op : AdminOp) (names : List Name) → IsSound p → after.journal ≡ (peer_after p (Administer op)).journal
    → names ≡ names_between p after → names ≡ names_undone p op
names_told p after op names sound same told =
    told ∙ names_are p after sound (ap requests_of same ∙ (ordered p op).requests)
    ∙ ap (λ (J : List Message). map (λ q. q.id) (filter (is_undone_between (history p) (log p) (entries_of J)) (history p))) same

-- and as many as it says
pub as_many : (p : Peer) (op : AdminOp) (answer : Answer) (names : List Name) → answer ≡ answer_of p (Administer op) → names ≡ names_undone p op
    → SaysUndone answer (length names)
as_many p op answer names answered told e undone is =
    let issued : answer_of p (Administer op) ≡ Issued e undone = sym answered ∙ is in
    let after : Peer = integrate p (Admin e) in
    let counted : undone.count ≡ undone_since p after = subst (Counts p) issued (ordered p op).count in
    let size : length (map (λ q. q.id) (requests_undone p after)) ≡ undone_since p after =
    length-map (requests_undone p after) (λ q. q.id) ∙ length-filter (is_undone_between (history p) (log p) (log after)) (history p) in
    counted ∙ sym size
    ∙ ap (λ (a : Answer). length (map (λ q. q.id) (requests_undone p (changed_by p (Administer op) a)))) (sym issued)
    ∙ ap (λ (ns : List Name). length ns) (sym told)
