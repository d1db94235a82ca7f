-- What a step may undo, `specs/Changes.antt`.
use Rattle.std.proofs.Common.{◌≡◌, ◌⊎◌, ℕ, ◌+◌, ◌<◌, inl, inr, ⊎_elim, Bool, true, false, not, List, [], ◌∷◌, ◌++◌, length, None, Some, refl, ap, sym, subst, ◌∙◌, arith, ◌≤◌, get_or}
use Rattle.peer_step.specs.declared.step.Step.TheVariants as steps
use Rattle.admin_log.specs.Log.{FollowsLog, entry_fault, policy_of}
use Rattle.auth_match.specs.declared.verdict.Verdict.{Verdict}
use Rattle.auth_match.specs.declared.verdict.Verdict.TheVariants.{Denied, Granted}
use Rattle.coop_request.specs.History.{elements_of}
use Rattle.coop_request.specs.declared.request.TheConstants.{MAX_REQUESTS}
use Rattle.coop_request.specs.Request.{element_of, user_of}
use Rattle.edit_message.specs.Formed.{is_message}
use Rattle.edit_message.specs.Message.{entries_of, find_key, key_of}
use Rattle.edit_message.specs.Missing.{missing_end}
use Rattle.edit_message.specs.Same.{message_eq}
use Rattle.edit_message.specs.declared.message.Message.{Message}
use Rattle.edit_message.specs.declared.message.Message.TheVariants.{Admin, Coop}
use Rattle.edit_message.specs.declared.message.Missing.{Missing}
use Rattle.element_name.proofs.CaseLemmas.{option_map-None, when-None}
use Rattle.element_name.specs.Cases.{first_of, when}
use Rattle.element_name.specs.Name.{Name, has_name}
use Rattle.peer_core.proofs.AnswerLemmas.Edits.{may_edit}
use Rattle.peer_core.proofs.AnswerLemmas.Entries.{may_issue, validation_legal}
use Rattle.peer_core.proofs.AnswerLemmas.Received.{may_take, receive_free, receive_known, receive_refused_after}
use Rattle.peer_core.proofs.AnswerLemmas.Refusals.{administer_refuses, edit_refuses}
use Rattle.peer_core.proofs.AnswerLemmas.Settled.{due_follows, settle_dropped_after, settle_legal_after, settle_quiet}
use Rattle.peer_tables.proofs.JournalLemmas.{entries_entry, entries_request, entry_here, find_position, follows_log, no_row}
use Rattle.peer_core.proofs.SoundLemmas.Steps.{due_within}
use Rattle.peer_tables.proofs.UndoingLemmas.{not_both, undone_reached}
use Rattle.peer_tables.proofs.StableLemmas.{known_law}
use Rattle.peer_core.specs.After.{changed_by, peer_after}
use Rattle.peer_tables.specs.Awaiting.{least_awaiting}
use Rattle.peer_core.specs.Answers.{is_full_history, answer_administer, answer_by_verdict, answer_edit, answer_issued, answer_missing, answer_receive, answer_settle, answer_taken, answer_validate_next, fault_in, is_full_hold, is_full_log, next_entry, own_verdict, rows_of_administer, rows_of_edit, rows_of_message}
use Rattle.peer_tables.specs.Undoing.{is_undone_between, HaveUndone}
use Rattle.peer_core.specs.Changes.{is_received, next_operation, due_message, operation_of}
use Rattle.peer_core.specs.Local.{fits_text, new_request}
use Rattle.peer_tables.specs.Derived.{is_due, state_in}
use Rattle.peer_core.specs.Peer.{Peer, front, history, integrate, log, missing, shown_elements}
use Rattle.peer_tables.specs.Journal.{FollowsJournal}
use Rattle.peer_core.specs.Sound.{IsSound}
use Rattle.peer_step.specs.declared.answer.Answer.{Answer}
use Rattle.peer_step.specs.declared.answer.Answer.TheVariants.{BadPlace, HistoryFull, Conflict, Held, HoldFull, LogFull, NotAdministrator, NotHere, NothingTentative, Refused, Repeat}
use Rattle.peer_step.specs.declared.step.LocalEdit.{LocalEdit}
use Rattle.peer_step.specs.declared.step.Step.{Step}
use Rattle.policy_book.specs.Entry.{Entry}
use Rattle.policy_book.specs.Reach.{is_reached, narrowed_reach}
use Rattle.policy_book.specs.declared.fault.EntryFault.{EntryFault}
use Rattle.policy_book.specs.declared.op.AdminOp.{AdminOp}
use Rattle.policy_book.specs.declared.op.AdminOp.TheVariants.{Validate}
use Rattle.std.proofs.lemmas.Bool.{eq-eqb, eqb-true, not-false, leb-false}
use Rattle.std.proofs.lemmas.Option.{slice_get_cases}
use Rattle.std.specs.Prelude.{if◌then◌else◌, nat_eq, option_and_then, option_map, position, slice_get, unwrap_or}
use Rattle.std.specs.declared.option.Option.{Option}
use Rattle.tomb_seq.proofs.Has.{Has-from_Contains}

-- ---- the journal after a step

-- the message that a step may integrate
abbrev pub IsMessageOf : Peer → Step → Message → Type 0
IsMessageOf p (steps.Edit edit) m = m ≡ Coop (new_request p edit)
IsMessageOf p (steps.Administer op) m = m ≡ Admin (next_entry p op)
IsMessageOf p (steps.Receive k) m = m ≡ k
IsMessageOf p steps.Settle m = due_message p ≡ Some m
IsMessageOf p steps.ValidateNext m = (n : Name) × (m ≡ Admin (next_entry p (Validate n)))
IsMessageOf p (steps.Look from) m = ⊥
IsMessageOf p steps.Show m = ⊥

-- q has the journal of p with the message, which may follow it
pub record HasJoined (p q : Peer) (m : Message) : Type 0 where
  pub journal : q.journal ≡ p.journal ++ m ∷ []
  pub follows : FollowsJournal p.journal m

-- a step leaves the journal, or its message joins it
abbrev pub Leads : Peer → Step → Peer → Type 0
Leads p step q = (q.journal ≡ p.journal) ⊎ ((m : Message) × IsMessageOf p step m × HasJoined p q m)

leads_edit : (p : Peer) (edit : LocalEdit) → IsSound p → Leads p (steps.Edit edit) (changed_by p (steps.Edit edit) (answer_edit p edit))
leads_edit p edit sound = by (first_of (rows_of_edit p edit)) refl
  where
    judged : (v : Verdict) → first_of (rows_of_edit p edit) ≡ None → Leads p (steps.Edit edit) (changed_by p (steps.Edit edit) (answer_by_verdict (new_request p edit) v))
    judged Granted none =
        let rows = no_row (rows_of_edit p edit) none in
        let here = not-false (fits_text (length (shown_elements p)) edit)
        (when-None (not (fits_text (length (shown_elements p)) edit)) (BadPlace (length (shown_elements p))) rows.0) in
        let room = leb-false MAX_REQUESTS (length (history p)) (when-None (is_full_history p) HistoryFull rows.1.1.0) in
        inr (Coop (new_request p edit), refl, record { journal = refl; follows = (may_edit p edit sound here room).follows })
    judged (Denied by) none = inl refl

    by : (o : Option Answer) → first_of (rows_of_edit p edit) ≡ o
        → Leads p (steps.Edit edit) (changed_by p (steps.Edit edit) (unwrap_or o (answer_by_verdict (new_request p edit) (own_verdict p (new_request p edit)))))
    by (Some a) is = subst (Leads p (steps.Edit edit)) (sym ((edit_refuses p edit a (sym is)).same p (steps.Edit edit))) (inl refl)
    by None none = judged (own_verdict p (new_request p edit)) none

-- an administrator may issue a legal entry
issued : (p : Peer) (op : AdminOp) → IsSound p → not (nat_eq p.site 0) ≡ false → entry_fault (log p) op ≡ None → missing_end (elements_of (history p)) op ≡ None
    → HasJoined p (integrate p (Admin (next_entry p op))) (Admin (next_entry p op))
issued p op sound administrator legal ends =
    record { journal = refl; follows = (may_issue p op sound (eqb-true p.site 0 (not-false (nat_eq p.site 0) administrator)) legal ends).follows }

leads_administer : (p : Peer) (op : AdminOp) → IsSound p → Leads p (steps.Administer op) (changed_by p (steps.Administer op) (answer_administer p op))
leads_administer p op sound = by (first_of (rows_of_administer p op)) refl
  where
    by : (o : Option Answer) → first_of (rows_of_administer p op) ≡ o
        → Leads p (steps.Administer op) (changed_by p (steps.Administer op) (unwrap_or o (answer_issued p (next_entry p op))))
    by (Some a) is = subst (Leads p (steps.Administer op)) (sym ((administer_refuses p op a (sym is)).same p (steps.Administer op))) (inl refl)
    by None none =
        let rows = no_row (rows_of_administer p op) none in
        inr (
          Admin (next_entry p op),
          refl,
          issued p op sound (when-None (not (nat_eq p.site 0)) NotAdministrator rows.0)
              (option_map-None Refused (entry_fault (log p) op) rows.1.1.0) (option_map-None NotHere (missing_end (elements_of (history p)) op) rows.1.1.1.0),
        )

leads_validate_next : (p : Peer) → IsSound p → Leads p steps.ValidateNext (changed_by p steps.ValidateNext (answer_validate_next p))
leads_validate_next p sound = by (not (nat_eq p.site 0)) (is_full_log p) (least_awaiting (history p) (log p)) refl refl
  where
    by : (elsewhere full : Bool) (o : Option Name) → not (nat_eq p.site 0) ≡ elsewhere → least_awaiting (history p) (log p) ≡ o
        → Leads p steps.ValidateNext (changed_by p steps.ValidateNext (unwrap_or (first_of (
        when elsewhere NotAdministrator
        ∷ when full LogFull
        ∷ option_map (λ n. answer_issued p (next_entry p (Validate n))) o
        ∷ [])) NothingTentative))
    by true full o other least = inl refl
    by false true o administrator least = inl refl
    by false false None administrator least = inl refl
    by false false (Some n) administrator least =
        inr (Admin (next_entry p (Validate n)), (n, refl), issued p (Validate n) sound administrator (validation_legal (history p) (log p) n (sym least)) refl)

leads_taken : (p : Peer) (m : Message) → FollowsJournal p.journal m → Leads p (steps.Receive m) (changed_by p (steps.Receive m) (answer_taken p m))
leads_taken p (Coop q) follows = inr (Coop q, refl, record { journal = refl; follows = follows })
leads_taken p (Admin e) follows = inr (Admin e, refl, record { journal = refl; follows = follows })

leads_receive : (p : Peer) (m : Message) → is_message m ≡ true → Leads p (steps.Receive m) (changed_by p (steps.Receive m) (answer_receive p m))
leads_receive p m formed = by (find_key (key_of m) (p.journal ++ p.held)) refl
  where
    known : (kept : Message) (same : Bool) → Leads p (steps.Receive m) (changed_by p (steps.Receive m) (if same then Repeat else Conflict kept))
    known kept true = inl refl
    known kept false = inl refl

    held : (what : Missing) (full : Bool) → Leads p (steps.Receive m) (changed_by p (steps.Receive m) (if full then HoldFull else Held what))
    held what true = inl refl
    held what false = inl refl

    free : (o : Option Missing) → missing p m ≡ o → find_key (key_of m) (p.journal ++ p.held) ≡ None → first_of (rows_of_message p m) ≡ None
        → Leads p (steps.Receive m) (changed_by p (steps.Receive m) (unwrap_or (option_map (answer_missing p) o) (answer_taken p m)))
    free (Some what) is none refusal = held what (is_full_hold p)
    free None complete none refusal = leads_taken p m (may_take p m formed none refusal complete).follows

    new : (o : Option Answer) → find_key (key_of m) (p.journal ++ p.held) ≡ None → first_of (rows_of_message p m) ≡ o
        → Leads p (steps.Receive m) (changed_by p (steps.Receive m) (answer_receive p m))
    new (Some a) none is = subst (Leads p (steps.Receive m)) (receive_refused_after p m a none (sym is)) (inl refl)
    new None none refusal =
        subst (λ (a : Answer). Leads p (steps.Receive m) (changed_by p (steps.Receive m) a)) (sym (receive_free p m none refusal)) (free (missing p m) refl none refusal)

    by : (o : Option Message) → find_key (key_of m) (p.journal ++ p.held) ≡ o → Leads p (steps.Receive m) (changed_by p (steps.Receive m) (answer_receive p m))
    by (Some kept) is = subst (λ (a : Answer). Leads p (steps.Receive m) (changed_by p (steps.Receive m) a)) (sym (receive_known p m kept (sym is))) (known kept (message_eq kept m))
    by None none = new (first_of (rows_of_message p m)) none refl

-- the earliest due message is integrated, or let go where it is an entry that isn't legal
leads_due : (p : Peer) (i : ℕ) (m : Message) → IsSound p → position (is_due p.journal) p.held ≡ Some i → slice_get p.held i ≡ Some m
    → Leads p steps.Settle (changed_by p steps.Settle (answer_settle p))
leads_due p i m sound due at = by m (fault_in p m) at refl
  where
    by : (k : Message) (o : Option EntryFault) → slice_get p.held i ≡ Some k → fault_in p k ≡ o → Leads p steps.Settle (changed_by p steps.Settle (answer_settle p))
    by k None there legal =
        let found : due_message p ≡ Some k = find_position (is_due p.journal) p.held ∙ ap (option_and_then (slice_get p.held)) due ∙ there in
        subst (Leads p steps.Settle) (settle_legal_after p i k due there legal) (inr (k, found, record { journal = refl; follows = due_follows p i k sound due there legal }))
    by (Coop q) (Some fault) there faulty = absurd (cc)
    by (Admin e) (Some fault) there faulty =
        subst (Leads p steps.Settle) (settle_dropped_after p i e fault due there (ap (option_and_then (fault_in p)) there ∙ faulty)) (inl refl)

leads_settle : (p : Peer) → IsSound p → Leads p steps.Settle (changed_by p steps.Settle (answer_settle p))
leads_settle p sound = by (position (is_due p.journal) p.held) refl
  where
    by : (o : Option ℕ) → position (is_due p.journal) p.held ≡ o → Leads p steps.Settle (changed_by p steps.Settle (answer_settle p))
    by None none = subst (λ (a : Answer). Leads p steps.Settle (changed_by p steps.Settle a)) (sym (settle_quiet p none)) (inl refl)
    by (Some i) due = ⊎_elim
        (λ (found : (m : Message) × (i < length p.held) × (slice_get p.held i ≡ Some m) × (get_or p.held i m ≡ m)). leads_due p i found.0 sound due found.2)
        (λ (past : (length p.held ≤ i) × (slice_get p.held i ≡ None)). absurd (let below = due_within p i due in omega (arith, past.0, below)))
        (slice_get_cases p.held i).1

pub leads : (p : Peer) (step : Step) → is_received step ≡ true → IsSound p → Leads p step (peer_after p step)
leads p (steps.Edit edit) formed sound = leads_edit p edit sound
leads p (steps.Administer op) formed sound = leads_administer p op sound
leads p (steps.Receive m) formed sound = leads_receive p m formed
leads p steps.Settle formed sound = leads_settle p sound
leads p steps.ValidateNext formed sound = leads_validate_next p sound
leads p (steps.Look from) formed sound = inl refl
leads p steps.Show formed sound = inl refl

-- ---- what a step undoes

-- the operation of an entry that joins, where it reaches anybody
next_is : (p : Peer) (e : Entry) → FollowsJournal p.journal (Admin e) → next_operation p (Admin e) ≡ Some e.op
next_is p e follows =
    let next : nat_eq e.version (front p + 1) ≡ true = eq-eqb e.version (front p + 1) (entry_here (front p) (elements_of (history p)) e follows.complete).version in
    ap (λ b. when b e.op) next

-- an entry that has joined is the one of the operation
operation_is : (p : Peer) (step : Step) (e : Entry) (u : ℕ) → FollowsJournal p.journal (Admin e) → IsMessageOf p step (Admin e)
    → is_reached (narrowed_reach (policy_of (log p)) e.op) u ≡ true → operation_of p step ≡ Some e.op
operation_is p (steps.Edit edit) e u follows is within = absurd cc
operation_is p (steps.Administer op) e u follows is within = let same : e ≡ next_entry p op = cc in ap (λ (d : Entry). Some d.op) (sym same)
operation_is p (steps.Receive m) e u follows is within = subst (λ (k : Message). next_operation p k ≡ Some e.op) is (next_is p e follows)
operation_is p steps.Settle e u follows is within = ap (option_and_then (next_operation p)) is ∙ next_is p e follows
operation_is p steps.ValidateNext e u follows is within =
    let same : e ≡ next_entry p (Validate is.0) = let m = is.1 in cc in
    absurd (let none = subst (λ (d : Entry). is_reached (narrowed_reach (policy_of (log p)) d.op) u ≡ true) same within in cc)
operation_is p (steps.Look from) e u follows is within = absurd is
operation_is p steps.Show e u follows is within = absurd is

-- what is undone by a step is undone by the entry with its operation
pub step_undone : (p : Peer) (step : Step) (elements : List Name) → is_received step ≡ true → IsSound p
    → ((e : Entry) → FollowsLog (log p) e → operation_of p step ≡ Some e.op → HaveUndone (history p) (log p) (log p ++ e ∷ []) elements)
    → HaveUndone (history p) (log p) (log (peer_after p step)) elements
step_undone p step elements formed sound each q there undone = ⊎_elim
    (λ (same : (peer_after p step).journal ≡ p.journal). absurd (unchanged (ap entries_of same)))
    (λ (more : (m : Message) × IsMessageOf p step m × HasJoined p (peer_after p step) m). joined more.0 more.1 more.2)
    (leads p step formed sound)
  where
    unchanged : log (peer_after p step) ≡ log p → ⊥
    unchanged same = not_both (state_in (history p) (log p) q) (subst (λ (M : List Entry). is_undone_between (history p) (log p) M q ≡ true) same undone)

    joined : (m : Message) → IsMessageOf p step m → HasJoined p (peer_after p step) m → has_name elements (element_of q) ≡ true
    joined (Coop r) is more = absurd (unchanged (ap entries_of more.journal ∙ entries_request p.journal r))
    joined (Admin e) is more =
        let grown : log (peer_after p step) ≡ log p ++ e ∷ [] = ap entries_of more.journal ∙ entries_entry p.journal e in
        let now : is_undone_between (history p) (log p) (log p ++ e ∷ []) q ≡ true =
        subst (λ (M : List Entry). is_undone_between (history p) (log p) M q ≡ true) grown undone in
        let here : FollowsLog (log p) e = follows_log p.journal e more.follows in
        let within = undone_reached (history p) (log p) e (known_law p.journal sound.journal) here q (Has-from_Contains (history p) q there) now in
        each e here (operation_is p step e (user_of q) more.follows is within) q there now
