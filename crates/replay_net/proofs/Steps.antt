-- What the answers of a peer leave as it is.
use Rattle.std.proofs.Common.{◌≡◌, ◌+◌, ◌≤◌, Bool, true, false, not, cond, Option, Some, None, [], ◌∷◌, ◌++◌, length, refl, arith, length-append}
use Rattle.std.specs.Prelude.{find, nat_eq, option_map}
use Rattle.std.specs.Option.{option_map_or}
use Rattle.coop_request.specs.Request.{Request}
use Rattle.policy_book.specs.declared.op.AdminOp.{AdminOp}
use Rattle.policy_book.specs.declared.op.AdminOp.TheVariants.{Validate}
use Rattle.policy_book.specs.declared.fault.EntryFault.{EntryFault}
use Rattle.policy_book.specs.Entry.{Entry}
use Rattle.edit_message.specs.declared.message.Message.{Message}
use Rattle.edit_message.specs.declared.message.Message.TheVariants.{Coop, Admin}
use Rattle.edit_message.specs.declared.message.Missing.{Missing}
use Rattle.edit_message.specs.Message.{key_of, find_key}
use Rattle.edit_message.specs.Same.{message_eq}
use Rattle.auth_match.specs.declared.verdict.Verdict.{Verdict}
use Rattle.auth_match.specs.declared.verdict.Verdict.TheVariants as verdicts
use Rattle.admin_log.specs.Log.{entry_fault}
use Rattle.peer_step.specs.declared.step.LocalEdit.{LocalEdit}
use Rattle.peer_step.specs.declared.step.Step.{Step}
use Rattle.peer_step.specs.declared.step.Step.TheVariants.{Edit, Administer, Receive, ValidateNext}
use Rattle.peer_step.specs.declared.answer.Answer.{Answer}
use Rattle.peer_step.specs.declared.answer.Answer.TheVariants.{HistoryFull, Done, NotAdministrator, LogFull}
use Rattle.peer_step.specs.declared.answer.Answer.TheVariants.{NothingTentative, Issued, Repeat, Conflict, OwnSite, OwnLog, Illegal, HoldFull, Held}
use Rattle.peer_step.specs.declared.answer.Answer.TheVariants.{Dropped, Settled, Quiet}
use Rattle.peer_step.proofs.Rows.{table_has, when_has, map_has, given_has}
use Rattle.peer_tables.specs.Derived.{finds_no_room, is_due}
use Rattle.peer_core.specs.Peer.{Peer, history, log, missing}
use Rattle.peer_core.specs.Local.{new_request}
use Rattle.peer_tables.specs.Awaiting.{least_awaiting}
use Rattle.peer_core.specs.Answers.{rows_of_edit, rows_of_log, rows_of_operation, is_full_log, is_full_hold, answer_by_verdict, own_verdict, answer_edit, next_entry, answer_issued, answer_administer, answer_validate_next}
use Rattle.peer_core.specs.Answers.{rows_of_message, answer_known, answer_own, fault_in, is_next_entry, answer_taken, answer_missing, answer_receive, outcome_of, answer_due, answer_settle}
use Rattle.peer_core.specs.After.{changed_by}
use Rattle.replay_net.specs.Reply.{issued_by}
use Rattle.peer_core.proofs.AnswerLemmas.Rows.{edit_rows, operation_rows}
use Rattle.peer_core.proofs.AnswerLemmas.Causes.{IssuesNone, received}

-- ---- edits and operations: the peer holds what it held

abbrev pub StaysHeld : Peer → Step → Answer → Type 0
StaysHeld p step answer = (changed_by p step answer).held ≡ p.held

-- an edit
pub edit_held : (p : Peer) (edit : LocalEdit) → StaysHeld p (Edit edit) (answer_edit p edit)
edit_held p edit =
    let P : Answer → Type 0 = StaysHeld p (Edit edit) in
    table_has P (rows_of_edit p edit) (answer_by_verdict (new_request p edit) (own_verdict p (new_request p edit))) (edit_rows P p edit (λ shown. refl) refl refl)
    (by (new_request p edit) (own_verdict p (new_request p edit)))
  where
    by : (q : Request) (v : Verdict) → StaysHeld p (Edit edit) (answer_by_verdict q v)
    by q verdicts.Granted = refl
    by q (verdicts.Denied place) = refl

-- an operation
pub administer_held : (p : Peer) (op : AdminOp) → StaysHeld p (Administer op) (answer_administer p op)
administer_held p op =
    let P : Answer → Type 0 = StaysHeld p (Administer op) in
    table_has P (rows_of_log p ++ rows_of_operation p op) (answer_issued p (next_entry p op)) (
      when_has P (not (nat_eq p.site 0)) NotAdministrator (λ h. refl),
      (
        when_has P (is_full_log p) LogFull (λ h. refl),
        operation_rows P p op (λ fault. refl) (λ what. refl) refl (λ state. refl),
      ),
    )
    refl

-- a validation of the least request
pub validate_next_held : (p : Peer) → StaysHeld p ValidateNext (answer_validate_next p)
validate_next_held p =
    let P : Answer → Type 0 = StaysHeld p ValidateNext in
    table_has P (rows_of_log p ++ option_map (λ n. answer_issued p (next_entry p (Validate n))) (least_awaiting (history p) (log p)) ∷ []) NothingTentative (
      when_has P (not (nat_eq p.site 0)) NotAdministrator (λ h. refl),
      (
        when_has P (is_full_log p) LogFull (λ h. refl),
        (map_has P (λ n. answer_issued p (next_entry p (Validate n))) (least_awaiting (history p) (log p)) (λ n h. refl), tt),
      ),
    )
    refl

-- ---- a message that is received

-- at most one more is held, and there is no room only where the hold is full
record HoldsOneMore (p : Peer) (m : Message) (answer : Answer) : Type 0 where
  more : length (changed_by p (Receive m) answer).held ≤ length p.held + 1
  full : answer ≡ HoldFull → is_full_hold p ≡ true

holds_known : (p : Peer) (m kept : Message) (same : Bool) → HoldsOneMore p m (cond same Repeat (Conflict kept))
holds_known p m kept true = record { more = omega arith; full = λ h. absurd cc }
holds_known p m kept false = record { more = omega arith; full = λ h. absurd cc }

holds_own : (p : Peer) (m : Message) (a : Answer) → answer_own p m ≡ Some a → HoldsOneMore p m a
holds_own p (Coop q) a h =
    when_has (HoldsOneMore p (Coop q)) (nat_eq q.id.site p.site) OwnSite (λ t. record { more = omega arith; full = λ g. absurd cc }) a h
holds_own p (Admin e) a h = when_has (HoldsOneMore p (Admin e)) (nat_eq p.site 0) OwnLog (λ t. record { more = omega arith; full = λ g. absurd cc }) a h

holds_missing : (p : Peer) (m : Message) (what : Missing) (full : Bool) → is_full_hold p ≡ full → HoldsOneMore p m (cond full HoldFull (Held what))
holds_missing p m what true is = record { more = omega arith; full = λ h. is }
holds_missing p m what false is = record { more = let size = length-append p.held (m ∷ []) in omega (arith, size); full = λ h. absurd cc }

holds_taken : (p : Peer) (m : Message) → HoldsOneMore p m (answer_taken p m)
holds_taken p (Coop q) = record { more = omega arith; full = λ h. absurd cc }
holds_taken p (Admin e) = record { more = omega arith; full = λ h. absurd cc }

holds_received : (p : Peer) (m : Message) → HoldsOneMore p m (answer_receive p m)
holds_received p m =
    let P : Answer → Type 0 = HoldsOneMore p m in
    table_has P (option_map (answer_known m) (find_key (key_of m) (p.journal ++ p.held)) ∷ rows_of_message p m ++ option_map (answer_missing p) (missing p m) ∷ []) (answer_taken p m) (
      map_has P (answer_known m) (find_key (key_of m) (p.journal ++ p.held)) (λ kept found. holds_known p m kept (message_eq kept m)),
      (
        holds_own p m,
        (
          when_has P (finds_no_room p.journal m) HistoryFull (λ h. record { more = omega arith; full = λ g. absurd cc }),
          (
            given_has P (is_next_entry p m) (option_map Illegal (fault_in p m))
                (λ next. map_has P Illegal (fault_in p m) (λ fault h. record { more = omega arith; full = λ g. absurd cc })),
            (map_has P (answer_missing p) (missing p m) (λ what h. holds_missing p m what (is_full_hold p) refl), tt),
          ),
        ),
      ),
    )
    (holds_taken p m)

-- what issues nothing
issues_none : (a : Answer) → IssuesNone a → issued_by a ≡ None
issues_none (Done q) h = absurd h
issues_none (Issued e undone) h = absurd h
issues_none a h = refl

-- and nothing is issued
pub record Got (p : Peer) (m : Message) (answer : Answer) : Type 0 where
  pub none : issued_by answer ≡ None
  pub more : length (changed_by p (Receive m) answer).held ≤ length p.held + 1
  pub full : answer ≡ HoldFull → is_full_hold p ≡ true

pub got : (p : Peer) (m : Message) → Got p m (answer_receive p m)
got p m = let holds = holds_received p m in record { none = issues_none (answer_receive p m) (received p m); more = holds.more; full = holds.full }

-- ---- a peer that settles

-- it issues nothing
pub settle_issues : (p : Peer) → issued_by (answer_settle p) ≡ None
settle_issues p = by (find (is_due p.journal) p.held)
  where
    entry : (e : Entry) (o : Option EntryFault) → issued_by (option_map_or (Dropped e) o (Settled (Admin e) (outcome_of p (Admin e)))) ≡ None
    entry e None = refl
    entry e (Some fault) = refl

    by : (o : Option Message) → issued_by (option_map_or (answer_due p) o Quiet) ≡ None
    by None = refl
    by (Some (Coop q)) = refl
    by (Some (Admin e)) = entry e (entry_fault (log p) e.op)
