-- What stops a peer, and that no link does.
use Rattle.std.proofs.Common.{◌≡◌, ◌+◌, ◌≤◌, ◌<◌, Bool, true, false, not, cond, List, [], ◌∷◌, ◌++◌, length, Some, refl, ap, sym, subst, ◌∙◌, arith}
use Rattle.std.specs.Prelude.{nat_eq, nat_le, find, option_map}
use Rattle.std.specs.Option.{option_map_or}
use Rattle.std.proofs.lemmas.Bool.{eqb-true, leb-true}
use Rattle.element_name.specs.declared.limits.TheConstants.{MAX_STAMP, MAX_VERSION}
use Rattle.coop_request.specs.declared.request.TheConstants.{MAX_REQUESTS}
use Rattle.coop_request.specs.Request.{Request}
use Rattle.policy_book.specs.declared.op.AdminOp.{AdminOp}
use Rattle.policy_book.specs.declared.op.AdminOp.TheVariants.{Validate}
use Rattle.policy_book.specs.Entry.{Entry}
use Rattle.edit_message.specs.declared.message.Message.{Message}
use Rattle.edit_message.specs.declared.message.Message.TheVariants.{Coop, Admin}
use Rattle.edit_message.specs.declared.message.Missing.{Missing}
use Rattle.edit_message.specs.Message.{key_of, find_key, requests_of, entries_of}
use Rattle.edit_message.specs.Same.{message_eq}
use Rattle.auth_match.specs.declared.verdict.Verdict.{Verdict}
use Rattle.auth_match.specs.declared.verdict.Verdict.TheVariants as verdicts
use Rattle.peer_step.specs.declared.step.LocalEdit.{LocalEdit}
use Rattle.peer_step.specs.declared.step.Step.{Step}
use Rattle.peer_step.specs.declared.step.Step.TheVariants.{Edit, Administer, Receive, Settle, ValidateNext, Look, Show}
use Rattle.peer_step.specs.declared.answer.Answer.{Answer}
use Rattle.peer_step.specs.declared.answer.Answer.TheVariants.{BadPlace, ClockEnd, HistoryFull, NotAdministrator, LogFull, NothingTentative, Repeat, Conflict, OwnSite, OwnLog, Illegal, HoldFull, Held, Quiet}
use Rattle.peer_step.proofs.Rows.{table_has, when_has, map_has, given_has}
use Rattle.peer_tables.specs.Derived.{greatest_stamp, finds_no_room, is_due}
use Rattle.peer_tables.specs.Awaiting.{least_awaiting}
use Rattle.peer_core.specs.Peer.{Peer, history, log, shown_elements, missing}
use Rattle.peer_core.specs.Local.{fits_text, new_request}
use Rattle.peer_core.specs.Answers.{is_full_history, is_full_log, is_full_hold, answer_by_verdict, own_verdict, rows_of_edit, next_entry, answer_issued, rows_of_log, rows_of_operation, answer_known, answer_own, fault_in, is_next_entry, answer_taken, answer_missing, rows_of_message, answer_due, answer_settle, answer_of}
use Rattle.peer_core.proofs.AnswerLemmas.Rows.{operation_rows}
use Rattle.host_core.specs.declared.limits.TheConstants.{LINK_REQUESTS}
use Rattle.host_core.specs.declared.event.HostEvent.TheVariants.{Made}
use Rattle.host_core.specs.Past.{first_peer, host_peer}
use Rattle.host_core.specs.Laws.{IsStop, GoesOnLaw}
use Rattle.host_core.proofs.Adding.{clock, reserve}

-- ---- a peer whose clock and history have room, and that holds nothing

pub record HasRoom (p : Peer) : Type 0 where
  pub clock : greatest_stamp (history p) < MAX_STAMP
  pub history_fits : length (history p) < MAX_REQUESTS
  pub none_held : p.held ≡ []

-- is stopped by a full log alone
module _ (p : Peer) (room : HasRoom p) where
  abbrev IsByLog : Answer → Type 0
  IsByLog answer = IsStop answer → is_full_log p ≡ true

  by_clock : nat_eq (greatest_stamp (history p)) MAX_STAMP ≡ true → ⊥
  by_clock h =
      let same : greatest_stamp (history p) ≡ MAX_STAMP = eqb-true (greatest_stamp (history p)) MAX_STAMP h in
      let less = room.clock in
      omega arith

  by_history : is_full_history p ≡ true → ⊥
  by_history h =
      let full : MAX_REQUESTS ≤ length (history p) = leb-true MAX_REQUESTS (length (history p)) h in
      let less = room.history_fits in
      omega arith

  by_hold : is_full_hold p ≡ true → ⊥
  by_hold h =
      let none : is_full_hold p ≡ false =
      subst (λ (held : List Message). is_full_hold (record { site = p.site; journal = p.journal; held = held }) ≡ false) (sym room.none_held) refl in
      cc

  -- an edit
  edit_goes : (edit : LocalEdit) → IsByLog (answer_of p (Edit edit))
  edit_goes edit =
      table_has IsByLog (rows_of_edit p edit) (answer_by_verdict (new_request p edit) (own_verdict p (new_request p edit))) (
        when_has IsByLog (not (fits_text (length (shown_elements p)) edit)) (BadPlace (length (shown_elements p))) (λ h stop. absurd stop),
        (
          when_has IsByLog (nat_eq (greatest_stamp (history p)) MAX_STAMP) ClockEnd (λ h stop. absurd (by_clock h)),
          (when_has IsByLog (is_full_history p) HistoryFull (λ h stop. absurd (by_history h)), tt),
        ),
      )
      (by (own_verdict p (new_request p edit)))
    where
      by : (v : Verdict) → IsByLog (answer_by_verdict (new_request p edit) v)
      by verdicts.Granted stop = absurd stop
      by (verdicts.Denied place) stop = absurd stop

  -- an operation
  operation_goes : (op : AdminOp) → IsByLog (answer_of p (Administer op))
  operation_goes op =
      table_has IsByLog (rows_of_log p ++ rows_of_operation p op) (answer_issued p (next_entry p op)) (
        when_has IsByLog (not (nat_eq p.site 0)) NotAdministrator (λ h stop. absurd stop),
        (
          when_has IsByLog (is_full_log p) LogFull (λ h stop. h),
          operation_rows IsByLog p op (λ fault stop. absurd stop) (λ what stop. absurd stop) (λ stop. absurd stop) (λ state stop. absurd stop),
        ),
      )
      (λ stop. absurd stop)

  -- a validation of the least request
  validation_goes : IsByLog (answer_of p ValidateNext)
  validation_goes =
      table_has IsByLog (rows_of_log p ++ option_map (λ n. answer_issued p (next_entry p (Validate n))) (least_awaiting (history p) (log p)) ∷ []) NothingTentative (
        when_has IsByLog (not (nat_eq p.site 0)) NotAdministrator (λ h stop. absurd stop),
        (
          when_has IsByLog (is_full_log p) LogFull (λ h stop. h),
          (
            map_has IsByLog (λ n. answer_issued p (next_entry p (Validate n))) (least_awaiting (history p) (log p)) (λ n h stop. absurd stop),
            tt,
          ),
        ),
      )
      (λ stop. absurd stop)

  -- a message
  known_goes : (kept : Message) (same : Bool) → IsByLog (cond same Repeat (Conflict kept))
  known_goes kept true stop = absurd stop
  known_goes kept false stop = absurd stop

  own_goes : (m : Message) (a : Answer) → answer_own p m ≡ Some a → IsByLog a
  own_goes (Coop q) a h = when_has IsByLog (nat_eq q.id.site p.site) OwnSite (λ t stop. absurd stop) a h
  own_goes (Admin e) a h = when_has IsByLog (nat_eq p.site 0) OwnLog (λ t stop. absurd stop) a h

  room_goes : (m : Message) → finds_no_room p.journal m ≡ true → ⊥
  room_goes (Coop q) h = by_history h
  room_goes (Admin e) h = absurd cc

  missing_goes : (what : Missing) (full : Bool) → is_full_hold p ≡ full → IsByLog (cond full HoldFull (Held what))
  missing_goes what true e stop = absurd (by_hold e)
  missing_goes what false e stop = absurd stop

  taken_goes : (m : Message) → IsByLog (answer_taken p m)
  taken_goes (Coop q) stop = absurd stop
  taken_goes (Admin e) stop = absurd stop

  message_goes : (m : Message) → IsByLog (answer_of p (Receive m))
  message_goes m =
      table_has IsByLog (option_map (answer_known m) (find_key (key_of m) (p.journal ++ p.held)) ∷ rows_of_message p m ++ option_map (answer_missing p) (missing p m) ∷ []) (answer_taken p m) (
        map_has IsByLog (answer_known m) (find_key (key_of m) (p.journal ++ p.held)) (λ kept found. known_goes kept (message_eq kept m)),
        (
          own_goes m,
          (
            when_has IsByLog (finds_no_room p.journal m) HistoryFull (λ h stop. absurd (room_goes m h)),
            (
              given_has IsByLog (is_next_entry p m) (option_map Illegal (fault_in p m)) (λ next. map_has IsByLog Illegal (fault_in p m) (λ fault h stop. absurd stop)),
              (map_has IsByLog (answer_missing p) (missing p m) (λ what h. missing_goes what (is_full_hold p) refl), tt),
            ),
          ),
        ),
      )
      (taken_goes m)

  -- a settling
  settle_goes : IsByLog (answer_of p Settle)
  settle_goes stop =
      let quiet : answer_settle p ≡ Quiet = ap (λ (held : List Message). option_map_or (answer_due p) (find (is_due p.journal) held) Quiet) room.none_held in
      absurd (subst IsStop quiet stop)

  pub goes : (step : Step) → IsByLog (answer_of p step)
  goes (Edit edit) = edit_goes edit
  goes (Administer op) = operation_goes op
  goes (Receive m) = message_goes m
  goes Settle = settle_goes
  goes ValidateNext = validation_goes
  goes (Look from) = λ stop. absurd stop
  goes Show = λ stop. absurd stop

-- ---- behind what a link offered

pub goes_on : GoesOnLaw
goes_on es l m p step h none slow same held stop =
    let H : List Request = history p in
    let after : Peer = host_peer (Made (Some l) (Receive m) ∷ es) in
    let stays = reserve es l m h in
    let ran = clock (Made (Some l) (Receive m) ∷ es) h none in
    let requests : history p ≡ history after = ap requests_of same in
    let entries : log p ≡ log (host_peer es) = ap entries_of same ∙ stays.0 in
    let few : length H ≤ LINK_REQUESTS = subst (λ (R : List Request). length R ≤ LINK_REQUESTS) (sym requests) stays.1 in
    let early : greatest_stamp H + length (history (first_peer es)) ≤ greatest_stamp (history (first_peer es)) + length H =
    subst (λ (R : List Request). greatest_stamp R + length (history (first_peer es)) ≤ greatest_stamp (history (first_peer es)) + length R) (sym requests) ran in
    let room : HasRoom p = record { clock = omega arith; history_fits = omega arith; none_held = held } in
    subst (λ (L : List Entry). nat_le MAX_VERSION (length L) ≡ true) entries (goes p room step stop)
