-- What each refusal has, each row of a peer's tables of refusals has.
use Rattle.std.proofs.Common.{ℕ, false, not, length}
use Rattle.std.specs.Prelude.{nat_eq, option_and_then}
use Rattle.std.specs.Option.{option_map_or}
use Rattle.element_name.specs.Name.{Name}
use Rattle.element_name.specs.declared.limits.TheConstants.{MAX_STAMP}
use Rattle.coop_request.specs.History.{elements_of}
use Rattle.policy_book.specs.declared.op.AdminOp.{AdminOp}
use Rattle.policy_book.specs.declared.fault.EntryFault.{EntryFault}
use Rattle.edit_message.specs.declared.message.Missing.{Missing}
use Rattle.edit_message.specs.Missing.{missing_end}
use Rattle.request_state.specs.declared.state.State.{State}
use Rattle.admin_log.specs.Log.{entry_fault}
use Rattle.peer_step.specs.declared.step.LocalEdit.{LocalEdit}
use Rattle.peer_step.specs.declared.answer.Answer.{Answer}
use Rattle.peer_step.specs.declared.answer.Answer.TheVariants.{BadPlace, ClockEnd, HistoryFull, Refused, NotHere, NeedsNone, AlreadyInvalid}
use Rattle.peer_step.proofs.Rows.{EachRow, when_has, map_has}
use Rattle.peer_tables.specs.Awaiting.{validated_by}
use Rattle.peer_tables.specs.Derived.{greatest_stamp}
use Rattle.peer_core.specs.Peer.{Peer, history, log, shown_elements}
use Rattle.peer_core.specs.Local.{fits_text}
use Rattle.peer_core.specs.Answers.{rows_of_edit, rows_of_operation, is_full_history, missing_request, invalid_state}

module _ (P : Answer → Type 0) (p : Peer) where
  -- of an edit
  pub edit_rows : (edit : LocalEdit) → ((shown : ℕ) → P (BadPlace shown)) → P ClockEnd → P HistoryFull → EachRow P (rows_of_edit p edit)
  edit_rows edit bad_place clock_end full = (
    when_has P (not (fits_text (length (shown_elements p)) edit)) (BadPlace (length (shown_elements p))) (λ h. bad_place (length (shown_elements p))),
    (
      when_has P (nat_eq (greatest_stamp (history p)) MAX_STAMP) ClockEnd (λ h. clock_end),
      (when_has P (is_full_history p) HistoryFull (λ h. full), tt),
    ),
  )

  -- of an operation
  pub operation_rows : (op : AdminOp) → ((fault : EntryFault) → P (Refused fault)) → ((what : Missing) → P (NotHere what)) → P NeedsNone → ((state : State) → P (AlreadyInvalid state))
      → EachRow P (rows_of_operation p op)
  operation_rows op refused not_here needs_none invalid = (
    map_has P Refused (entry_fault (log p) op) (λ fault h. refused fault),
    (
      map_has P NotHere (missing_end (elements_of (history p)) op) (λ what h. not_here what),
      (
        map_has P NotHere (option_and_then (missing_request p) (validated_by op)) (λ what h. not_here what),
        (
          when_has P (option_map_or (λ (n : Name). nat_eq n.site 0) (validated_by op) false) NeedsNone (λ h. needs_none),
          (map_has P AlreadyInvalid (option_and_then (invalid_state p) (validated_by op)) (λ state h. invalid state), tt),
        ),
      ),
    ),
  )
