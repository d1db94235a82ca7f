-- A refusal changes nothing, and takes no memory.
use Rattle.std.proofs.Common.{◌≡◌, true, false, not, length, Some, refl, ap, sym, ◌∙◌}
use Rattle.std.specs.Prelude.{nat_eq, option_map, option_and_then, unwrap_or}
use Rattle.std.specs.declared.option.Option.{Option}
use Rattle.std.specs.Option.{option_map_or}
use Rattle.element_name.specs.Cases.{first_of}
use Rattle.element_name.specs.declared.limits.TheConstants.{MAX_STAMP}
use Rattle.coop_request.specs.History.{elements_of}
use Rattle.policy_book.specs.declared.op.AdminOp.{AdminOp}
use Rattle.edit_message.specs.declared.message.Message.{Message}
use Rattle.edit_message.specs.declared.message.Message.TheVariants.{Coop, Admin}
use Rattle.edit_message.specs.Missing.{missing_end}
use Rattle.admin_log.specs.Log.{entry_fault}
use Rattle.peer_step.specs.declared.step.LocalEdit.{LocalEdit}
use Rattle.peer_step.specs.declared.step.Step.{Step}
use Rattle.peer_step.specs.declared.answer.Answer.{Answer}
use Rattle.peer_step.specs.declared.answer.Answer.TheVariants.{BadPlace, ClockEnd, HistoryFull, NotAdministrator, LogFull, Refused, NotHere, NeedsNone, AlreadyInvalid, OwnSite, OwnLog, Illegal}
use Rattle.peer_step.proofs.Rows.{first_has, when_has, map_has, given_has}
use Rattle.peer_tables.specs.Derived.{finds_no_room, greatest_stamp}
use Rattle.peer_core.specs.Peer.{Peer, history, log, shown_elements}
use Rattle.peer_core.specs.Local.{fits_text}
use Rattle.peer_tables.specs.Awaiting.{validated_by}
use Rattle.peer_core.specs.Answers.{missing_request, invalid_state, answer_own, fault_in, is_next_entry, is_full_history, is_full_log, rows_of_edit, rows_of_administer, rows_of_message}
use Rattle.peer_core.specs.After.{changed_by, takes_none}

-- ---- a refusal changes nothing, and takes no memory

pub record IsRefusal (a : Answer) : Type 0 where
  pub same : (p : Peer) (step : Step) → changed_by p step a ≡ p
  pub none : takes_none a ≡ true

-- of a table with a refusal in it
pub refused_after : (p : Peer) (step : Step) (o : Option Answer) (other a : Answer) → Some a ≡ o → IsRefusal a → p ≡ changed_by p step (unwrap_or o other)
refused_after p step o other a is refusal = sym (ap (λ (x : Option Answer). changed_by p step (unwrap_or x other)) (sym is) ∙ refusal.same p step)

pub edit_refuses : (p : Peer) (edit : LocalEdit) (a : Answer) → Some a ≡ first_of (rows_of_edit p edit) → IsRefusal a
edit_refuses p edit a h =
    first_has IsRefusal (rows_of_edit p edit) a (
      when_has IsRefusal (not (fits_text (length (shown_elements p)) edit)) (BadPlace (length (shown_elements p))) (λ test. record { same = λ q step. refl; none = refl }),
      (
        when_has IsRefusal (nat_eq (greatest_stamp (history p)) MAX_STAMP) ClockEnd (λ test. record { same = λ q step. refl; none = refl }),
        (when_has IsRefusal (is_full_history p) HistoryFull (λ test. record { same = λ q step. refl; none = refl }), tt),
      ),
    )
    (sym h)

pub administer_refuses : (p : Peer) (op : AdminOp) (a : Answer) → Some a ≡ first_of (rows_of_administer p op) → IsRefusal a
administer_refuses p op a h =
    first_has IsRefusal (rows_of_administer p op) a (
      when_has IsRefusal (not (nat_eq p.site 0)) NotAdministrator (λ test. record { same = λ q step. refl; none = refl }),
      (
        when_has IsRefusal (is_full_log p) LogFull (λ test. record { same = λ q step. refl; none = refl }),
        (
          map_has IsRefusal Refused (entry_fault (log p) op) (λ x is. record { same = λ q step. refl; none = refl }),
          (
            map_has IsRefusal NotHere (missing_end (elements_of (history p)) op) (λ x is. record { same = λ q step. refl; none = refl }),
            (
              map_has IsRefusal NotHere (option_and_then (missing_request p) (validated_by op)) (λ x is. record { same = λ q step. refl; none = refl }),
              (
                when_has IsRefusal (option_map_or (λ n. nat_eq n.site 0) (validated_by op) false) NeedsNone (λ test. record { same = λ q step. refl; none = refl }),
                (map_has IsRefusal AlreadyInvalid (option_and_then (invalid_state p) (validated_by op)) (λ x is. record { same = λ q step. refl; none = refl }), tt),
              ),
            ),
          ),
        ),
      ),
    )
    (sym h)

own_refuses : (p : Peer) (m : Message) (a : Answer) → answer_own p m ≡ Some a → IsRefusal a
own_refuses p (Coop q) a h = when_has IsRefusal (nat_eq q.id.site p.site) OwnSite (λ test. record { same = λ q step. refl; none = refl }) a h
own_refuses p (Admin e) a h = when_has IsRefusal (nat_eq p.site 0) OwnLog (λ test. record { same = λ q step. refl; none = refl }) a h

pub receive_refuses : (p : Peer) (m : Message) (a : Answer) → Some a ≡ first_of (rows_of_message p m) → IsRefusal a
receive_refuses p m a h =
    first_has IsRefusal (rows_of_message p m) a (
      own_refuses p m,
      (
        when_has IsRefusal (finds_no_room p.journal m) HistoryFull (λ test. record { same = λ q step. refl; none = refl }),
        (given_has IsRefusal (is_next_entry p m) (option_map Illegal (fault_in p m)) (λ test. map_has IsRefusal Illegal (fault_in p m) (λ x is. record { same = λ q step. refl; none = refl })), tt),
      ),
    )
    (sym h)
