-- The answers to messages of others.
use Rattle.std.proofs.Common.{◌≡◌, ◌+◌, true, false, ◌&&◌, [], ◌∷◌, ◌++◌, None, Some, refl, ap, sym, ◌∙◌}
use Rattle.std.specs.Prelude.{nat_eq, is_none, option_map, unwrap_or}
use Rattle.std.specs.declared.option.Option.{Option}
use Rattle.std.proofs.lemmas.Bool.{and_parts, eq-eqb}
use Rattle.element_name.specs.Cases.{when, given, first_of}
use Rattle.element_name.proofs.CaseLemmas.{when-None, option_map-None, option_or-None}
use Rattle.coop_request.specs.Request.{request_fault}
use Rattle.coop_request.specs.History.{elements_of}
use Rattle.edit_message.specs.declared.message.Key.{Key}
use Rattle.edit_message.specs.declared.message.Message.{Message}
use Rattle.edit_message.specs.declared.message.Message.TheVariants.{Coop, Admin}
use Rattle.edit_message.specs.Message.{key_of, find_key}
use Rattle.policy_book.specs.Lists.{is_name}
use Rattle.edit_message.specs.Formed.{is_message, is_edit}
use Rattle.admin_log.specs.Log.{entry_fault}
use Rattle.peer_step.specs.declared.step.Step.TheVariants as steps
use Rattle.peer_step.specs.declared.answer.Answer.{Answer}
use Rattle.peer_step.specs.declared.answer.Answer.TheVariants.{HistoryFull, Illegal}
use Rattle.peer_tables.specs.Derived.{finds_no_room}
use Rattle.peer_core.specs.Peer.{Peer, history, log, front, missing}
use Rattle.peer_tables.specs.Journal.{IsLegalAfter}
use Rattle.peer_core.specs.Waiting.{MayIntegrate}
use Rattle.peer_core.specs.Answers.{answer_known, answer_own, fault_in, is_next_entry, answer_taken, answer_missing, answer_receive, rows_of_message}
use Rattle.peer_core.specs.After.{changed_by}
use Rattle.peer_tables.proofs.JournalLemmas.{none_is, no_row, entry_here}
use Rattle.peer_core.proofs.SoundLemmas.Keys.{new_key}
use Rattle.peer_core.proofs.AnswerLemmas.Refusals.{receive_refuses}

-- ---- messages of others

-- nothing is found under the key of a message
pub not_found : (p : Peer) (m : Message) (key : Key) → key ≡ key_of m → None ≡ find_key key (p.journal ++ p.held) → find_key (key_of m) (p.journal ++ p.held) ≡ None
not_found p m key is found = ap (λ (k : Key). find_key k (p.journal ++ p.held)) (sym is) ∙ sym found

-- what is found is here already
pub receive_known : (p : Peer) (m kept : Message) → Some kept ≡ find_key (key_of m) (p.journal ++ p.held) → answer_receive p m ≡ answer_known m kept
receive_known p m kept found = rw (sym found) refl

-- a refusal stands ahead of what the message misses
refused_first : (row second third last : Option Answer) (a : Answer) → Some a ≡ first_of (row ∷ second ∷ third ∷ []) → first_of (row ∷ second ∷ third ∷ last ∷ []) ≡ Some a
refused_first (Some b) second third last a h = sym h
refused_first None (Some b) third last a h = sym h
refused_first None None (Some b) last a h = sym h
refused_first None None None last a h = absurd (cc)

refused_none : (row second third last : Option Answer) → first_of (row ∷ second ∷ third ∷ []) ≡ None → first_of (row ∷ second ∷ third ∷ last ∷ []) ≡ first_of (last ∷ [])
refused_none (Some b) second third last h = absurd (cc)
refused_none None (Some b) third last h = absurd (cc)
refused_none None None (Some b) last h = absurd (cc)
refused_none None None None last h = refl

receive_new : (p : Peer) (m : Message) → find_key (key_of m) (p.journal ++ p.held) ≡ None
    → answer_receive p m ≡ unwrap_or (first_of (rows_of_message p m ++ option_map (answer_missing p) (missing p m) ∷ [])) (answer_taken p m)
receive_new p m none = rw none refl

-- what no row refuses is held where it misses something, and is taken else
pub receive_free : (p : Peer) (m : Message) → find_key (key_of m) (p.journal ++ p.held) ≡ None → first_of (rows_of_message p m) ≡ None
    → answer_receive p m ≡ unwrap_or (option_map (answer_missing p) (missing p m)) (answer_taken p m)
receive_free p m none refusal =
    receive_new p m none
    ∙ ap (λ (o : Option Answer). unwrap_or o (answer_taken p m))
    (refused_none (answer_own p m) (when (finds_no_room p.journal m) HistoryFull) (given (is_next_entry p m) (option_map Illegal (fault_in p m)))
    (option_map (answer_missing p) (missing p m)) refusal ∙ option_or-None (option_map (answer_missing p) (missing p m)))

pub receive_refused : (p : Peer) (m : Message) (a : Answer) → find_key (key_of m) (p.journal ++ p.held) ≡ None → Some a ≡ first_of (rows_of_message p m) → answer_receive p m ≡ a
receive_refused p m a none h =
    receive_new p m none
    ∙ ap (λ (o : Option Answer). unwrap_or o (answer_taken p m))
    (refused_first (answer_own p m) (when (finds_no_room p.journal m) HistoryFull) (given (is_next_entry p m) (option_map Illegal (fault_in p m)))
    (option_map (answer_missing p) (missing p m)) a h)

pub receive_refused_after : (p : Peer) (m : Message) (a : Answer) → find_key (key_of m) (p.journal ++ p.held) ≡ None → Some a ≡ first_of (rows_of_message p m)
    → p ≡ changed_by p (steps.Receive m) (answer_receive p m)
receive_refused_after p m a none h =
    sym (ap (changed_by p (steps.Receive m)) (receive_refused p m a none h) ∙ (receive_refuses p m a h).same p (steps.Receive m))

-- what a message that may be taken is
record IsFree (p : Peer) (m : Message) : Type 0 where
  foreign : answer_own p m ≡ None
  room : finds_no_room p.journal m ≡ false
  legal : given (is_next_entry p m) (option_map Illegal (fault_in p m)) ≡ None

free : (p : Peer) (m : Message) → first_of (rows_of_message p m) ≡ None → IsFree p m
free p m none =
    let rows = no_row (rows_of_message p m) none in
    record { foreign = rows.0; room = when-None (finds_no_room p.journal m) HistoryFull rows.1.0; legal = rows.1.1.0 }

-- a well-formed message that has no fault is legal
pub legal_of : (p : Peer) (m : Message) → is_message m ≡ true → fault_in p m ≡ None → IsLegalAfter (log p) m
legal_of p (Coop q) formed fault =
    let parts = and_parts (is_name q.id) (is_edit q.edit && is_none (request_fault q)) formed in
    none_is (request_fault q) (and_parts (is_edit q.edit) (is_none (request_fault q)) parts.1).1
legal_of p (Admin e) formed fault = fault

next_fault : (p : Peer) (m : Message) → missing p m ≡ None → given (is_next_entry p m) (option_map Illegal (fault_in p m)) ≡ None → fault_in p m ≡ None
next_fault p (Coop q) complete legal = refl
next_fault p (Admin e) complete legal =
    let number = (entry_here (front p) (elements_of (history p)) e complete).version in
    let next : nat_eq e.version (front p + 1) ≡ true = eq-eqb e.version (front p + 1) number in
    option_map-None Illegal (entry_fault (log p) e.op) (rw next at legal)

pub may_take : (p : Peer) (m : Message) → is_message m ≡ true → find_key (key_of m) (p.journal ++ p.held) ≡ None → first_of (rows_of_message p m) ≡ None → missing p m ≡ None
    → MayIntegrate p m
may_take p m formed none refusal complete =
    let new = new_key p.journal p.held m none in
    let is_free = free p m refusal in
    record {
      follows = record { new = new.0; complete = complete; legal = legal_of p m formed (next_fault p m complete is_free.legal) };
      new = new.1;
      room = is_free.room;
    }
