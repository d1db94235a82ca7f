-- The answers to a step that settles.
use Rattle.std.proofs.Common.{◌≡◌, ℕ, ◌<◌, ◌≤◌, ⊎_elim, true, false, not, List, [], ◌∷◌, ◌++◌, length, None, Some, refl, ap, sym, subst, ◌∙◌, arith, remove, get_or}
use Rattle.std.specs.Prelude.{nat_lt, position, is_none, slice_get, option_and_then}
use Rattle.std.specs.declared.option.Option.{Option}
use Rattle.std.specs.Option.{option_or, option_map_or}
use Rattle.std.specs.List.{position_or_len}
use Rattle.std.proofs.lemmas.Bool.{and_parts, cases_Bool, not-true, ltb-true, ltb-false}
use Rattle.std.proofs.lemmas.List.Folds.{find_at, find-append}
use Rattle.std.proofs.lemmas.Option.{same_Some, cond_some, slice_get_past, slice_get-get_or, slice_get_cases}
use Rattle.std.proofs.lemmas.List.Quantifiers.{position-Some}
use Rattle.policy_book.specs.declared.fault.EntryFault.{EntryFault}
use Rattle.policy_book.specs.Entry.{Entry}
use Rattle.edit_message.specs.declared.message.Key.{Key}
use Rattle.edit_message.specs.declared.message.Message.{Message}
use Rattle.edit_message.specs.declared.message.Message.TheVariants.{Coop, Admin}
use Rattle.edit_message.specs.Message.{key_of, key_eq, find_key}
use Rattle.edit_message.specs.Formed.{is_message}
use Rattle.admin_log.specs.Log.{entry_fault}
use Rattle.hold_back.specs.declared.held.Held.{Held}
use Rattle.hold_back.specs.Hold.{messages_of, find_held}
use Rattle.peer_step.specs.declared.step.Step.TheVariants as steps
use Rattle.peer_step.specs.declared.answer.Answer.TheVariants.{Quiet, Dropped, Settled}
use Rattle.peer_tables.specs.Derived.{finds_no_room, is_due}
use Rattle.peer_core.specs.Peer.{Peer, log, missing, integrate}
use Rattle.peer_tables.specs.Journal.{FollowsJournal}
use Rattle.peer_core.specs.Sound.{IsSound}
use Rattle.peer_core.specs.Answers.{fault_in, outcome_of, answer_due, answer_settle}
use Rattle.peer_core.specs.After.{let_go, changed_by, takes_none}
use Rattle.peer_core.proofs.WaitingLemmas.Rightly.{all_at}
use Rattle.peer_core.proofs.SoundLemmas.Peers.{formed_held}
use Rattle.peer_core.proofs.SoundLemmas.Keys.{held_new}
use Rattle.peer_core.proofs.AnswerLemmas.Entries.{find_messages}
use Rattle.peer_tables.proofs.JournalLemmas.{none_is}
use Rattle.peer_core.proofs.AnswerLemmas.Received.{legal_of}

-- ---- held messages

due_place : (p : Peer) (i : ℕ) → position (is_due p.journal) p.held ≡ Some i → position_or_len (is_due p.journal) p.held ≡ i
due_place p i due =
    (cond_some (nat_lt (position_or_len (is_due p.journal) p.held) (length p.held)) (position_or_len (is_due p.journal) p.held) i due).1

settle_due : (p : Peer) (i : ℕ) (m : Message) → position (is_due p.journal) p.held ≡ Some i → slice_get p.held i ≡ Some m → answer_settle p ≡ answer_due p m
settle_due p i m due at =
    ap (λ (o : Option Message). option_map_or (answer_due p) o Quiet)
    (find_at (is_due p.journal) p.held ∙ ap (λ (k : ℕ). slice_get p.held k) (due_place p i due) ∙ at)

let_go_at : (p : Peer) (i : ℕ) → position (is_due p.journal) p.held ≡ Some i → let_go p ≡ record { site = p.site; journal = p.journal; held = remove p.held i }
let_go_at p i due =
    let without : ℕ → Peer = λ k. record { site = p.site; journal = p.journal; held = remove p.held k } in
    ap without (due_place p i due)

pub settle_dropped : (p : Peer) (i : ℕ) (e : Entry) (fault : EntryFault) → position (is_due p.journal) p.held ≡ Some i → slice_get p.held i ≡ Some (Admin e)
    → option_and_then (fault_in p) (slice_get p.held i) ≡ Some fault → answer_settle p ≡ Dropped e fault
settle_dropped p i e fault due at faulty =
    let here : entry_fault (log p) e.op ≡ Some fault = sym (ap (option_and_then (fault_in p)) at) ∙ faulty in
    settle_due p i (Admin e) due at ∙ ap (λ (o : Option EntryFault). option_map_or (Dropped e) o (Settled (Admin e) (outcome_of p (Admin e)))) here

pub settle_dropped_after : (p : Peer) (i : ℕ) (e : Entry) (fault : EntryFault) → position (is_due p.journal) p.held ≡ Some i → slice_get p.held i ≡ Some (Admin e)
    → option_and_then (fault_in p) (slice_get p.held i) ≡ Some fault
    → ◌≡◌ {A = Peer} (record { site = p.site; journal = p.journal; held = remove p.held i }) (changed_by p steps.Settle (answer_settle p))
settle_dropped_after p i e fault due at faulty =
    sym (ap (changed_by p steps.Settle) (settle_dropped p i e fault due at faulty) ∙ let_go_at p i due)

pub no_fault_at : (p : Peer) (i : ℕ) (m : Message) → slice_get p.held i ≡ Some m → option_and_then (fault_in p) (slice_get p.held i) ≡ None → fault_in p m ≡ None
no_fault_at p i m at legal = sym (ap (option_and_then (fault_in p)) at) ∙ legal

due_legal : (p : Peer) (m : Message) → fault_in p m ≡ None → answer_due p m ≡ Settled m (outcome_of p m)
due_legal p (Coop q) legal = refl
due_legal p (Admin e) legal = ap (λ (o : Option EntryFault). option_map_or (Dropped e) o (Settled (Admin e) (outcome_of p (Admin e)))) legal

pub settle_legal : (p : Peer) (i : ℕ) (m : Message) → position (is_due p.journal) p.held ≡ Some i → slice_get p.held i ≡ Some m → fault_in p m ≡ None
    → answer_settle p ≡ Settled m (outcome_of p m)
settle_legal p i m due at legal = settle_due p i m due at ∙ due_legal p m legal

pub settle_legal_after : (p : Peer) (i : ℕ) (m : Message) → position (is_due p.journal) p.held ≡ Some i → slice_get p.held i ≡ Some m → fault_in p m ≡ None
    → ◌≡◌ {A = Peer} (record { site = p.site; journal = p.journal ++ m ∷ []; held = remove p.held i }) (changed_by p steps.Settle (answer_settle p))
settle_legal_after p i m due at legal =
    sym (ap (changed_by p steps.Settle) (settle_legal p i m due at legal) ∙ ap (λ (q : Peer). integrate q m) (let_go_at p i due))

pub settle_quiet : (p : Peer) → position (is_due p.journal) p.held ≡ None → answer_settle p ≡ Quiet
settle_quiet p none =
    let place : ℕ = position_or_len (is_due p.journal) p.held in
    let past : length p.held ≤ place = ⊎_elim
    (λ (t : nat_lt place (length p.held) ≡ true). absurd (let e = rw t at none in cc))
    (λ (f : nat_lt place (length p.held) ≡ false). ltb-false place (length p.held) f)
    (cases_Bool (nat_lt place (length p.held))) in
    ap (λ (o : Option Message). option_map_or (answer_due p) o Quiet) (find_at (is_due p.journal) p.held ∙ slice_get_past p.held place past)

-- what is due may be integrated
pub due_at_place : (p : Peer) (i : ℕ) (m : Message) → position (is_due p.journal) p.held ≡ Some i → slice_get p.held i ≡ Some m → is_due p.journal m ≡ true
due_at_place p i m due at =
    let found = position-Some (is_due p.journal) p.held i m due in
    subst (λ (x : Message). is_due p.journal x ≡ true) (same_Some (get_or p.held i m) m (sym (slice_get-get_or p.held i m found.0) ∙ at)) found.1

pub due_follows : (p : Peer) (i : ℕ) (m : Message) → IsSound p → position (is_due p.journal) p.held ≡ Some i → slice_get p.held i ≡ Some m → fault_in p m ≡ None
    → FollowsJournal p.journal m
due_follows p i m sound due at legal =
    let parts = and_parts (is_none (missing p m)) (not (finds_no_room p.journal m)) (due_at_place p i m due at) in
    record {
      new = held_new p.journal p.held i m at sound.keys;
      complete = none_is (missing p m) parts.0;
      legal = legal_of p m (all_at is_message p.held i m (formed_held p sound) at) legal;
    }

pub due_room : (p : Peer) (i : ℕ) (m : Message) → position (is_due p.journal) p.held ≡ Some i → slice_get p.held i ≡ Some m → finds_no_room p.journal m ≡ false
due_room p i m due at =
    not-true (finds_no_room p.journal m) (and_parts (is_none (missing p m)) (not (finds_no_room p.journal m)) (due_at_place p i m due at)).1

second_none : {A : Type 0} (x y : Option A) → option_or x y ≡ None → y ≡ None
second_none None y h = h
second_none (Some a) y h = absurd (cc)

pub not_held : (key : Key) (J : List Message) (held : List Held) → find_key key (J ++ messages_of held) ≡ None → find_held key held ≡ None
not_held key J held none =
    find_messages key held
    ∙ second_none (find_key key J) (find_key key (messages_of held)) (sym (find-append (λ m. key_eq (key_of m) key) J (messages_of held)) ∙ none)

-- an integrated message takes memory
pub settle_takes : (p : Peer) (i : ℕ) → position (is_due p.journal) p.held ≡ Some i → option_and_then (fault_in p) (slice_get p.held i) ≡ None
    → takes_none (answer_settle p) ≡ false
settle_takes p i due legal = ⊎_elim
    (λ (found : (m : Message) × (i < length p.held) × (slice_get p.held i ≡ Some m) × (get_or p.held i m ≡ m)).
    ap takes_none (settle_legal p i found.0 due found.2 (no_fault_at p i found.0 found.2 legal)))
    (λ (past : (length p.held ≤ i) × (slice_get p.held i ≡ None)).
    let within = (cond_some (nat_lt (position_or_len (is_due p.journal) p.held) (length p.held)) (position_or_len (is_due p.journal) p.held) i due).0 in
    let below = ltb-true (position_or_len (is_due p.journal) p.held) (length p.held) within in
    let place = due_place p i due in
    absurd (omega (arith, past.0, below, place)))
    (slice_get_cases p.held i).1
