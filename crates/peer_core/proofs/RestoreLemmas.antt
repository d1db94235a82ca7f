-- Peers made of a journal, `specs/Restore.antt`.
use Rattle.std.proofs.Common.{◌≡◌, ℕ, ◌+◌, ◌<◌, ◌≤◌, Bool, true, false, not, ◌&&◌, ◌||◌, cond, List, [], ◌∷◌, ◌++◌, length, take, drop, None, Some, ⊎_elim, refl, sym, ap, subst, ◌∙◌, arith, length-append}
use Rattle.std.specs.Prelude.{map, is_none, is_some, nat_le}
use Rattle.std.specs.declared.option.Option.{Option}
use Rattle.std.specs.List.{list_all}
use Rattle.std.proofs.lemmas.Bool.{and_parts, and_from, or_from, cases_lt}
use Rattle.std.proofs.lemmas.Bool.Decides.{nat_tests}
use Rattle.std.proofs.lemmas.List.{append-nil, map-append, take-append-drop, take-take}
use Rattle.std.proofs.lemmas.List.Folds.{list_any-append, list_all-append}
use Rattle.element_name.specs.Growing.{EachFrom}
use Rattle.element_name.proofs.EachAfterLemmas.{EachAfter-front, EachAfter-last}
use Rattle.coop_request.specs.declared.request.TheConstants.{MAX_REQUESTS}
use Rattle.coop_request.specs.Request.{Request}
use Rattle.policy_book.specs.Entry.{Entry}
use Rattle.policy_book.specs.declared.fault.EntryFault.{EntryFault}
use Rattle.edit_message.specs.declared.message.Message.{Message}
use Rattle.edit_message.specs.declared.message.Message.TheVariants.{Coop, Admin}
use Rattle.edit_message.specs.Formed.{is_message}
use Rattle.edit_message.specs.Message.{key_of, key_eq, find_key, requests_of, entries_of}
use Rattle.admin_log.specs.Log.{entry_fault}
use Rattle.hold_back.specs.Hold.{IsNewKey}
use Rattle.peer_step.specs.declared.step.Step.TheVariants.{Edit, Administer, Receive, Settle, ValidateNext, Look, Show}
use Rattle.peer_tables.specs.Derived.{missing_in, finds_no_room, is_due}
use Rattle.peer_tables.specs.Journal.{FollowsJournal, IsWithin, has_key_of}
use Rattle.peer_core.specs.Waiting.{IsPeer}
use Rattle.peer_core.specs.Local.{new_request}
use Rattle.peer_core.specs.Answers.{fault_in}
use Rattle.peer_core.specs.Restore.{peer_of_journal, is_faulty, may_be_next, FailsJournalAt, OneFailLaw, NoFailLaw, RestoredSound, OwnStepLaw, FreshNameLaw}
use Rattle.peer_tables.proofs.JournalLemmas.{none_is, requests_append, entries_append, requests_request}
use Rattle.peer_core.proofs.WaitingLemmas.OneMore.{any_map}
use Rattle.peer_core.proofs.SoundLemmas.Keys.{new_key}
use Rattle.peer_core.proofs.AnswerLemmas.Edits.{may_edit}
use Rattle.peer_core.proofs.AnswerLemmas.Received.{legal_of}
use Rattle.peer_core.proofs.EditLemmas.Law.{made_of}

-- ---- a message that may be the next follows

none_some : {A : Type 0} (o : Option A) → not (is_some o) ≡ true → o ≡ None
none_some None h = refl
none_some (Some x) h = absurd (cc)

no_fault : (J : List Message) (m : Message) → not (is_faulty J m) ≡ true → fault_in (peer_of_journal 0 J) m ≡ None
no_fault J (Coop q) h = refl
no_fault J (Admin e) h = none_some (entry_fault (entries_of J) e.op) h

pub next_follows : (J : List Message) (m : Message) → is_message m ≡ true → may_be_next J m ≡ true → FollowsJournal J m
next_follows J m formed next =
    let parts = and_parts (is_none (find_key (key_of m) J)) (is_due J m && not (is_faulty J m)) next in
    let rest = and_parts (is_due J m) (not (is_faulty J m)) parts.1 in
    let due = and_parts (is_none (missing_in J m)) (not (finds_no_room J m)) rest.0 in
    let none : find_key (key_of m) J ≡ None = none_is (find_key (key_of m) J) parts.0 in
    record {
      new = (new_key J [] m (subst (λ (xs : List Message). find_key (key_of m) xs ≡ None) (sym (append-nil J)) none)).0;
      complete = none_is (missing_in J m) due.0;
      legal = legal_of (peer_of_journal 0 J) m formed (no_fault J m rest.1);
    }

pub next_room : (J : List Message) (m : Message) → may_be_next J m ≡ true → finds_no_room J m ≡ false
next_room J m next =
    let parts = and_parts (is_none (find_key (key_of m) J)) (is_due J m && not (is_faulty J m)) next in
    let rest = and_parts (is_due J m) (not (is_faulty J m)) parts.1 in
    let due = and_parts (is_none (missing_in J m)) (not (finds_no_room J m)) rest.0 in
    no (finds_no_room J m) due.1
  where
    no : (b : Bool) → not b ≡ true → b ≡ false
    no true h = absurd (cc)
    no false h = refl

-- ---- one that may not makes no longer journal

none_found : (J : List Message) (m : Message) → has_key_of J m ≡ false → is_none (find_key (key_of m) J) ≡ true
none_found [] m h = refl
none_found (k ∷ J) m h = elim (key_eq (key_of k) (key_of m)) as (λ b. (b || has_key_of J m) ≡ false → is_none (cond b (Some k) (find_key (key_of m) J)) ≡ true) [
  | true ↦ λ g. absurd (cc)
  | false ↦ λ g. none_found J m g
] h

has_room : (J : List Message) (m : Message) → length (requests_of (J ++ m ∷ [])) ≤ MAX_REQUESTS → not (finds_no_room J m) ≡ true
has_room J (Coop q) few =
    let size : length (requests_of (J ++ Coop q ∷ [])) ≡ length (requests_of J) + 1 = ap (λ (R : List Request). length R) (requests_request J q) ∙ length-append (requests_of J) (q ∷ []) in
    let less : length (requests_of J) < MAX_REQUESTS = omega (arith, size, few) in
    let full : nat_le MAX_REQUESTS (length (requests_of J)) ≡ false = grind (arith, nat_tests) in
    ap not full
has_room J (Admin e) few = refl

has_no_fault : (J : List Message) (m : Message) → FollowsJournal J m → not (is_faulty J m) ≡ true
has_no_fault J (Coop q) follows = refl
has_no_fault J (Admin e) follows = ap (λ (o : Option EntryFault). not (is_some o)) follows.legal

next_within : (J : List Message) (m : Message) → IsWithin (J ++ m ∷ []) → may_be_next J m ≡ true
next_within J m within =
    let follows = EachAfter-last FollowsJournal J m within.journal_is in
    and_from (is_none (find_key (key_of m) J)) (is_due J m && not (is_faulty J m)) (none_found J m follows.new)
    (and_from (is_due J m) (not (is_faulty J m))
    (and_from (is_none (missing_in J m)) (not (finds_no_room J m)) (ap is_none follows.complete) (has_room J m within.requests))
    (has_no_fault J m follows))

pub next_refused : (J : List Message) (m : Message) → may_be_next J m ≡ false → ¬ IsWithin (J ++ m ∷ [])
next_refused J m refused within = let next = next_within J m within in absurd (cc)

-- ---- the place at which messages fail to be a journal

within_front : (J K : List Message) → IsWithin (J ++ K) → IsWithin J
within_front J K within =
    let requests : length (requests_of (J ++ K)) ≡ length (requests_of J) + length (requests_of K) = ap (λ (R : List Request). length R) (requests_append J K) ∙ length-append (requests_of J) (requests_of K) in
    let entries : length (entries_of (J ++ K)) ≡ length (entries_of J) + length (entries_of K) = ap (λ (L : List Entry). length L) (entries_append J K) ∙ length-append (entries_of J) (entries_of K) in
    let few = within.requests in
    let last = within.entries in
    record {
      journal_is = EachAfter-front FollowsJournal J K within.journal_is;
      formed = (and_parts (list_all is_message J) (list_all is_message K) (sym (list_all-append is_message J K) ∙ within.formed)).0;
      requests = omega (arith, requests, few);
      entries = omega (arith, entries, last);
    }

within_take : (J : List Message) (k : ℕ) → IsWithin J → IsWithin (take k J)
within_take J k within = within_front (take k J) (drop k J) (subst IsWithin (sym (take-append-drop k J)) within)

pub no_fail_law : NoFailLaw
no_fail_law messages i within fails = fails.fails (within_take messages (i + 1) within)

not_before : (messages : List Message) (i k : ℕ) → FailsJournalAt messages i → FailsJournalAt messages k → i < k → ⊥
not_before messages i k first second less =
    first.fails (subst IsWithin (take-take (i + 1) k messages (omega (arith, less))) (within_take (take k messages) (i + 1) second.before))

pub one_fail_law : OneFailLaw
one_fail_law messages i k first second =
    ⊎_elim
    (λ (less : i < k). absurd (not_before messages i k first second less))
    (λ (le : k ≤ i). ⊎_elim
    (λ (less : k < i). absurd (not_before messages k i second first less))
    (λ (ge : i ≤ k). omega arith)
    (cases_lt k i))
    (cases_lt i k)

-- ---- the peer of a journal

keys_from : (J K : List Message) → EachFrom FollowsJournal J K → EachFrom IsNewKey (map key_of J) (map key_of K)
keys_from J [] each = tt
keys_from J (m ∷ K) each = (
  any_map J m ∙ each.0.new,
  subst (λ ks. EachFrom IsNewKey ks (map key_of K)) (map-append key_of J (m ∷ [])) (keys_from (J ++ m ∷ []) K each.1),
)

pub restored_sound : RestoredSound
restored_sound site J within = record {
  journal = within.journal_is;
  keys = subst (λ (ms : List Message). EachFrom IsNewKey [] (map key_of ms)) (sym (append-nil J)) (keys_from [] J within.journal_is);
  formed = subst (λ (ms : List Message). list_all is_message ms ≡ true) (sym (append-nil J)) within.formed;
  requests = within.requests;
  entries = within.entries;
  few_held = omega arith;
  foreign = refl;
}

pub restored_peer : (site : ℕ) (J : List Message) → IsWithin J → IsPeer site J []
restored_peer site J within = record { sound = restored_sound site J within; waiting = refl; missing = refl }

pub own_step_law : OwnStepLaw
own_step_law p (Edit edit) own = refl
own_step_law p (Administer op) own = refl
own_step_law p (Receive m) own = absurd (cc)
own_step_law p Settle own = absurd (cc)
own_step_law p ValidateNext own = refl
own_step_law p (Look from) own = refl
own_step_law p Show own = refl

pub fresh_name_law : FreshNameLaw
fresh_name_law p edit q sound done =
    let made = made_of p edit q done in
    let may = may_edit p edit sound made.place made.room in
    subst (λ (r : Request). has_key_of (p.journal ++ p.held) (Coop r) ≡ false) made.is
    (list_any-append (λ k. key_eq (key_of k) (key_of (Coop (new_request p edit)))) p.journal p.held
    ∙ or_from (has_key_of p.journal (Coop (new_request p edit))) (has_key_of p.held (Coop (new_request p edit))) may.follows.new may.new)
