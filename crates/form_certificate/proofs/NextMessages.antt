-- Which message may come next in a journal, and where frames break one.
use Rattle.std.proofs.Common.{◌≡◌, ℕ, ◌+◌, ◌<◌, ◌≤◌, Bool, true, false, not, List, [], ◌∷◌, ◌++◌, length, Option, Some, None, refl, sym, ap, subst, ◌∙◌, append_assoc, arith, length-append}
use Rattle.std.specs.Prelude.{◌&&◌, is_none, map}
use Rattle.std.specs.List.{list_all}
use Rattle.std.proofs.lemmas.Bool.{and_parts, and_from, not-true, false_from_ne_true, true≢false}
use Rattle.std.proofs.lemmas.Bool.Decides.{nat_tests}
use Rattle.std.proofs.lemmas.List.{append-nil}
use Rattle.std.proofs.lemmas.List.Folds.{list_all-append}
use Rattle.element_name.proofs.EachAfterLemmas.{EachAfter-push, EachAfter-last}
use Rattle.coop_request.specs.declared.request.TheConstants.{MAX_REQUESTS}
use Rattle.coop_request.specs.Request.{Request, request_fault}
use Rattle.policy_book.specs.Entry.{Entry}
use Rattle.edit_message.specs.declared.message.Message.{Message}
use Rattle.edit_message.specs.declared.message.Message.TheVariants.{Coop, Admin}
use Rattle.edit_message.specs.Formed.{is_message}
use Rattle.edit_message.specs.Message.{requests_of, entries_of}
use Rattle.edit_frame.specs.declared.frame.Frame.{Frame}
use Rattle.edit_frame.specs.declared.frame.Frame.TheVariants.{Item, Turn, End}
use Rattle.admin_log.specs.Log.{entry_fault}
use Rattle.peer_tables.specs.Derived.{missing_in, finds_no_room, is_due}
use Rattle.peer_tables.specs.Journal.{has_key_of, IsLegalAfter, FollowsJournal, IsJournal, IsWithin}
use Rattle.peer_tables.proofs.JournalLemmas.{none_is, requests_request, requests_entry}
use Rattle.peer_tables.proofs.KeptLemmas.Reads.{entries_within}
use Rattle.audit_cert.specs.Audit.{messages_of_frames, BreaksIn, AreItems}
use Rattle.audit_cert.proofs.Audits.{within_prefix, same_item}
use Rattle.form_certificate.specs.Answer.{is_legal_after, may_come_next, breaking_frame}

-- ---- one message

legal_by : (L : List Entry) (m : Message) → is_legal_after L m ≡ true → IsLegalAfter L m
legal_by L (Coop q) h = none_is (request_fault q) h
legal_by L (Admin e) h = none_is (entry_fault L e.op) h

legal_test : (L : List Entry) (m : Message) → IsLegalAfter L m → is_legal_after L m ≡ true
legal_test L (Coop q) h = ap is_none h
legal_test L (Admin e) h = ap is_none h

-- where there is room the limit is kept
room_by : (J : List Message) (m : Message) → length (requests_of J) ≤ MAX_REQUESTS → finds_no_room J m ≡ false → length (requests_of (J ++ m ∷ [])) ≤ MAX_REQUESTS
room_by J (Coop q) few room =
    let size : length (requests_of (J ++ Coop q ∷ [])) ≡ length (requests_of J) + 1
    = ap (λ (R : List Request). length R) (requests_request J q) ∙ length-append (requests_of J) (q ∷ []) in
    let below : length (requests_of J) < MAX_REQUESTS = grind (arith, nat_tests) in
    omega (arith, size, below)
room_by J (Admin e) few room = subst (λ (R : List Request). length R ≤ MAX_REQUESTS) (sym (requests_entry J e)) few

room_test : (J : List Message) (m : Message) → length (requests_of (J ++ m ∷ [])) ≤ MAX_REQUESTS → finds_no_room J m ≡ false
room_test J (Coop q) few =
    let size : length (requests_of (J ++ Coop q ∷ [])) ≡ length (requests_of J) + 1
    = ap (λ (R : List Request). length R) (requests_request J q) ∙ length-append (requests_of J) (q ∷ []) in
    let below : length (requests_of J) < MAX_REQUESTS = omega (arith, size, few) in
    grind (arith, nat_tests)
room_test J (Admin e) few = refl

-- with a message that may come next a journal is one
pub within_next : (J : List Message) (m : Message) → IsWithin J → may_come_next J m ≡ true → IsWithin (J ++ m ∷ [])
within_next J m within may =
    let key = and_parts (not (has_key_of J m)) (is_due J m && (is_legal_after (entries_of J) m && is_message m)) may in
    let due = and_parts (is_due J m) (is_legal_after (entries_of J) m && is_message m) key.1 in
    let here = and_parts (is_none (missing_in J m)) (not (finds_no_room J m)) due.0 in
    let legal = and_parts (is_legal_after (entries_of J) m) (is_message m) due.1 in
    let follows : FollowsJournal J m = record {
      new = not-true (has_key_of J m) key.0;
      complete = none_is (missing_in J m) here.0;
      legal = legal_by (entries_of J) m legal.0;
    } in
    let journal : IsJournal (J ++ m ∷ []) = EachAfter-push FollowsJournal J m within.journal_is follows in
    let all : list_all is_message (J ++ m ∷ []) ≡ true =
    list_all-append is_message J (m ∷ []) ∙ and_from (list_all is_message J) (list_all is_message (m ∷ [])) within.formed (and_from (is_message m) true legal.1 refl) in
    record {
      journal_is = journal;
      formed = all;
      requests = room_by J m within.requests (not-true (finds_no_room J m) here.1);
      entries = entries_within (J ++ m ∷ []) journal all;
    }

-- and a message with which it is one may come next
pub next_within : (J : List Message) (m : Message) → IsWithin (J ++ m ∷ []) → may_come_next J m ≡ true
next_within J m within =
    let follows : FollowsJournal J m = EachAfter-last FollowsJournal J m within.journal_is in
    let parts = and_parts (list_all is_message J) (list_all is_message (m ∷ [])) (sym (list_all-append is_message J (m ∷ [])) ∙ within.formed) in
    let formed : is_message m ≡ true = (and_parts (is_message m) true parts.1).0 in
    and_from (not (has_key_of J m)) (is_due J m && (is_legal_after (entries_of J) m && is_message m)) (ap not follows.new)
    (and_from (is_due J m) (is_legal_after (entries_of J) m && is_message m)
    (and_from (is_none (missing_in J m)) (not (finds_no_room J m)) (ap is_none follows.complete) (ap not (room_test J m within.requests)))
    (and_from (is_legal_after (entries_of J) m) (is_message m) (legal_test (entries_of J) m follows.legal) formed))

-- ---- frames that are those of a journal

module _ (J : List Message) (m : Message) (frames : List Frame) where
  break_on : may_come_next J m ≡ true → breaking_frame J (Item m ∷ frames) ≡ breaking_frame (J ++ m ∷ []) frames
  break_on may = rw may refl

  break_here : may_come_next J m ≡ false → breaking_frame J (Item m ∷ frames) ≡ Some (length J + 1)
  break_here may = rw may refl

-- one message goes over from what is still to come
regroup : (J : List Message) (m : Message) (K : List Message) → (J ++ m ∷ []) ++ K ≡ J ++ m ∷ K
regroup J m K = append_assoc J (m ∷ []) K

one_further : (J : List Message) (m : Message) (K : List Message) → IsWithin (J ++ m ∷ K) → IsWithin ((J ++ m ∷ []) ++ K)
one_further J m K within = subst (λ (M : List Message). IsWithin M) (sym (regroup J m K)) within

pub none_breaks : (J K : List Message) → IsWithin (J ++ K) → breaking_frame J (map Item K) ≡ None
none_breaks J [] within = refl
none_breaks J (m ∷ K) within =
    let further = one_further J m K within in
    break_on J m (map Item K) (next_within J m (within_prefix (J ++ m ∷ []) K further)) ∙ none_breaks (J ++ m ∷ []) K further

-- ---- a frame that breaks it

refused_next : (J : List Message) (m : Message) → IsWithin J → ¬ IsWithin (J ++ m ∷ []) → may_come_next J m ≡ false
refused_next J m within none = false_from_ne_true (may_come_next J m) (λ may. none (within_next J m within may))

breaks_at : (J : List Message) (next : Frame) (later : List Frame) → IsWithin J → ((m : Message) → next ≡ Item m → ¬ IsWithin (J ++ m ∷ []))
    → breaking_frame J (next ∷ later) ≡ Some (length J + 1)
breaks_at J (Item m) later within breaks = break_here J m later (refused_next J m within (breaks m refl))
breaks_at J Turn later within breaks = refl
breaks_at J End later within breaks = refl

breaks_behind : (J K : List Message) (next : Frame) (later : List Frame) → IsWithin (J ++ K) → ((m : Message) → next ≡ Item m → ¬ IsWithin ((J ++ K) ++ m ∷ []))
    → breaking_frame J (map Item K ++ next ∷ later) ≡ Some (length (J ++ K) + 1)
breaks_behind J [] next later within breaks =
    let same = append-nil J in
    breaks_at J next later (subst (λ (M : List Message). IsWithin M) same within)
    (λ m is. subst (λ (M : List Message). ¬ IsWithin (M ++ m ∷ [])) same (breaks m is))
    ∙ ap (λ (M : List Message). Some (length M + 1)) (sym same)
breaks_behind J (m ∷ K) next later within breaks =
    let further = one_further J m K within in
    let same = regroup J m K in
    break_on J m (map Item K ++ next ∷ later) (next_within J m (within_prefix (J ++ m ∷ []) K further))
    ∙ breaks_behind (J ++ m ∷ []) K next later further (λ n is. subst (λ (M : List Message). ¬ IsWithin (M ++ n ∷ [])) (sym same) (breaks n is))
    ∙ ap (λ (M : List Message). Some (length M + 1)) same

pub breaks_so : (frames : List Frame) (k : ℕ) → BreaksIn frames k → breaking_frame [] frames ≡ Some k
breaks_so frames k b =
    ap (breaking_frame []) b.whole ∙ breaks_behind [] b.journal b.next b.later b.before b.breaks ∙ ap Some (sym b.number)

-- ---- what follows from the number

-- frames behind a journal break it so, or are a journal with it
abbrev Outcome : List Message → List Frame → Option ℕ → Type 0
Outcome J frames None = (frames ≡ map Item (messages_of_frames frames)) × IsWithin (J ++ messages_of_frames frames)
Outcome J frames (Some k) = BreaksIn (map Item J ++ frames) k

items_last : (J : List Message) (m : Message) (frames : List Frame) → map Item (J ++ m ∷ []) ++ frames ≡ map Item J ++ Item m ∷ frames
items_last [] m frames = refl
items_last (k ∷ J) m frames = ap (λ (fs : List Frame). Item k ∷ fs) (items_last J m frames)

broken_by : (J : List Message) (next : Frame) (later : List Frame) → IsWithin J → ((m : Message) → next ≡ Item m → ¬ IsWithin (J ++ m ∷ []))
    → BreaksIn (map Item J ++ next ∷ later) (length J + 1)
broken_by J next later within breaks = record {
  journal = J;
  next = next;
  later = later;
  whole = refl;
  number = refl;
  before = within;
  breaks = breaks;
}

outcome_on : (J : List Message) (m : Message) (frames : List Frame) (o : Option ℕ) → Outcome (J ++ m ∷ []) frames o → Outcome J (Item m ∷ frames) o
outcome_on J m frames None so =
    (ap (λ (fs : List Frame). Item m ∷ fs) so.0, subst (λ (M : List Message). IsWithin M) (regroup J m (messages_of_frames frames)) so.1)
outcome_on J m frames (Some k) so = subst (λ (fs : List Frame). BreaksIn fs k) (items_last J m frames) so

-- by whether a message may come next
outcome_by : (J : List Message) (m : Message) (frames : List Frame) → IsWithin J
    → (IsWithin (J ++ m ∷ []) → Outcome (J ++ m ∷ []) frames (breaking_frame (J ++ m ∷ []) frames))
    → (b : Bool) → may_come_next J m ≡ b → Outcome J (Item m ∷ frames) (breaking_frame J (Item m ∷ frames))
outcome_by J m frames within further true may =
    subst (Outcome J (Item m ∷ frames)) (sym (break_on J m frames may))
    (outcome_on J m frames (breaking_frame (J ++ m ∷ []) frames) (further (within_next J m within may)))
outcome_by J m frames within further false may =
    subst (Outcome J (Item m ∷ frames)) (sym (break_here J m frames may))
    (broken_by J (Item m) frames within (λ n is more.
    let next : may_come_next J m ≡ true = next_within J m (subst (λ (k : Message). IsWithin (J ++ k ∷ [])) (sym (same_item m n is)) more) in
    true≢false (sym next ∙ may)))

outcome : (J : List Message) (frames : List Frame) → IsWithin J → Outcome J frames (breaking_frame J frames)
outcome J [] within = (refl, subst (λ (M : List Message). IsWithin M) (sym (append-nil J)) within)
outcome J (Item m ∷ frames) within = outcome_by J m frames within (λ further. outcome (J ++ m ∷ []) frames further) (may_come_next J m) refl
outcome J (Turn ∷ frames) within = broken_by J Turn frames within (λ m is. absurd cc)
outcome J (End ∷ frames) within = broken_by J End frames within (λ m is. absurd cc)

-- an empty journal is one
empty_within : IsWithin []
empty_within = record { journal_is = tt; formed = refl; requests = omega arith; entries = omega arith }

pub breaks_by : (frames : List Frame) (k : ℕ) → breaking_frame [] frames ≡ Some k → BreaksIn frames k
breaks_by frames k is = subst (Outcome [] frames) is (outcome [] frames empty_within)

pub items_by : (frames : List Frame) → breaking_frame [] frames ≡ None → AreItems frames
items_by frames is =
    let so : Outcome [] frames None = subst (Outcome [] frames) is (outcome [] frames empty_within) in
    record { items = so.0; within = so.1 }
