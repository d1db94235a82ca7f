-- What is certified has no fault, and what is found of frames is what is said of bytes.
use Rattle.std.proofs.Common.{◌≡◌, ◌≢◌, ℕ, ◌+◌, ◌<◌, true, false, List, [], ◌∷◌, ◌++◌, length, take, drop, get_or, refl, sym, ap, subst, ◌∙◌, append_assoc, arith, length-append, Result, Ok, Err}
use Rattle.std.proofs.lemmas.List.{length-map, length-take-le}
use Rattle.std.proofs.Math.ListN.{take-append-drop}
use Rattle.std.specs.Prelude.{map, IfErr}
use Rattle.std.specs.List.{list_all, list_any, flat_map}
use Rattle.std.proofs.lemmas.Bool.{and_parts}
use Rattle.std.proofs.lemmas.List.Folds.{list_all-append}
use Rattle.element_name.specs.Name.{are_distinct}
use Rattle.element_name.proofs.EachAfterLemmas.{EachAfter-front}
use Rattle.coop_request.specs.History.{IsHistory, placed_of, text_order}
use Rattle.coop_request.proofs.Histories.{IsTree-placed_of}
use Rattle.tomb_seq.proofs.Theorems.{once_law}
use Rattle.coop_request.specs.Request.{Request}
use Rattle.policy_book.specs.Entry.{Entry}
use Rattle.edit_message.specs.declared.message.Message.{Message}
use Rattle.edit_message.specs.Formed.{is_message}
use Rattle.edit_message.specs.Message.{requests_of, entries_of}
use Rattle.edit_frame.specs.declared.frame.Frame.{Frame}
use Rattle.edit_frame.specs.declared.frame.Frame.TheVariants.{Item, Turn, End}
use Rattle.edit_frame.specs.Spelling.{spelling}
use Rattle.edit_frame.specs.Spells.{is_frame}
use Rattle.peer_tables.specs.Journal.{FollowsJournal, IsWithin}
use Rattle.peer_tables.proofs.JournalLemmas.{requests_append, entries_append}
use Rattle.audit_cert.specs.declared.fault.AuditFault.{AuditFault}
use Rattle.audit_cert.specs.declared.fault.AuditFault.TheVariants.{BadFrame, NotJournal, Differs, NoMemory}
use Rattle.audit_cert.specs.Certificate.{certificate_bytes}
use Rattle.audit_cert.specs.Audit.{IsCertified, is_end_frame, messages_of_frames, IsClosed, BreaksIn, IsAuditFault, IsFaultIn, IsFaultOf, IsTold}
use Rattle.audit_cert.proofs.Prefixes.{one_further}
use Rattle.audit_cert.proofs.Closings.{one_closing, not_broken}

-- ---- messages as frames

pub messages_items : (J : List Message) → messages_of_frames (map Item J) ≡ J
messages_items [] = refl
messages_items (m ∷ J) = ap (λ (K : List Message). m ∷ K) (messages_items J)

pub messages_append : (fs gs : List Frame) → messages_of_frames (fs ++ gs) ≡ messages_of_frames fs ++ messages_of_frames gs
messages_append [] gs = refl
messages_append (Item m ∷ fs) gs = ap (λ (K : List Message). m ∷ K) (messages_append fs gs)
messages_append (Turn ∷ fs) gs = messages_append fs gs
messages_append (End ∷ fs) gs = messages_append fs gs

pub items_formed : (J : List Message) → list_all is_message J ≡ true → list_all is_frame (map Item J) ≡ true
items_formed [] h = refl
items_formed (m ∷ J) h = let p = and_parts (is_message m) (list_all is_message J) h in rw (p.0, items_formed J p.1) refl

pub items_no_end : (J : List Message) → list_any is_end_frame (map Item J) ≡ false
items_no_end [] = refl
items_no_end (m ∷ J) = items_no_end J

pub one_item_more : (fs : List Frame) (m : Message) → fs ≡ map Item (messages_of_frames fs) → fs ++ Item m ∷ [] ≡ map Item (messages_of_frames (fs ++ Item m ∷ []))
one_item_more fs m items =
    ap (λ (gs : List Frame). gs ++ Item m ∷ []) items ∙ sym (map_last (messages_of_frames fs)) ∙ ap (λ (J : List Message). map Item J) (sym (messages_append fs (Item m ∷ [])))
  where
    map_last : (J : List Message) → map Item (J ++ m ∷ []) ≡ map Item J ++ Item m ∷ []
    map_last [] = refl
    map_last (k ∷ J) = ap (λ (gs : List Frame). Item k ∷ gs) (map_last J)

-- ---- a prefix of a journal

pub within_prefix : (J K : List Message) → IsWithin (J ++ K) → IsWithin J
within_prefix J K within =
    let requests : length (requests_of (J ++ K)) ≡ length (requests_of J) + length (requests_of K) =
    ap (λ (R : List Request). length R) (requests_append J K) ∙ length-append (requests_of J) (requests_of K) in
    let entries : length (entries_of (J ++ K)) ≡ length (entries_of J) + length (entries_of K) =
    ap (λ (L : List Entry). length L) (entries_append J K) ∙ length-append (entries_of J) (entries_of K) in
    record {
      journal_is = EachAfter-front FollowsJournal J K within.journal_is;
      formed = (and_parts (list_all is_message J) (list_all is_message K) (sym (list_all-append is_message J K) ∙ within.formed)).0;
      requests = omega (arith, requests, within.requests);
      entries = omega (arith, entries, within.entries);
    }

-- frames of messages, of which some are those of a journal, go on with one
pub record GoOn (J journal : List Message) (next : Frame) : Type 0 where
  pub message : Message
  pub later : List Message
  pub next_is : next ≡ Item message
  pub whole : J ≡ journal ++ message ∷ later

goes_on : (J journal : List Message) (next : Frame) (later : List Frame) → map Item J ≡ map Item journal ++ next ∷ later → GoOn J journal next
goes_on [] [] next later is = absurd cc
goes_on [] (k ∷ journal) next later is = absurd cc
goes_on (m ∷ J) [] next later is = record {
  message = m;
  later = J;
  next_is = let h : Item m ∷ map Item J ≡ next ∷ later = is in cc;
  whole = refl;
}
goes_on (m ∷ J) (k ∷ journal) next later is =
    let h : Item m ∷ map Item J ≡ Item k ∷ (map Item journal ++ next ∷ later) = is in
    let first : m ≡ k = cc in
    let rest : map Item J ≡ map Item journal ++ next ∷ later = cc in
    let on = goes_on J journal next later rest in
    record {
      message = on.message;
      later = on.later;
      next_is = on.next_is;
      whole = ap (λ (K : List Message). m ∷ K) on.whole ∙ ap (λ (x : Message). x ∷ (journal ++ on.message ∷ on.later)) first;
    }

unbroken : (J : List Message) (frames : List Frame) (k : ℕ) → IsWithin J → map Item J ≡ frames → BreaksIn frames k → ⊥
unbroken J frames k within is breaks =
    let on = goes_on J breaks.journal breaks.next breaks.later (is ∙ breaks.whole) in
    let more : J ≡ (breaks.journal ++ on.message ∷ []) ++ on.later = on.whole ∙ sym (append_assoc breaks.journal (on.message ∷ []) on.later) in
    breaks.breaks on.message on.next_is (within_prefix (breaks.journal ++ on.message ∷ []) on.later (subst (λ (K : List Message). IsWithin K) more within))

-- ---- what is certified has no fault

module _ (bytes : List ℕ) (counts : ℕ × ℕ) (certified : IsCertified bytes counts) where
  -- it is closed as no other
  closed_so : (frames : List Frame) (told : List ℕ) → IsClosed bytes frames told → (map Item certified.journal ≡ frames) × (certificate_bytes certified.journal ≡ told)
  closed_so frames told closed =
      one_closing (map Item certified.journal) frames (certificate_bytes certified.journal) told (items_formed certified.journal certified.within.formed) closed.formed
      (items_no_end certified.journal) closed.before_end (sym certified.whole ∙ closed.whole)

  pub no_fault : (fault : AuditFault) → IsAuditFault bytes fault → fault ≢ NoMemory → ⊥
  no_fault (BadFrame fault) at other =
      not_broken (map Item certified.journal) at.frames (certificate_bytes certified.journal) at.rest fault.kind (items_formed certified.journal certified.within.formed) at.prefix.formed
      at.prefix.before_end (sym certified.whole ∙ at.prefix.whole) at.kind
  no_fault (NotJournal k) at other = unbroken certified.journal at.frames k certified.within (closed_so at.frames at.told at.closed).0 at.first
  no_fault (Differs k) at other =
      let so = closed_so (map Item at.journal) at.told at.closed in
      let same : certified.journal ≡ at.journal = sym (messages_items certified.journal) ∙ ap messages_of_frames so.0 ∙ messages_items at.journal in
      at.other (sym so.1 ∙ ap certificate_bytes same)
  no_fault NoMemory at other = other refl

-- ---- from frames to bytes

pub certified_by : (bytes told : List ℕ) (frames : List Frame) (counts : ℕ × ℕ) → IsClosed bytes frames told → IsTold frames told counts → IsCertified bytes counts
certified_by bytes told frames counts closed is = record {
  journal = messages_of_frames frames;
  within = is.journal.within;
  whole = closed.whole ∙ ap (λ (fs : List Frame). flat_map spelling fs ++ (spelling End ++ told)) is.journal.items
      ∙ ap (λ (xs : List ℕ). flat_map spelling (map Item (messages_of_frames frames)) ++ (spelling End ++ xs)) is.certificate;
  counted = is.counted;
}

pub fault_by : (bytes told : List ℕ) (frames : List Frame) (fault : AuditFault) → IsClosed bytes frames told → IsFaultOf frames told fault → IsAuditFault bytes fault
fault_by bytes told frames (BadFrame fault) closed is = absurd is
fault_by bytes told frames (NotJournal k) closed is = record { frames = frames; told = told; closed = closed; first = is }
fault_by bytes told frames (Differs k) closed is = record {
  journal = messages_of_frames frames;
  told = told;
  closed = subst (λ (fs : List Frame). IsClosed bytes fs told) is.journal.items closed;
  within = is.journal.within;
  other = is.other;
  line = is.line;
}
fault_by bytes told frames NoMemory closed is = tt

-- frames that break are told so whatever stands behind
pub fault_in : (frames : List Frame) (told : List ℕ) (fault : AuditFault) → IsFaultIn frames fault → IsFaultOf frames told fault
fault_in frames told (BadFrame fault) is = is
fault_in frames told (NotJournal k) is = is
fault_in frames told (Differs k) is = absurd is
fault_in frames told NoMemory is = tt

-- ---- what is due

-- no element is twice in the text order
pub order_once : (R : List Request) → IsHistory R → are_distinct (text_order R) ≡ true
order_once R history = once_law (placed_of R) (IsTree-placed_of R history)

-- ---- frames that break

-- the frame at a place breaks what stands before it
pub breaks_here : (frames : List Frame) (i : ℕ) (f : Frame) → i < length frames → f ≡ get_or frames i f → take i frames ≡ map Item (messages_of_frames (take i frames))
    → IsWithin (messages_of_frames (take i frames)) → ((m : Message) → f ≡ Item m → ¬ IsWithin (messages_of_frames (take i frames) ++ m ∷ [])) → BreaksIn frames (i + 1)
breaks_here frames i f lt is items within breaks =
    let J = messages_of_frames (take i frames) in
    let size : i ≡ length J = omega (arith, lt, length-take-le i frames (omega (arith, lt)), ap (λ (fs : List Frame). length fs) items, length-map J (λ (m : Message). Item m)) in
    record {
      journal = J;
      next = f;
      later = drop (i + 1) frames;
      whole = sym (take-append-drop (i + 1) frames)
          ∙ ap (λ (fs : List Frame). fs ++ drop (i + 1) frames) (one_further frames i f lt is ∙ ap (λ (fs : List Frame). fs ++ f ∷ []) items)
          ∙ append_assoc (map Item J) (f ∷ []) (drop (i + 1) frames);
      number = ap (λ n. n + 1) size;
      before = within;
      breaks = breaks;
    }

-- what is said of a fault goes over to what follows from it
pub if_err : {A E : Type 0} {P Q : E → Type 0} (r : Result A E) → ((e : E) → P e → Q e) → IfErr r P → IfErr r Q
if_err (Ok x) f h = tt
if_err (Err e) f h = f e h

-- frames of one message
pub same_item : (m k : Message) → Item m ≡ Item k → m ≡ k
same_item m k is = cc
