-- The answer to bytes is the one that their parts call for.
use Rattle.std.proofs.Common.{◌≡◌, ◌≢◌, ℕ, ◌-◌, Bool, true, false, ◌||◌, List, [], ◌∷◌, ◌++◌, length, Option, Some, None, Result, Ok, Err, refl, sym, ap, subst, ◌∙◌, append_assoc, arith, length-append}
use Rattle.std.specs.Prelude.{map, unwrap_or, if◌then◌else◌}
use Rattle.std.specs.Option.{option_map_or}
use Rattle.std.specs.Str.{bytes_eq}
use Rattle.std.specs.List.{flat_map, list_all, list_any}
use Rattle.std.proofs.lemmas.Bool.{and_parts, false_from_ne_true}
use Rattle.std.proofs.lemmas.Slice.Eq.{bytes_eq-Decides}
use Rattle.std.proofs.lemmas.List.{append-nil}
use Rattle.std.proofs.lemmas.List.Concat.{flat_map-cons}
use Rattle.std.proofs.lemmas.Grind.{flat_map-append}
use Rattle.std.proofs.lemmas.List.Folds.{list_any-append, list_all-append}
use Rattle.edit_message.specs.declared.message.Message.{Message}
use Rattle.edit_message.specs.Message.{requests_of, entries_of}
use Rattle.edit_frame.specs.declared.frame.Frame.{Frame}
use Rattle.edit_frame.specs.declared.frame.Frame.TheVariants.{Item, End}
use Rattle.edit_frame.specs.declared.frame.FrameFault.{FrameFault}
use Rattle.edit_frame.specs.declared.frame.FrameKind.{FrameKind}
use Rattle.edit_frame.specs.declared.frame.FrameKind.TheVariants.{Truncated}
use Rattle.edit_frame.specs.Spelling.{spelling}
use Rattle.edit_frame.specs.Spells.{is_frame, IsBytes}
use Rattle.edit_frame.specs.Reading.{frame_at, Stream, stream, rest_fault}
use Rattle.edit_frame.proofs.Outcomes.{bad, same_kind}
use Rattle.edit_frame.proofs.Streams.{nothing_waits, stream_spelled, stream_rest}
use Rattle.form_feed.proofs.Streams.{stream_none}
use Rattle.peer_tables.specs.Journal.{IsWithin}
use Rattle.audit_cert.specs.declared.fault.AuditFault.{AuditFault}
use Rattle.audit_cert.specs.declared.fault.AuditFault.TheVariants.{BadFrame, NotJournal, Differs, NoMemory}
use Rattle.audit_cert.specs.Certificate.{certificate_bytes}
use Rattle.audit_cert.specs.Audit.{IsCertified, is_end_frame, messages_of_frames, IsClosed, IsBroken, IsAuditFault, AreItems, differing_line}
use Rattle.audit_cert.proofs.Audits.{items_formed, items_no_end, messages_items, certified_by}
use Rattle.form_certificate.specs.Certify.{certified_bytes}
use Rattle.form_certificate.specs.Answer.{breaking_frame, certificate_answer, frames_answer, prefix_of, told_behind, broken_at, stream_answer, audit_answer}
use Rattle.form_certificate.specs.Laws.{IsRightAnswer}
use Rattle.form_certificate.proofs.Prefixes.{stream_one, behind_frames, stream_frames, prefix_is, GoesOn, goes_on, told_is}
use Rattle.form_certificate.proofs.NextMessages.{none_breaks, breaks_so, breaks_by, items_by}

answer_is : (bytes : List ℕ) → audit_answer bytes ≡ stream_answer bytes (stream bytes)
unfolding audit_answer
answer_is bytes = refl

-- ---- frames, the first End, and what is told behind it

closed_answer : (bytes : List ℕ) (frames : List Frame) (told : List ℕ) (s : Stream) → list_any is_end_frame s.frames ≡ true → prefix_of s.frames ≡ frames
    → told_behind frames bytes ≡ told → stream_answer bytes s ≡ frames_answer frames told
closed_answer bytes frames told s some prefix behind =
    ap (λ (b : Bool). if b then frames_answer (prefix_of s.frames) (told_behind (prefix_of s.frames) bytes) else Err (BadFrame (broken_at bytes s))) some
    ∙ ap (λ (fs : List Frame). frames_answer fs (told_behind fs bytes)) prefix
    ∙ ap (frames_answer frames) behind

pub answer_closed : (bytes : List ℕ) (frames : List Frame) (told : List ℕ) → IsClosed bytes frames told → audit_answer bytes ≡ frames_answer frames told
answer_closed bytes frames told closed =
    let later : List Frame = End ∷ (stream told).frames in
    let s : Stream = record { frames = frames ++ later; rest = (stream told).rest } in
    let read : stream bytes ≡ s = ap stream closed.whole ∙ stream_frames frames (spelling End ++ told) closed.formed ∙ ap (behind_frames frames) (stream_one End told refl) in
    let some : list_any is_end_frame s.frames ≡ true = list_any-append is_end_frame frames later ∙ ap (λ b. b || true) closed.before_end in
    answer_is bytes
    ∙ ap (stream_answer bytes) read
    ∙ closed_answer bytes frames told s some (prefix_is frames (stream told).frames closed.before_end) (told_is frames bytes told closed.whole)

-- ---- no End

-- the kind of the fault at a rest
rest_kind : (rest : List ℕ) (kind : FrameKind) → frame_at rest ≡ Err kind → unwrap_or (rest_fault rest) Truncated ≡ kind
rest_kind [] kind e = same_kind Truncated kind (sym nothing_waits ∙ e)
rest_kind (b ∷ bytes) kind e = ap (λ (r : Result Frame FrameKind). unwrap_or (elim r as (λ _. Option FrameKind) [ Ok f ↦ None | Err fault ↦ Some fault ]) Truncated) e

open_answer : (bytes : List ℕ) (s : Stream) → list_any is_end_frame s.frames ≡ false → stream_answer bytes s ≡ Err (BadFrame (broken_at bytes s))
open_answer bytes s none = ap (λ (b : Bool). if b then frames_answer (prefix_of s.frames) (told_behind (prefix_of s.frames) bytes) else Err (BadFrame (broken_at bytes s))) none

-- a fault is its place and its kind
same_fault : (fault : FrameFault) (offset : ℕ) (kind : FrameKind) → offset ≡ fault.offset → kind ≡ fault.kind → (let f : FrameFault = record { offset = offset; kind = kind } in f) ≡ fault
same_fault fault offset kind place is =
    ap (λ (n : ℕ). let f : FrameFault = record { offset = n; kind = kind } in f) place
    ∙ ap (λ (k : FrameKind). let f : FrameFault = record { offset = fault.offset; kind = k } in f) is

answer_broken : (bytes : List ℕ) (fault : FrameFault) → IsBroken bytes fault → audit_answer bytes ≡ Err (BadFrame fault)
answer_broken bytes fault at =
    let s : Stream = record { frames = at.frames; rest = at.rest } in
    let read : stream bytes ≡ s = ap stream at.prefix.whole ∙ stream_frames at.frames at.rest at.prefix.formed ∙ ap (behind_frames at.frames) (stream_none at.rest fault.kind at.kind)
    ∙ ap (λ (fs : List Frame). let t : Stream = record { frames = fs; rest = at.rest } in t) (append-nil at.frames) in
    let size = ap length at.prefix.whole ∙ length-append (flat_map spelling at.frames) at.rest in
    let place : length bytes - length at.rest ≡ fault.offset = omega (arith, size, at.place) in
    answer_is bytes
    ∙ ap (stream_answer bytes) read
    ∙ open_answer bytes s at.prefix.before_end
    ∙ ap (λ (f : FrameFault). let r : Result (ℕ × ℕ) AuditFault = Err (BadFrame f) in r) (same_fault fault _ _ place (rest_kind at.rest fault.kind at.kind))

-- ---- frames that break, and what is told of a journal

told_answer : (frames : List Frame) (told : List ℕ) → breaking_frame [] frames ≡ None → frames_answer frames told ≡ certificate_answer (messages_of_frames frames) told
told_answer frames told none = ap (λ (o : Option ℕ). option_map_or (λ k. Err (NotJournal k)) o (certificate_answer (messages_of_frames frames) told)) none

breaking_answer : (frames : List Frame) (told : List ℕ) (k : ℕ) → breaking_frame [] frames ≡ Some k → frames_answer frames told ≡ Err (NotJournal k)
breaking_answer frames told k some = ap (λ (o : Option ℕ). option_map_or (λ k. Err (NotJournal k)) o (certificate_answer (messages_of_frames frames) told)) some

journal_answer : (J : List Message) (told : List ℕ) → IsWithin J → frames_answer (map Item J) told ≡ certificate_answer J told
journal_answer J told within = told_answer (map Item J) told (none_breaks [] J within) ∙ ap (λ (K : List Message). certificate_answer K told) (messages_items J)

-- the test of the certificate
tested : (J : List Message) (told : List ℕ) (b : Bool) → bytes_eq told (certificate_bytes J) ≡ b
    → certificate_answer J told ≡ (if b then Ok (length (requests_of J), length (entries_of J)) else Err (Differs (differing_line (certificate_bytes J) told)))
tested J told b is =
    ap (λ (c : Bool). let r : Result (ℕ × ℕ) AuditFault = if c then Ok (length (requests_of J), length (entries_of J)) else Err (Differs (differing_line (certificate_bytes J) told)) in r) is

due_answer : (J : List Message) (told : List ℕ) → told ≡ certificate_bytes J → certificate_answer J told ≡ Ok (length (requests_of J), length (entries_of J))
due_answer J told due = tested J told true ((bytes_eq-Decides told (certificate_bytes J)).1 due)

other_answer : (J : List Message) (told : List ℕ) → told ≢ certificate_bytes J → certificate_answer J told ≡ Err (Differs (differing_line (certificate_bytes J) told))
other_answer J told other = tested J told false (false_from_ne_true (bytes_eq told (certificate_bytes J)) (λ same. other ((bytes_eq-Decides told (certificate_bytes J)).0 same)))

-- ---- a journal, End and what is told

closed_so : (bytes : List ℕ) (J : List Message) (told : List ℕ) → IsWithin J → bytes ≡ flat_map spelling (map Item J) ++ (spelling End ++ told) → IsClosed bytes (map Item J) told
closed_so bytes J told within whole = record { whole = whole; formed = items_formed J within.formed; before_end = items_no_end J }

-- ---- the answer to bytes of which something is known

pub answer_certified : (bytes : List ℕ) (counts : ℕ × ℕ) → IsCertified bytes counts → audit_answer bytes ≡ Ok counts
answer_certified bytes counts c =
    let J = c.journal in
    answer_closed bytes (map Item J) (certificate_bytes J) (closed_so bytes J (certificate_bytes J) c.within c.whole)
    ∙ journal_answer J (certificate_bytes J) c.within
    ∙ due_answer J (certificate_bytes J) refl
    ∙ ap (λ (n : ℕ × ℕ). let r : Result (ℕ × ℕ) AuditFault = Ok n in r) (sym c.counted)

pub answer_fault : (bytes : List ℕ) (fault : AuditFault) → IsAuditFault bytes fault → fault ≢ NoMemory → audit_answer bytes ≡ Err fault
answer_fault bytes (BadFrame fault) at other = answer_broken bytes fault at
answer_fault bytes (NotJournal k) at other = answer_closed bytes at.frames at.told at.closed ∙ breaking_answer at.frames at.told k (breaks_so at.frames k at.first)
answer_fault bytes (Differs k) at other =
    answer_closed bytes (map Item at.journal) at.told at.closed
    ∙ journal_answer at.journal at.told at.within
    ∙ other_answer at.journal at.told at.other
    ∙ ap (λ (n : ℕ). let r : Result (ℕ × ℕ) AuditFault = Err (Differs n) in r) (sym at.line)
answer_fault bytes NoMemory at other = absurd (other refl)

pub answer_of_certified : (J : List Message) → IsWithin J → audit_answer (certified_bytes J) ≡ Ok (length (requests_of J), length (entries_of J))
answer_of_certified J within = answer_certified (certified_bytes J) _ (record { journal = J; within = within; whole = refl; counted = refl })

-- ---- what the answer says

right_as : (bytes : List ℕ) (a b : Result (ℕ × ℕ) AuditFault) → a ≡ b → IsRightAnswer bytes b → IsRightAnswer bytes a
right_as bytes a b is right = subst (IsRightAnswer bytes) (sym is) right

told_right : (bytes : List ℕ) (frames : List Frame) (told : List ℕ) → IsClosed bytes frames told → AreItems frames → IsRightAnswer bytes (certificate_answer (messages_of_frames frames) told)
told_right bytes frames told closed items = by (bytes_eq told (certificate_bytes (messages_of_frames frames))) refl
  where
    by : (b : Bool) → bytes_eq told (certificate_bytes (messages_of_frames frames)) ≡ b → IsRightAnswer bytes (certificate_answer (messages_of_frames frames) told)
    by true is = right_as bytes _ _ (tested (messages_of_frames frames) told true is)
        (certified_by bytes told frames _ closed (record {
          journal = items;
          certificate = (bytes_eq-Decides told (certificate_bytes (messages_of_frames frames))).0 is;
          counted = refl;
        }))
    by false is = right_as bytes _ _ (tested (messages_of_frames frames) told false is) (record {
      journal = messages_of_frames frames;
      told = told;
      closed = subst (λ (fs : List Frame). IsClosed bytes fs told) items.items closed;
      within = items.within;
      other = λ e. absurd (cc (is, (bytes_eq-Decides told (certificate_bytes (messages_of_frames frames))).1 e));
      line = refl;
    })

frames_right : (bytes : List ℕ) (frames : List Frame) (told : List ℕ) → IsClosed bytes frames told → IsRightAnswer bytes (frames_answer frames told)
frames_right bytes frames told closed = by (breaking_frame [] frames) refl
  where
    by : (o : Option ℕ) → breaking_frame [] frames ≡ o → IsRightAnswer bytes (frames_answer frames told)
    by None is = right_as bytes _ _ (told_answer frames told is) (told_right bytes frames told closed (items_by frames is))
    by (Some k) is = right_as bytes _ _ (breaking_answer frames told k is) (record { frames = frames; told = told; closed = closed; first = breaks_by frames k is })

-- bytes whose frames have an End are closed
closed_stream : (bytes : List ℕ) (s : Stream) → list_all is_frame s.frames ≡ true → bytes ≡ flat_map spelling s.frames ++ s.rest → list_any is_end_frame s.frames ≡ true
    → IsClosed bytes (prefix_of s.frames) (told_behind (prefix_of s.frames) bytes)
closed_stream bytes s formed whole some =
    let on : GoesOn s.frames = goes_on s.frames some in
    let prefix : List Frame = prefix_of s.frames in
    let told : List ℕ = flat_map spelling on.later ++ s.rest in
    let split : bytes ≡ flat_map spelling prefix ++ (spelling End ++ told) =
    whole
    ∙ ap (λ (fs : List Frame). flat_map spelling fs ++ s.rest) on.whole
    ∙ ap (λ (xs : List ℕ). xs ++ s.rest) (flat_map-append spelling prefix (End ∷ on.later))
    ∙ ap (λ (xs : List ℕ). (flat_map spelling prefix ++ xs) ++ s.rest) (flat_map-cons spelling End on.later)
    ∙ append_assoc (flat_map spelling prefix) (spelling End ++ flat_map spelling on.later) s.rest
    ∙ ap (λ (xs : List ℕ). flat_map spelling prefix ++ xs) (append_assoc (spelling End) (flat_map spelling on.later) s.rest) in
    let behind : told_behind prefix bytes ≡ told = told_is prefix bytes told split in
    let each : list_all is_frame (prefix ++ End ∷ on.later) ≡ true = sym (ap (list_all is_frame) on.whole) ∙ formed in
    record {
      whole = split ∙ ap (λ (xs : List ℕ). flat_map spelling prefix ++ (spelling End ++ xs)) (sym behind);
      formed = (and_parts (list_all is_frame prefix) (list_all is_frame (End ∷ on.later)) (sym (list_all-append is_frame prefix (End ∷ on.later)) ∙ each)).0;
      before_end = on.before_end;
    }

broken_stream : (bytes : List ℕ) (s : Stream) (kind : FrameKind) → list_all is_frame s.frames ≡ true → bytes ≡ flat_map spelling s.frames ++ s.rest
    → list_any is_end_frame s.frames ≡ false → frame_at s.rest ≡ Err kind → IsBroken bytes (broken_at bytes s)
broken_stream bytes s kind formed whole none e =
    let size = ap length whole ∙ length-append (flat_map spelling s.frames) s.rest in
    record {
      frames = s.frames;
      rest = s.rest;
      prefix = record { whole = whole; formed = formed; before_end = none };
      place = omega (arith, size);
      kind = e ∙ ap bad (sym (rest_kind s.rest kind e));
    }

-- by whether an End is among the frames
right_by : (bytes : List ℕ) → IsBytes bytes → (b : Bool) → list_any is_end_frame (stream bytes).frames ≡ b → IsRightAnswer bytes (stream_answer bytes (stream bytes))
right_by bytes fits true some =
    let spelled = stream_spelled bytes fits in
    let prefix : List Frame = prefix_of (stream bytes).frames in
    let told : List ℕ = told_behind prefix bytes in
    right_as bytes _ _ (closed_answer bytes prefix told (stream bytes) some refl refl)
    (frames_right bytes prefix told (closed_stream bytes (stream bytes) spelled.0 spelled.1 some))
right_by bytes fits false none =
    let spelled = stream_spelled bytes fits in
    let rest = stream_rest bytes fits in
    right_as bytes _ _ (open_answer bytes (stream bytes) none) (broken_stream bytes (stream bytes) rest.0 spelled.0 spelled.1 none rest.1)

pub answer_right : (bytes : List ℕ) → IsBytes bytes → IsRightAnswer bytes (audit_answer bytes)
answer_right bytes fits =
    right_as bytes (audit_answer bytes) (stream_answer bytes (stream bytes)) (answer_is bytes) (right_by bytes fits (list_any is_end_frame (stream bytes).frames) refl)
