-- What is answered of bytes that are to be a journal, End and its certificate.
use Rattle.std.specs.Prelude.{ℕ, ◌+◌, ◌-◌, Bool, not, ◌&&◌, List, [], ◌∷◌, ◌++◌, Option, Some, None, Result, Ok, Err, length, drop, is_none, unwrap_or, if◌then◌else◌}
use Rattle.std.specs.List.{flat_map, list_any, before_first}
use Rattle.std.specs.Option.{option_map_or}
use Rattle.std.specs.Str.{bytes_eq}
use Rattle.coop_request.specs.Request.{request_fault}
use Rattle.policy_book.specs.Entry.{Entry}
use Rattle.edit_message.specs.declared.message.Message.{Message}
use Rattle.edit_message.specs.declared.message.Message.TheVariants.{Coop, Admin}
use Rattle.edit_message.specs.Formed.{is_message}
use Rattle.edit_message.specs.Message.{requests_of, entries_of}
use Rattle.edit_frame.specs.declared.frame.Frame.{Frame}
use Rattle.edit_frame.specs.declared.frame.Frame.TheVariants.{Item, Turn, End}
use Rattle.edit_frame.specs.declared.frame.FrameFault.{FrameFault}
use Rattle.edit_frame.specs.declared.frame.FrameKind.TheVariants.{Truncated}
use Rattle.edit_frame.specs.Spelling.{spelling}
use Rattle.edit_frame.specs.Reading.{Stream, stream, rest_fault}
use Rattle.admin_log.specs.Log.{entry_fault}
use Rattle.peer_tables.specs.Derived.{is_due}
use Rattle.peer_tables.specs.Journal.{has_key_of}
use Rattle.audit_cert.specs.declared.fault.AuditFault.{AuditFault}
use Rattle.audit_cert.specs.declared.fault.AuditFault.TheVariants.{BadFrame, NotJournal, Differs}
use Rattle.audit_cert.specs.Certificate.{certificate_bytes}
use Rattle.audit_cert.specs.Audit.{is_end_frame, messages_of_frames, differing_line}

-- ---- the journal

-- a request is accepted, an entry is legal after these
abbrev pub is_legal_after : List Entry → Message → Bool
is_legal_after L (Coop q) = is_none (request_fault q)
is_legal_after L (Admin e) = is_none (entry_fault L e.op)

-- m may come next in a journal within its limits: its key is new, it misses nothing, there is room, it is legal and well formed
abbrev pub may_come_next : List Message → Message → Bool
may_come_next J m = not (has_key_of J m) && (is_due J m && (is_legal_after (entries_of J) m && is_message m))

-- the number, from 1, of the first frame that is no message or may not come next, where these stand behind a journal
abbrev pub breaking_frame : List Message → List Frame → Option ℕ
breaking_frame J [] = None
breaking_frame J (Item m ∷ frames) = if may_come_next J m then breaking_frame (J ++ m ∷ []) frames else Some (length J + 1)
breaking_frame J (Turn ∷ frames) = Some (length J + 1)
breaking_frame J (End ∷ frames) = Some (length J + 1)

-- ---- the certificate

-- what is answered where this is told of a journal
abbrev pub certificate_answer : List Message → List ℕ → Result (ℕ × ℕ) AuditFault
certificate_answer J told =
    if bytes_eq told (certificate_bytes J) then Ok (length (requests_of J), length (entries_of J)) else Err (Differs (differing_line (certificate_bytes J) told))

-- what is answered where this is told of frames
abbrev pub frames_answer : List Frame → List ℕ → Result (ℕ × ℕ) AuditFault
frames_answer frames told = option_map_or (λ k. Err (NotJournal k)) (breaking_frame [] frames) (certificate_answer (messages_of_frames frames) told)

-- ---- all of it

-- the frames before the first End
abbrev pub prefix_of : List Frame → List Frame
prefix_of frames = before_first is_end_frame frames

-- what stands behind these frames and End
abbrev pub told_behind : List Frame → List ℕ → List ℕ
told_behind frames bytes = drop (length (flat_map spelling frames) + length (spelling End)) bytes

-- where and why bytes go on with no frame; where they don't go on, they end too early
abbrev pub broken_at : List ℕ → Stream → FrameFault
broken_at bytes s = record { offset = length bytes - length s.rest; kind = unwrap_or (rest_fault s.rest) Truncated }

-- what is answered of bytes that are read so
abbrev pub stream_answer : List ℕ → Stream → Result (ℕ × ℕ) AuditFault
stream_answer bytes s =
    if list_any is_end_frame s.frames then frames_answer (prefix_of s.frames) (told_behind (prefix_of s.frames) bytes) else Err (BadFrame (broken_at bytes s))

-- what is answered of bytes: the numbers of requests and entries where the certificate holds, or the first fault
unfoldable pub audit_answer : List ℕ → Result (ℕ × ℕ) AuditFault
audit_answer bytes = stream_answer bytes (stream bytes)
