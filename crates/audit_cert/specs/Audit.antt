-- Which bytes are a journal with its certificate, and what is the first fault of others.
use Rattle.std.specs.Prelude.{◌≡◌, ◌≢◌, ℕ, ◌+◌, Bool, true, false, ◌==◌, List, [], ◌∷◌, ◌++◌, length, map, Err, if◌then◌else◌}
use Rattle.std.specs.List.{flat_map, list_all, list_any}
use Rattle.edit_message.specs.declared.message.Message.{Message}
use Rattle.edit_message.specs.Message.{requests_of, entries_of}
use Rattle.edit_frame.specs.declared.frame.Frame.{Frame}
use Rattle.edit_frame.specs.declared.frame.Frame.TheVariants.{Item, Turn, End}
use Rattle.edit_frame.specs.declared.frame.FrameFault.{FrameFault}
use Rattle.edit_frame.specs.Spelling.{spelling}
use Rattle.edit_frame.specs.Spells.{is_frame}
use Rattle.edit_frame.specs.Reading.{frame_at}
use Rattle.peer_tables.specs.Journal.{IsWithin}
use Rattle.audit_cert.specs.declared.fault.AuditFault.{AuditFault}
use Rattle.audit_cert.specs.declared.fault.AuditFault.TheVariants.{BadFrame, NotJournal, Differs, NoMemory}
use Rattle.audit_cert.specs.Certificate.{certificate_bytes}

-- the bytes are a journal within its limits, End and its certificate, and these are the numbers of its requests and entries
pub record IsCertified (bytes : List ℕ) (counts : ℕ × ℕ) : Type 0 where
  pub journal : List Message
  pub within : IsWithin journal
  pub whole : bytes ≡ flat_map spelling (map Item journal) ++ (spelling End ++ certificate_bytes journal)
  pub counted : counts ≡ (length (requests_of journal), length (entries_of journal))

-- ---- frames

-- the frame ends a journal
abbrev pub is_end_frame : Frame → Bool
is_end_frame (Item m) = false
is_end_frame Turn = false
is_end_frame End = true

-- the messages among frames
abbrev pub messages_of_frames : List Frame → List Message
messages_of_frames [] = []
messages_of_frames (Item m ∷ frames) = m ∷ messages_of_frames frames
messages_of_frames (Turn ∷ frames) = messages_of_frames frames
messages_of_frames (End ∷ frames) = messages_of_frames frames

-- the bytes begin with these frames, of which none is End
pub record StartWith (bytes : List ℕ) (frames : List Frame) (rest : List ℕ) : Type 0 where
  pub whole : bytes ≡ flat_map spelling frames ++ rest
  pub formed : list_all is_frame frames ≡ true
  pub before_end : list_any is_end_frame frames ≡ false

-- the bytes are these frames, the first End, and what is told behind it
abbrev pub IsClosed : List ℕ → List Frame → List ℕ → Type 0
IsClosed bytes frames told = StartWith bytes frames (spelling End ++ told)

-- ---- faults

-- behind frames, of which none is End, the bytes go on with no frame
pub record IsBroken (bytes : List ℕ) (fault : FrameFault) : Type 0 where
  pub frames : List Frame
  pub rest : List ℕ
  pub prefix : StartWith bytes frames rest
  pub place : fault.offset ≡ length (flat_map spelling frames)
  pub kind : frame_at rest ≡ Err fault.kind

-- before frame k, from 1, stands a journal within its limits, and with it stands none
pub record BreaksIn (frames : List Frame) (k : ℕ) : Type 0 where
  pub journal : List Message
  pub next : Frame
  pub later : List Frame
  pub whole : frames ≡ map Item journal ++ next ∷ later
  pub number : k ≡ length journal + 1
  pub before : IsWithin journal
  pub breaks : (m : Message) → next ≡ Item m → ¬ IsWithin (journal ++ m ∷ [])

-- the frames before the first End are no journal, from frame k on
pub record IsNoJournal (bytes : List ℕ) (k : ℕ) : Type 0 where
  pub frames : List Frame
  pub told : List ℕ
  pub closed : IsClosed bytes frames told
  pub first : BreaksIn frames k

-- the number, from 1, of the line in which two texts first differ, or in which the one ends that is the shorter
abbrev pub differing_line : List ℕ → List ℕ → ℕ
differing_line [] told = 1
differing_line (d ∷ due) [] = 1
differing_line (d ∷ due) (t ∷ told) = if d == t then (if d == 10 then differing_line due told + 1 else differing_line due told) else 1

-- what is told of a journal isn't its certificate, from line k on
pub record DiffersAt (bytes : List ℕ) (k : ℕ) : Type 0 where
  pub journal : List Message
  pub told : List ℕ
  pub closed : IsClosed bytes (map Item journal) told
  pub within : IsWithin journal
  pub other : told ≢ certificate_bytes journal
  pub line : k ≡ differing_line (certificate_bytes journal) told

-- what each fault says of the bytes; want of memory says nothing
abbrev pub IsAuditFault : List ℕ → AuditFault → Type 0
IsAuditFault bytes (BadFrame fault) = IsBroken bytes fault
IsAuditFault bytes (NotJournal k) = IsNoJournal bytes k
IsAuditFault bytes (Differs k) = DiffersAt bytes k
IsAuditFault bytes NoMemory = Unit {0}

-- ---- on the way

-- the rest of the bytes, which begins at this place, begins with no frame
abbrev pub IsFaultAt : ℕ → List ℕ → AuditFault → Type 0
IsFaultAt offset rest (BadFrame fault) = (fault.offset ≡ offset) × (frame_at rest ≡ Err fault.kind)
IsFaultAt offset rest (NotJournal k) = ⊥
IsFaultAt offset rest (Differs k) = ⊥
IsFaultAt offset rest NoMemory = Unit {0}

-- the frames break
abbrev pub IsFaultIn : List Frame → AuditFault → Type 0
IsFaultIn frames (BadFrame fault) = ⊥
IsFaultIn frames (NotJournal k) = BreaksIn frames k
IsFaultIn frames (Differs k) = ⊥
IsFaultIn frames NoMemory = Unit {0}

-- frames are those of a journal
pub record AreItems (frames : List Frame) : Type 0 where
  pub items : frames ≡ map Item (messages_of_frames frames)
  pub within : IsWithin (messages_of_frames frames)

-- what is told of frames is the certificate of their journal
pub record IsTold (frames : List Frame) (told : List ℕ) (counts : ℕ × ℕ) : Type 0 where
  pub journal : AreItems frames
  pub certificate : told ≡ certificate_bytes (messages_of_frames frames)
  pub counted : counts ≡ (length (requests_of (messages_of_frames frames)), length (entries_of (messages_of_frames frames)))

-- from line k on it isn't
pub record IsOther (frames : List Frame) (told : List ℕ) (k : ℕ) : Type 0 where
  pub journal : AreItems frames
  pub other : told ≢ certificate_bytes (messages_of_frames frames)
  pub line : k ≡ differing_line (certificate_bytes (messages_of_frames frames)) told

-- what a fault says of frames and what is told of them
abbrev pub IsFaultOf : List Frame → List ℕ → AuditFault → Type 0
IsFaultOf frames told (BadFrame fault) = ⊥
IsFaultOf frames told (NotJournal k) = BreaksIn frames k
IsFaultOf frames told (Differs k) = IsOther frames told k
IsFaultOf frames told NoMemory = Unit {0}
