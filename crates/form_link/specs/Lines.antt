-- What is told of faults: the line of each, and the status.
use Rattle.std.specs.Prelude.{ℕ, Bool, true, false, List, [], ◌∷◌, decimal, codes, if◌then◌else◌}
use Rattle.std.specs.List.{list_any}
use Rattle.line_engine.specs.declared.status.Status.{Status}
use Rattle.line_engine.specs.declared.status.Status.TheVariants as status
use Rattle.line_engine.specs.Output.{bad_line_text, too_long_text}
use Rattle.line_spelling.specs.Line.{line_of}
use Rattle.line_spelling.specs.Values.{spaced}
use Rattle.report_text.specs.Frame.{frame_kind_words}
use Rattle.session_core.specs.declared.fault.SessionFault.{SessionFault}
use Rattle.session_core.specs.declared.fault.SessionFault.TheVariants as session
use Rattle.form_link.specs.declared.faults.Fault.{Fault}
use Rattle.form_link.specs.declared.faults.Fault.TheVariants.{Door, BadLine, TooLong, Read, NoMemory, Link}

-- how a session was cut; nothing is told of a want of memory
abbrev pub session_fault_words : SessionFault → List (List ℕ)
session_fault_words session.LinkFault = codes "fault" ∷ []
session_fault_words session.Closed = codes "closed" ∷ []
session_fault_words (session.BadFrame fault) = codes "bad" ∷ codes "frame" ∷ frame_kind_words fault.kind
session_fault_words session.RunFull = codes "too" ∷ codes "long" ∷ []
session_fault_words session.NoMemory = []

-- the line of a link on which the session was cut so; none for want of memory
abbrev pub link_line : ℕ → SessionFault → List ℕ
link_line number session.NoMemory = []
link_line number fault = line_of (spaced (codes "link" ∷ decimal number ∷ session_fault_words fault))

-- the line of a fault; none for want of memory
abbrev pub fault_line : Fault → List ℕ
fault_line Door = line_of (codes "door fault")
fault_line (BadLine k) = bad_line_text k
fault_line TooLong = too_long_text
fault_line Read = line_of (codes "read fault")
fault_line NoMemory = []
fault_line (Link number fault) = link_line number fault

-- the status that a session gives which was cut so
abbrev pub session_status : SessionFault → Status
session_status session.LinkFault = status.LinkFault
session_status session.Closed = status.BadInput
session_status (session.BadFrame fault) = status.BadInput
session_status session.RunFull = status.TooLong
session_status session.NoMemory = status.NoMemory

-- the status that a fault gives by itself
abbrev pub fault_status : Fault → Status
fault_status Door = status.LinkFault
fault_status (BadLine k) = status.BadInput
fault_status TooLong = status.TooLong
fault_status Read = status.ReadFault
fault_status NoMemory = status.NoMemory
fault_status (Link number fault) = session_status fault

-- whether memory was wanting
abbrev pub wants_memory : Fault → Bool
wants_memory NoMemory = true
wants_memory (Link number session.NoMemory) = true
wants_memory other = false

-- the status of the first of some faults
abbrev pub first_status : List Fault → Status
first_status [] = status.Done
first_status (fault ∷ faults) = fault_status fault

-- the status of faults: want of memory goes before all, and then the first
abbrev pub faults_status : List Fault → Status
faults_status faults = if list_any wants_memory faults then status.NoMemory else first_status faults
