-- The lines of a stream's frames that are no messages, and of its fault.
use Rattle.std.specs.Prelude.{ℕ, List, [], ◌∷◌, decimal, codes}
use Rattle.line_spelling.specs.Line.{line_of}
use Rattle.coop_request.specs.declared.request.RequestFault.{RequestFault}
use Rattle.coop_request.specs.declared.request.RequestFault.TheVariants.{BadVersion, StartTarget, StampOrder}
use Rattle.edit_frame.specs.declared.frame.FrameKind.{FrameKind}
use Rattle.edit_frame.specs.declared.frame.FrameKind.TheVariants.{BadLength, BadKind, BadField, LeftOver, Truncated, BadRequest}
use Rattle.edit_frame.specs.declared.frame.FrameFault.{FrameFault}
use Rattle.line_spelling.specs.Values.{spaced}

-- the number of a request's fault
abbrev pub request_fault_text : RequestFault → List ℕ
request_fault_text BadVersion = codes "1"
request_fault_text StartTarget = codes "2"
request_fault_text StampOrder = codes "3"

-- the number of a frame's fault, and that of the request's fault that it carries
abbrev pub frame_kind_words : FrameKind → List (List ℕ)
frame_kind_words BadLength = codes "1" ∷ []
frame_kind_words BadKind = codes "2" ∷ []
frame_kind_words BadField = codes "3" ∷ []
frame_kind_words LeftOver = codes "4" ∷ []
frame_kind_words Truncated = codes "5" ∷ []
frame_kind_words (BadRequest fault) = codes "6" ∷ request_fault_text fault ∷ []

-- which frame of a stream is bad, by the place of its first byte, and why
abbrev pub frame_fault_line : FrameFault → List ℕ
frame_fault_line fault = line_of (spaced (codes "bad" ∷ codes "frame" ∷ decimal fault.offset ∷ frame_kind_words fault.kind))

-- of a frame that gives the turn to the other side
abbrev pub turn_line : List ℕ
turn_line = line_of (codes "turn")

-- of a frame that says that nothing more comes
abbrev pub end_line : List ℕ
end_line = line_of (codes "end")
