-- Reading frames: one from bytes, those of a stream, and the fault of a rest.
use Rattle.std.specs.Prelude.{ℕ, zero, suc, ◌+◌, Bool, false, not, ◌&&◌, ◌||◌, List, [], ◌∷◌, Option, Some, None, Result, Ok, Err, length, take, drop, slice_index, ◌==◌, nat_lt, nat_le, option_map, is_none, if◌then◌else◌}
use Rattle.std.specs.Int.{w32, from_be_bytes}
use Rattle.element_name.specs.Cases.{when, first_of}
use Rattle.element_name.specs.Name.{Name}
use Rattle.coop_request.specs.declared.edit.Edit.{Edit}
use Rattle.coop_request.specs.Request.{Request, request_fault}
use Rattle.policy_book.specs.Entry.{Entry, is_entry_version}
use Rattle.policy_book.specs.declared.op.AdminOp.{AdminOp}
use Rattle.edit_message.specs.declared.message.Message.{Message}
use Rattle.edit_message.specs.declared.message.Message.TheVariants.{Coop, Admin}
use Rattle.edit_frame.specs.declared.frame.Frame.{Frame}
use Rattle.edit_frame.specs.declared.frame.Frame.TheVariants.{Item, Turn, End}
use Rattle.edit_frame.specs.declared.frame.FrameKind.{FrameKind}
use Rattle.edit_frame.specs.declared.frame.FrameKind.TheVariants.{BadLength, BadKind, BadField, LeftOver, Truncated, BadRequest}
use Rattle.edit_frame.specs.declared.limits.TheConstants.{LENGTH_BYTES, MIN_LENGTH, MAX_LENGTH}
use Rattle.edit_frame.specs.declared.numbers.TheConstants.{PLAIN_VERSION, LONG_VERSION, INSERT_KIND, UPDATE_KIND, ENTRY_KIND, TURN_KIND, END_KIND}
use Rattle.edit_frame.specs.Fields.{Field, Reader, constant, as_value, both, when_passes, choose, short_at, name_at, has_lists, operation_at, edit_at}

-- ---- the fields of a frame whose version and kind are known

-- the request of a name, a policy version and an edit
abbrev pub request_of_fields : Name × (ℕ × Edit) → Request
request_of_fields x = record { id = x.0; version = x.1.0; edit = x.1.1 }

-- a name, a policy version and the edit of this frame version and kind; whether it is accepted is asked later
unfoldable pub request_at : ℕ → ℕ → Reader Request
request_at version kind bytes = as_value request_of_fields (both name_at (both short_at (edit_at version kind))) bytes

-- the entry of a version and an operation
abbrev pub entry_of : ℕ × AdminOp → Entry
entry_of x = record { version = x.0; op = x.1 }

-- a version that an entry can make, and an operation
unfoldable pub entry_fields_at : Reader Entry
entry_fields_at bytes = as_value entry_of (when_passes (λ x. is_entry_version x.0) (both short_at operation_at)) bytes

-- the frame of a kind that is no request
unfoldable pub other_at : ℕ → Reader Frame
other_at kind bytes = choose kind (
    (ENTRY_KIND, as_value (λ e. Item (Admin e)) entry_fields_at)
    ∷ (TURN_KIND, constant Turn)
    ∷ (END_KIND, constant End)
    ∷ []) bytes

-- ---- a whole frame

-- the plain version has all kinds, and that of long pieces has inserts and updates alone
abbrev pub is_kind : ℕ → ℕ → Bool
is_kind version kind = ((version == PLAIN_VERSION) && (nat_le INSERT_KIND kind && nat_le kind END_KIND)) || ((version == LONG_VERSION) && ((kind == INSERT_KIND) || (kind == UPDATE_KIND)))

-- the fault, or what is read where there is none
abbrev pub fault_or : Option FrameKind → Result Frame FrameKind → Result Frame FrameKind
fault_or (Some kind) read = Err kind
fault_or None read = read

-- the frame of a request that was read, if it is accepted
abbrev pub request_frame : Request → Result Frame FrameKind
request_frame q = fault_or (option_map BadRequest (request_fault q)) (Ok (Item (Coop q)))

-- the frame of what was read, if no bytes are left over; `more` says whether some stand after the frame
abbrev pub unless_left_over : {A : Type 0} → Bool → (A → Result Frame FrameKind) → Field A → Result Frame FrameKind
unless_left_over more make None = Err BadField
unless_left_over more make (Some x) = if nat_lt 0 (length x.1) || more then Err LeftOver else make x.0

-- the frame of a version, a kind and fields, or the first fault
unfoldable pub frame_by : Bool → ℕ → ℕ → List ℕ → Result Frame FrameKind
frame_by more version kind bytes =
    if not (is_kind version kind) then Err BadKind
    else if nat_le kind UPDATE_KIND then unless_left_over more request_frame (request_at version kind bytes)
    else unless_left_over more (λ f. Ok f) (other_at kind bytes)

-- the frame of what stands after the length field
abbrev pub frame_of : Bool → List ℕ → Result Frame FrameKind
frame_of more (version ∷ kind ∷ bytes) = frame_by more version kind bytes
frame_of more bytes = Err BadKind

-- what the length field says
abbrev pub length_field : List ℕ → ℕ
length_field bytes = from_be_bytes w32 (take LENGTH_BYTES bytes)

-- why the bytes begin with no whole frame
unfoldable pub cut_fault : List ℕ → Option FrameKind
cut_fault bytes = first_of (
    when (nat_lt (length bytes) LENGTH_BYTES) Truncated
    ∷ when (nat_lt (length_field bytes) MIN_LENGTH || nat_lt MAX_LENGTH (length_field bytes)) BadLength
    ∷ when (nat_lt (length bytes) (LENGTH_BYTES + length_field bytes)) Truncated
    ∷ [])

-- what stands after the length field, as far as the frame goes
abbrev pub inner : List ℕ → List ℕ
inner bytes = take (length_field bytes) (drop LENGTH_BYTES bytes)

-- the frame that bytes begin with; `more` says, where it is whole, whether bytes stand after it that are a fault
abbrev pub prefix_frame : Bool → List ℕ → Result Frame FrameKind
prefix_frame more bytes = fault_or (cut_fault bytes) (frame_of more (inner bytes))

-- the frame that a stream begins with, or the first fault
unfoldable pub frame_at : List ℕ → Result Frame FrameKind
frame_at bytes = prefix_frame false bytes

-- the frame that is all of the bytes, or the first fault
unfoldable pub decoded_frame : List ℕ → Result Frame FrameKind
decoded_frame bytes = prefix_frame (nat_lt (LENGTH_BYTES + length_field bytes) (length bytes)) bytes

-- the message of what was read as a frame; none of a turn, of an end, and of a fault
abbrev pub message_of_frame : Result Frame FrameKind → Option Message
message_of_frame (Ok (Item m)) = Some m
message_of_frame (Ok Turn) = None
message_of_frame (Ok End) = None
message_of_frame (Err fault) = None

-- the message whose frame is all of the bytes
abbrev pub framed_message : List ℕ → Option Message
framed_message bytes = message_of_frame (decoded_frame bytes)

-- what stands after the length field has the kind of an entry, and an operation with lists
abbrev pub has_listing : List ℕ → Bool
has_listing bytes = (slice_index bytes 1 == ENTRY_KIND) && has_lists (drop 4 bytes)

-- the bytes begin with a whole frame, of an entry whose operation has lists: reading these alone takes memory
unfoldable pub takes_memory : List ℕ → Bool
takes_memory bytes = is_none (cut_fault bytes) && has_listing (inner bytes)

-- ---- a stream

-- the frames that a stream begins with, and then a rest that doesn't begin with one
pub record Stream : Type 0 where
  pub frames : List Frame
  pub rest : List ℕ

-- one more frame, before the others
abbrev pub stream_with : Frame → Stream → Stream
stream_with f s = record { frames = f ∷ s.frames; rest = s.rest }

-- a stream's frames, but at most n of them, and its rest
unfoldable pub stream_of : ℕ → List ℕ → Stream
stream_of zero bytes = record { frames = []; rest = bytes }
stream_of (suc n) bytes = elim (frame_at bytes) [
  | Ok f ↦ stream_with f (stream_of n (drop (LENGTH_BYTES + length_field bytes) bytes))
  | Err fault ↦ record { frames = []; rest = bytes }
]

-- a stream's frames and its rest: each frame has six bytes at least, so there are no more frames than bytes
unfoldable pub stream : List ℕ → Stream
stream bytes = stream_of (length bytes) bytes

-- the fault of a rest: none of an empty one
abbrev pub rest_fault : List ℕ → Option FrameKind
rest_fault [] = None
rest_fault (b ∷ bytes) = elim (frame_at (b ∷ bytes)) [ Ok f ↦ None | Err fault ↦ Some fault ]
