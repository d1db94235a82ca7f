-- What the code's readers answer, beside what reading gives.
use Rattle.std.specs.Prelude.{◌≡◌, ℕ, Bool, IsTrue, List, Option, Some, None, Result, Ok, Err}
use Rattle.std.specs.Global.{Vec}
use Rattle.coop_request.specs.Request.{Request}
use Rattle.coop_request.specs.declared.edit.Edit.{Edit}
use Rattle.coop_request.specs.declared.lent_edit.LentEdit.{LentEdit}
use Rattle.coop_request.specs.LentEdit.{edit_lent}
use Rattle.edit_frame.specs.declared.lent_frame.LentFrame.{LentFrame}
use Rattle.edit_frame.specs.Lent.{frame_lent}
use Rattle.edit_frame.specs.declared.fail.Bad.{Bad}
use Rattle.edit_frame.specs.declared.fail.FieldFail.{FieldFail}
use Rattle.edit_frame.specs.declared.fail.FieldFail.TheVariants as fields
use Rattle.edit_frame.specs.declared.fail.FrameFail.{FrameFail}
use Rattle.edit_frame.specs.declared.fail.FrameFail.TheVariants as frames
use Rattle.edit_frame.specs.declared.decoding.Draft.{Draft}
use Rattle.edit_frame.specs.declared.frame.Frame.{Frame}
use Rattle.edit_frame.specs.declared.frame.FrameKind.{FrameKind}
use Rattle.edit_frame.specs.declared.frame.DecodeFail.{DecodeFail}
use Rattle.edit_frame.specs.declared.frame.DecodeFail.TheVariants as decodes
use Rattle.edit_frame.specs.Fields.{Field}

-- ---- fields

-- what was returned, and the bytes after it, are what reading gives
abbrev pub Gives : {X : Type 0} → Result X Bad → List ℕ → Field X → Type 0
Gives (Ok x) rest read = read ≡ Some (x, rest)
Gives (Err e) rest read = read ≡ None

-- the request of a draft
abbrev pub request_of_draft : Draft → Request
request_of_draft d = record { id = d.id; version = d.version; edit = edit_lent d.edit }

-- the same for an edit that is lent
abbrev pub GivesEdit : Result LentEdit Bad → List ℕ → Field Edit → Type 0
GivesEdit (Ok e) rest read = read ≡ Some (edit_lent e, rest)
GivesEdit (Err e) rest read = read ≡ None

-- the same for a request that isn't accepted yet
abbrev pub GivesDraft : Result Draft Bad → List ℕ → Field Request → Type 0
GivesDraft (Ok d) rest read = read ≡ Some (request_of_draft d, rest)
GivesDraft (Err e) rest read = read ≡ None

-- nothing is said where memory is wanting
abbrev pub FieldFails : {Y : Type 0} → FieldFail → Option Y → Type 0
FieldFails fields.NoMemory read = Unit {0}
FieldFails fields.Bad read = read ≡ None

-- what was returned, and the bytes after it, are what reading gives, unless memory is wanting
abbrev pub MayGive : {X : Type 0} → Result X FieldFail → List ℕ → Field X → Type 0
MayGive (Ok x) rest read = read ≡ Some (x, rest)
MayGive (Err e) rest read = FieldFails e read

-- the same for a frame that is lent
abbrev pub MayGiveLent : Result LentFrame FieldFail → List ℕ → Field Frame → Type 0
MayGiveLent (Ok f) rest read = read ≡ Some (frame_lent f, rest)
MayGiveLent (Err e) rest read = FieldFails e read

-- the same for items in a vector
abbrev pub MayGiveItems : {X : Type 0} → Result (Vec X) FieldFail → List ℕ → Field (List X) → Type 0
MayGiveItems (Ok xs) rest read = read ≡ Some (xs.items, rest)
MayGiveItems (Err e) rest read = FieldFails e read

-- ---- frames

-- memory is wanting only where the test says so
abbrev pub FrameFails : Bool → FrameFail → Result Frame FrameKind → Type 0
FrameFails wants frames.NoMemory read = IsTrue wants
FrameFails wants (frames.Fault kind) read = read ≡ Err kind

-- the frame or the fault that reading gives, or memory is wanting, but only where the test says so
abbrev pub GivesFrame : Bool → Result Frame FrameFail → Result Frame FrameKind → Type 0
GivesFrame wants (Ok f) read = read ≡ Ok f
GivesFrame wants (Err e) read = FrameFails wants e read

-- the same for a frame that is lent
abbrev pub GivesLent : Bool → Result LentFrame FrameFail → Result Frame FrameKind → Type 0
GivesLent wants (Ok f) read = read ≡ Ok (frame_lent f)
GivesLent wants (Err e) read = FrameFails wants e read

-- memory is wanting only where the test says so; a fault stands at its place
abbrev pub DecodeFails : ℕ → Bool → DecodeFail → Result Frame FrameKind → Type 0
DecodeFails offset wants decodes.NoMemory read = IsTrue wants
DecodeFails offset wants (decodes.Fault fault) read = (fault.offset ≡ offset) × (read ≡ Err fault.kind)

-- the frame, or the fault at its place, that reading gives, or memory is wanting, but only where the test says so
abbrev pub GivesAt : ℕ → Bool → Result Frame DecodeFail → Result Frame FrameKind → Type 0
GivesAt offset wants (Ok f) read = read ≡ Ok f
GivesAt offset wants (Err e) read = DecodeFails offset wants e read

-- the same for a frame that is lent
abbrev pub GivesLentAt : ℕ → Bool → Result LentFrame DecodeFail → Result Frame FrameKind → Type 0
GivesLentAt offset wants (Ok f) read = read ≡ Ok (frame_lent f)
GivesLentAt offset wants (Err e) read = DecodeFails offset wants e read
