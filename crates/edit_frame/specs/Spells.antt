-- Which bytes spell which frame.
use Rattle.std.specs.Prelude.{◌≡◌, ℕ, ◌^◌, ◌<◌, Bool, true, List, slice_index}
use Rattle.edit_message.specs.Formed.{is_message}
use Rattle.edit_frame.specs.declared.frame.Frame.{Frame}
use Rattle.edit_frame.specs.declared.frame.Frame.TheVariants.{Item, Turn, End}
use Rattle.edit_frame.specs.Spelling.{spelling}

-- each is a byte: below 256
abbrev pub IsBytes : List ℕ → Type 0
IsBytes bytes = (i : ℕ) → slice_index bytes i < 2 ^ 8

-- its message, if it has one, is well formed
abbrev pub is_frame : Frame → Bool
is_frame (Item message) = is_message message
is_frame Turn = true
is_frame End = true

-- the bytes are the spelling of the frame, whose message is well formed
pub record Spells (bytes : List ℕ) (f : Frame) : Type 0 where
  pub spelled : bytes ≡ spelling f
  pub formed : is_frame f ≡ true
