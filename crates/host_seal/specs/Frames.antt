-- What a seal is the digest of.
use Rattle.std.specs.Prelude.{◌≡◌, ℕ, List, length}
use Rattle.std.specs.List.{flat_map}
use Rattle.sha2.specs.declared.Sha256.{Sha256}
use Rattle.sha2.specs.Hashers.{Holds256}
use Rattle.edit_message.specs.declared.message.Message.{Message}
use Rattle.edit_frame.specs.declared.frame.Frame.TheVariants.{Item}
use Rattle.edit_frame.specs.Spelling.{spelling}

-- the frames of messages, one behind another
abbrev pub item_frames : List Message → List ℕ
item_frames messages = flat_map (λ m. spelling (Item m)) messages

-- a hasher holds the frames of these messages, and this is their number
pub record HoldsFrames (hasher : Sha256) (items : ℕ) (taken : List Message) : Type 0 where
  pub count : items ≡ length taken
  pub frames : Holds256 hasher (item_frames taken)
