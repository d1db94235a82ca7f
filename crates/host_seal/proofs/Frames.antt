-- The frames of one more message.
use Rattle.std.proofs.Common.{◌≡◌, List, [], ◌∷◌, ◌++◌}
use Rattle.std.proofs.lemmas.List.{flat_map_more}
use Rattle.edit_message.specs.declared.message.Message.{Message}
use Rattle.edit_frame.specs.declared.frame.Frame.TheVariants.{Item}
use Rattle.edit_frame.specs.Spelling.{spelling}
use Rattle.host_seal.specs.Frames.{item_frames}

-- the frame of one more message stands behind the others
pub frames_more : (taken : List Message) (m : Message) → item_frames taken ++ spelling (Item m) ≡ item_frames (taken ++ m ∷ [])
frames_more taken m = flat_map_more (λ (n : Message). spelling (Item n)) [] taken m
