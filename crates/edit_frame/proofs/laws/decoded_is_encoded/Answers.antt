use Rattle.edit_frame.proofs.Frames.{decoded_spells}
use Rattle.edit_frame.proofs.Streams.{prefix_spells, stream_spelled, stream_rest}
use Rattle.edit_frame.proofs.laws.decoded_is_encoded.Goals as goal

pub returns : goal.returns
returns c = record { alone = decoded_spells; prefix = prefix_spells; all = stream_spelled; rest = stream_rest }
