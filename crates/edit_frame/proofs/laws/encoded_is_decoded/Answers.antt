use Rattle.std.proofs.Common.{length, refl}
use Rattle.std.specs.List.{flat_map}
use Rattle.edit_frame.specs.Spelling.{spelling}
use Rattle.edit_frame.proofs.Frames.{decoded_again, frame_at_again}
use Rattle.edit_frame.proofs.Streams.{all_of}
use Rattle.edit_frame.proofs.laws.encoded_is_decoded.Goals as goal

pub returns-clause-alone : goal.returns-clause-alone
returns-clause-alone c = λ f h. decoded_again (spelling f) f (record { spelled = refl; formed = h })

pub returns-clause-prefix : goal.returns-clause-prefix
returns-clause-prefix c = frame_at_again

pub returns-clause-all : goal.returns-clause-all
returns-clause-all c = λ frames rest kind h e.
    all_of _ frames (record { offset = length (flat_map spelling frames); rest = rest }) kind (record { whole = refl; each = h; place = refl }) e
