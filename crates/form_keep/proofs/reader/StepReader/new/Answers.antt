use Rattle.std.proofs.Common.{refl}
use Rattle.form_keep.proofs.Reading.{unread_source}
use Rattle.form_keep.proofs.reader.StepReader.new.Goals as goal

pub returns : goal.returns
returns c left = unread_source left _ c.new.ensures.items refl refl refl
